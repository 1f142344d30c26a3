-- A line as all of some bytes.
use Rattle.std.proofs.Common.{◌≡◌, ℕ, ◌+◌, ◌≤◌, false, Ok, Err, [], ◌∷◌, ◌++◌, length, refl, sym, ap, ◌∙◌, subst, inr, arith, append_assoc, length-append}
use Rattle.exact_reading.specs.declared.stop.FaultKind.TheVariants.{Unexpected}
use Rattle.exact_reading.specs.declared.stop.ParseStop.TheVariants.{Fault}
use Rattle.exact_reading.specs.Reading.{SharesPrefix, IsDeadEnd, IsViablePrefix, Always, Right}
use Rattle.exact_reading.specs.Whole.{IsFault}
use Rattle.exact_reading.proofs.Sequences.{append_nil}
use Rattle.task_model.specs.Terms.Text.{Text}
use Rattle.line_frame.specs.declared.machine.LineStop.TheVariants.{Bad}
use Rattle.input_lines.specs.ScriptLines.{LineTerm, nothing, empty, IsScriptLine}
use Rattle.input_lines.specs.LinePlaces.{IsLineWithin, IsBadColumn}
use Rattle.input_lines.specs.LineReading.{AtEnd}
use Rattle.input_lines.proofs.Decisions.{one_line_meaning}

-- what ends at the end of the bytes is all of them
pub all_of : (t a z : Text) → AtEnd z → SharesPrefix t [] (a ++ z) → a ≡ t
all_of t a z hz b = sym (append_nil a) ∙ ap (λ k. a ++ k) (sym hz) ∙ b

module _ (longest : ℕ) where
  pub some_line_within : IsViablePrefix (IsLineWithin longest) Always []
  some_line_within =
      ([], nothing, (record { parse = empty; returned = false; are = refl; stands_for = refl }, omega arith), tt)

  pub to_end_right : (t : Text) (l : LineTerm) → IsScriptLine t l → length t ≤ longest → Right (IsLineWithin longest) Always AtEnd t (Ok (l, []))
  to_end_right t l is le = record {
    by = record {
      front = t;
      split = sym (append_nil t);
      found = (is, le);
      fits = tt;
      only = λ a m z h hz b.
          let same = all_of t a z hz b in
          (same, one_line_meaning t m l (subst (λ k. IsScriptLine k m) same h.0) is);
    };
  }

  dead : (front back : Text) → IsFault (IsLineWithin longest) Always front back Unexpected
      → IsDeadEnd (IsLineWithin longest) Always AtEnd front back
  dead front [] stops a l z h fits hz b = stops l (subst (λ k. IsLineWithin longest k l) (all_of front a z hz b) h)
  dead front (t ∷ back) stops a l z h fits hz (y, b) = stops (
    y,
    l,
    subst (λ k. IsLineWithin longest k l)
        (sym (append_nil a) ∙ ap (λ k. a ++ k) (sym hz) ∙ b ∙ sym (append_assoc front (t ∷ []) y)) h,
    tt,
  )

  pub to_end_stop : (t : Text) (column left : ℕ) → IsBadColumn longest t (Bad column) → left + column ≡ length t + 1
      → Right (IsLineWithin longest) Always AtEnd t (Err (Fault Unexpected left))
  to_end_stop t column left (place, bad, at) sum =
      let all = ap length bad.split in
      let both = length-append bad.front bad.back in
      let here = bad.at in
      record {
        by = record {
          front = bad.front;
          back = bad.back;
          split = bad.split;
          place = omega (arith, all, both, here, at, sum);
          alive = inr (bad.begins some_line_within);
          faulty = dead bad.front bad.back bad.stops;
        };
      }

  pub column_within : (t : Text) (column : ℕ) → IsBadColumn longest t (Bad column) → (1 ≤ column) × (column ≤ length t + 1)
  column_within t column (place, bad, at) =
      let all = ap length bad.split in
      let both = length-append bad.front bad.back in
      let here = bad.at in
      (omega (arith, at), omega (arith, all, both, here, at))
