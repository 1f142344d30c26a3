-- From the answer for the first bytes of a line to what is said of all within the limit.
use Rattle.std.proofs.lemmas.List.{take-append-drop, take-append-le, take_all}
use Rattle.std.proofs.Common.{◌≡◌, ℕ, ◌+◌, ◌≤◌, ◌<◌, Ok, Err, [], ◌++◌, length, take, drop, refl, sym, ap, ◌∙◌, subst, arith, append_assoc}
use Rattle.exact_reading.specs.declared.stop.FaultKind.{FaultKind}
use Rattle.exact_reading.specs.declared.stop.FaultKind.TheVariants.{Unexpected}
use Rattle.exact_reading.specs.declared.stop.ParseStop.TheVariants.{Fault}
use Rattle.exact_reading.specs.Reading.{IsViablePrefix, Always, Right}
use Rattle.exact_reading.specs.Whole.{IsFault, IsFirstFault}
use Rattle.exact_reading.proofs.Whole.{whole_only, refused, always_unexpected, no_word}
use Rattle.task_model.specs.Terms.Text.{Text}
use Rattle.line_frame.specs.declared.machine.LineStop.{LineStop}
use Rattle.line_frame.specs.declared.machine.LineStop.TheVariants.{Bad, Memory}
use Rattle.input_lines.specs.ScriptLines.{LineTerm, LineParse, empty, comment, show, act, parsed_line, IsScriptLine, HasSeat}
use Rattle.input_lines.specs.LinePlaces.{IsLineWithin, IsBadColumn}
use Rattle.input_lines.specs.LineFronts.{IsFrontColumn}
use Rattle.input_lines.specs.LineReading.{AtEnd}
use Rattle.input_lines.proofs.FrontLemmas.{some_line, line_over_long, fault_cut, bad_line}

-- a line's seat is one
pub line_seat : (t : Text) (l : LineTerm) → IsScriptLine t l → HasSeat l
line_seat t l h = subst HasSeat (sym h.stands_for) (go h.parse)
  where
    go : (p : LineParse) → HasSeat (parsed_line p)
    go empty = tt
    go (comment bytes) = tt
    go (show seat is) = is
    go (act seat is path p) = is

-- ---- a fault in the first bytes
pub fault_at : {t : Text} {kind : FaultKind} {left place : ℕ} → Right IsScriptLine Always AtEnd t (Err (Fault kind left))
    → place + left ≡ length t → IsFirstFault IsScriptLine Always t Unexpected place
fault_at right sum = always_unexpected (refused refl right sum)

front_of : {t : Text} {place : ℕ} (fault : IsFirstFault IsScriptLine Always t Unexpected place) → take place t ≡ fault.front
front_of {place = place} fault =
    let at = fault.at in
    ap (take place) fault.split ∙ take-append-le place fault.front fault.back (omega (arith, at))
    ∙ take_all place fault.front (omega (arith, at))

pub fault_begins : {t : Text} {place : ℕ} → IsFirstFault IsScriptLine Always t Unexpected place
    → IsViablePrefix IsScriptLine Always (take place t)
fault_begins fault = subst (IsViablePrefix IsScriptLine Always) (sym (front_of fault)) (fault.begins some_line)

-- the column behind the longest front of a front behind which nothing goes on within the limit
column_of : (longest : ℕ) (t front rest : Text) (e : LineStop) → t ≡ front ++ rest
    → IsFault (IsLineWithin longest) Always front rest Unexpected → IsFrontColumn longest front e → IsBadColumn longest t e
column_of longest t front rest (Bad column) split stops (place, is, at) = (place, bad_line longest t front rest place split is stops, at)
column_of longest t front rest Memory split stops is = tt

-- ---- the first bytes of all
module _ (longest : ℕ) (t : Text) {front : Text} (cut : front ≡ take longest t) where
  all_of : length t ≤ longest → front ≡ t
  all_of le = cut ∙ take_all longest t le

  split_of : t ≡ front ++ drop longest t
  split_of = sym (take-append-drop longest t) ∙ ap (λ l. l ++ drop longest t) (sym cut)

  -- a line within the limit is what was read
  pub line_only : {m : LineTerm} → Right IsScriptLine Always AtEnd front (Ok (m, [])) → (l : LineTerm) → IsScriptLine t l
      → length t ≤ longest → m ≡ l
  line_only {m} right l is le = sym (whole_only {y = l} refl right (subst (λ s. IsScriptLine s l) (sym (all_of le)) is)).1

  -- where they are at fault, all are no line within the limit
  pub fault_no_line : {place : ℕ} → IsFirstFault IsScriptLine Always front Unexpected place → (l : LineTerm) → IsScriptLine t l
      → length t ≤ longest → ⊥
  fault_no_line fault l is le = no_word fault (subst (λ s. IsScriptLine s l) (sym (all_of le)) is) tt

  pub fault_column : {place : ℕ} (e : LineStop) → IsFirstFault IsScriptLine Always front Unexpected place
      → IsFrontColumn longest (take place front) e → IsBadColumn longest t e
  fault_column e fault is = column_of longest t fault.front (fault.back ++ drop longest t) e
      (split_of ∙ ap (λ l. l ++ drop longest t) fault.split ∙ append_assoc fault.front fault.back (drop longest t))
      (fault_cut longest t fault.front fault.back (sym cut ∙ fault.split) fault.stops)
      (subst (λ f. IsFrontColumn longest f e) (front_of fault) is)

  pub over_column : (e : LineStop) → longest < length t → IsFrontColumn longest front e → IsBadColumn longest t e
  over_column e over is = column_of longest t front (drop longest t) e split_of
      (subst (λ f. IsFault (IsLineWithin longest) Always f (drop longest t) Unexpected) (sym cut) (line_over_long longest t over)) is
