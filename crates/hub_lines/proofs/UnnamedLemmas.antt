-- Lines that name no world.
use Rattle.std.specs.Prelude.{decimal}
use Rattle.std.proofs.Common.{◌≡◌, ℕ, Bool, false, Ok, Err, [], ◌∷◌, ◌++◌, refl, sym, ap, ◌∙◌, subst, inl, inr, ◌⊎◌, arith}
use Rattle.exact_reading.specs.declared.stop.FaultKind.{FaultKind}
use Rattle.exact_reading.specs.declared.stop.FaultKind.TheVariants.{Unexpected, TooNested}
use Rattle.exact_reading.specs.declared.stop.ParseStop.{ParseStop}
use Rattle.exact_reading.specs.declared.stop.ParseStop.TheVariants.{Fault, Memory}
use Rattle.exact_reading.specs.Reading.{SharesPrefix, IsDeadEnd, IsViablePrefix, Always, Faulty, Right}
use Rattle.exact_reading.proofs.Sequences.{append_nil}
use Rattle.task_model.specs.Terms.Text.{Text}
use Rattle.task_model.specs.Running.State.{IsSeat}
use Rattle.literal_text.specs.LiteralReading.{NoDigit}
use Rattle.input_lines.specs.ScriptLines.{LineTerm, nothing, LineParse, empty, comment, show, act, parse_bytes, return_text, IsScriptLine}
use Rattle.input_lines.specs.LinePlaces.{IsLineWithin}
use Rattle.input_lines.specs.LineReading.{AtEnd}
use Rattle.input_lines.proofs.SeatLemmas.{first_digit}
use Rattle.hub_lines.specs.HubLines.{HubTerm, no_world, IsWorldCount, HubParse, unnamed, remark, named, hub_bytes, parsed_hub, IsHubLine, IsHubLineWithin}
use Rattle.hub_lines.proofs.ToEndLemmas.{all_of}

-- what begins with a seat's number begins with a digit
numbered : (n : ℕ) → IsSeat n → (t rest : Text) → t ≡ decimal n ++ rest → NoDigit t → ⊥
numbered n is t rest are none =
    let (digit, s, e, d, low) = first_digit n is in
    let all : t ≡ digit ∷ (s ++ rest) = are ∙ ap (λ k. k ++ rest) e in
    (subst NoDigit all none) d

-- what goes on as bytes do that don't begin with a digit doesn't, either
shares_no_digit : (front back s : Text) → NoDigit (front ++ back) → SharesPrefix front back s → NoDigit s
shares_no_digit [] [] s none b = subst NoDigit (sym b) tt
shares_no_digit [] (t ∷ back) s none (y, b) = subst NoDigit (sym b) none
shares_no_digit (c ∷ front) [] s none b = subst NoDigit (sym b) none
shares_no_digit (c ∷ front) (t ∷ back) s none (y, b) = subst NoDigit (sym b) none

seat_bytes : (p q r : Text) → (p ++ q) ++ r ≡ p ++ (q ++ r)
seat_bytes [] q r = refl
seat_bytes (x ∷ p) q r = ap (λ k. x ∷ k) (seat_bytes p q r)

module _ (worlds longest : ℕ) (count : IsWorldCount worlds) where
  parse_to_hub : (t : Text) (p : LineParse) (r : Bool) → t ≡ parse_bytes p ++ return_text r → NoDigit t → IsHubLine worlds t no_world
  parse_to_hub t empty r are none = record { parse = unnamed r; are = are; stands_for = refl }
  parse_to_hub t (comment bytes) r are none = record { parse = remark (bytes ++ return_text r); are = are; stands_for = refl }
  parse_to_hub t (show seat is) r are none = absurd (numbered seat is t _ (are ∙ seat_bytes (decimal seat) _ (return_text r)) none)
  parse_to_hub t (act seat is path a) r are none = absurd (numbered seat is t _ (are ∙ seat_bytes (decimal seat) _ (return_text r)) none)

  to_hub : (t : Text) (l : LineTerm) → NoDigit t → IsLineWithin longest t l → IsHubLineWithin worlds longest t no_world
  to_hub t l none (is, le) = (parse_to_hub t is.parse is.returned is.are none, le)

  parse_to_line : (t : Text) (h : HubTerm) (p : HubParse worlds) → t ≡ hub_bytes p → h ≡ parsed_hub p → NoDigit t
      → IsScriptLine t nothing × (h ≡ no_world)
  parse_to_line t h (unnamed r) are is none = (record { parse = empty; returned = r; are = are; stands_for = refl }, is)
  parse_to_line t h (remark bytes) are is none =
      (record { parse = comment bytes; returned = false; are = are ∙ sym (append_nil (35 ∷ bytes)); stands_for = refl }, is)
  parse_to_line t h (named number at line l asks) are is none =
      absurd (numbered number (at.0, let within = at.1 in let few = count.1 in omega (arith, within, few)) t (32 ∷ line) are none)

  to_line : (t : Text) (h : HubTerm) → NoDigit t → IsHubLineWithin worlds longest t h → IsLineWithin longest t nothing × (h ≡ no_world)
  to_line t h none (is, le) = let p = parse_to_line t h is.parse is.are is.stands_for none in ((p.0, le), p.1)

  -- what ends at the end
  ends_so : (a z : Text) → AtEnd z → NoDigit (a ++ z) → NoDigit a
  ends_so a z hz none = subst NoDigit (ap (λ k. a ++ k) hz ∙ append_nil a) none

  pub unnamed_right : (ts : Text) (l : LineTerm) → NoDigit ts → Right (IsLineWithin longest) Always AtEnd ts (Ok (l, []))
      → Right (IsHubLineWithin worlds longest) Always AtEnd ts (Ok (no_world, []))
  unnamed_right ts l none right =
      let f = right.by in
      let whole : ts ≡ f.front = f.split ∙ append_nil f.front in
      record {
        by = record {
          front = ts;
          split = sym (append_nil ts);
          found = to_hub ts l none (subst (λ k. IsLineWithin longest k l) (sym whole) f.found);
          fits = tt;
          only = λ a h z is hz b.
              let same = all_of ts a z hz b in
              (same, (to_line ts h none (subst (λ k. IsHubLineWithin worlds longest k h) same is)).1);
        };
      }

  alive : (ts front back : Text) → ts ≡ front ++ back → NoDigit ts → (front ≡ []) ⊎ IsViablePrefix (IsLineWithin longest) Always front
      → (front ≡ []) ⊎ IsViablePrefix (IsHubLineWithin worlds longest) Always front
  alive ts front back split none (inl e) = inl e
  alive ts [] back split none (inr is) = inl refl
  alive ts (c ∷ front) back split none (inr (w, l, is, _)) =
      inr (w, no_world, to_hub ((c ∷ front) ++ w) l (subst NoDigit split none) is, tt)

  dead : (ts front back : Text) → ts ≡ front ++ back → NoDigit ts → IsDeadEnd (IsLineWithin longest) Always AtEnd front back
      → IsDeadEnd (IsHubLineWithin worlds longest) Always AtEnd front back
  dead ts front back split none ends a h z is fits hz b =
      let first = ends_so a z hz (shares_no_digit front back (a ++ z) (subst NoDigit split none) b) in
      ends a nothing z (to_line a h first is).0 tt hz b

  alive_byte : (ts front : Text) (byte : ℕ) (back : Text) → ts ≡ front ++ (byte ∷ back) → NoDigit ts
      → IsViablePrefix (IsLineWithin longest) Always (front ++ (byte ∷ []))
      → IsViablePrefix (IsHubLineWithin worlds longest) Always (front ++ (byte ∷ []))
  alive_byte ts [] byte back split none (w, l, is, _) = (w, no_world, to_hub (byte ∷ w) l (subst NoDigit split none) is, tt)
  alive_byte ts (c ∷ front) byte back split none (w, l, is, _) =
      (w, no_world, to_hub (((c ∷ front) ++ (byte ∷ [])) ++ w) l (subst NoDigit split none) is, tt)

  faulty : (ts front back : Text) (kind : FaultKind) → ts ≡ front ++ back → NoDigit ts
      → Faulty (IsLineWithin longest) Always AtEnd front back kind → Faulty (IsHubLineWithin worlds longest) Always AtEnd front back kind
  faulty ts front back Unexpected split none ends = dead ts front back split none ends
  faulty ts front back TooNested split none (ends, (t, y, e, is)) =
      (dead ts front back split none ends, (t, y, e, alive_byte ts front t y (split ∙ ap (λ k. front ++ k) e) none is))

  pub unnamed_stop : (ts : Text) (e : ParseStop) → NoDigit ts → Right (IsLineWithin longest) Always AtEnd ts (Err e)
      → Right (IsHubLineWithin worlds longest) Always AtEnd ts (Err e)
  unnamed_stop ts Memory none right = record { by = tt }
  unnamed_stop ts (Fault kind left) none right =
      let r = right.by in
      record {
        by = record {
          front = r.front;
          back = r.back;
          split = r.split;
          place = r.place;
          alive = alive ts r.front r.back r.split none r.alive;
          faulty = faulty ts r.front r.back kind r.split none r.faulty;
        };
      }
