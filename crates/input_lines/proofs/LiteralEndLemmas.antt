-- Literals up to the first CR, and to the end of the line.
use Rattle.std.proofs.Common.{◌≡◌, ℕ, ◌+◌, ◌≤◌, Bool, true, false, [], ◌∷◌, ◌++◌, length, Ok, Err, refl, sym, ap, ◌∙◌, subst, arith, append_assoc, length-append, inr}
use Rattle.task_model.specs.Terms.Text.{Text}
use Rattle.task_model.specs.Terms.Value.{ValueTerm}
use Rattle.exact_reading.specs.declared.stop.ParseStop.{ParseStop}
use Rattle.exact_reading.specs.declared.stop.ParseStop.TheVariants.{Fault}
use Rattle.exact_reading.specs.declared.stop.FaultKind.TheVariants.{Unexpected}
use Rattle.exact_reading.specs.Reading.{SharesPrefix, IsDeadEnd, IsViablePrefix, Always, Right}
use Rattle.exact_reading.specs.Whole.{IsFirstFault, IsFault}
use Rattle.exact_reading.proofs.Sequences.{Bind, append_nil}
use Rattle.exact_reading.proofs.Productions.{then_right, then_stop, same_language}
use Rattle.literal_text.specs.Literals.{IsLiteral}
use Rattle.literal_text.proofs.SomeLiteral.{some_any}
use Rattle.input_lines.specs.ScriptLines.{return_text}
use Rattle.input_lines.specs.LineReading.{AtEnd, AtReturn, NoReturn, LineEnd, EndLiteral}
use Rattle.input_lines.proofs.Images.{image_right, image_stop}
use Rattle.input_lines.proofs.ReturnLemmas.{literal_free, no_return_front, no_return_back, within}

-- nothing of a literal stands behind a CR
all_before : (front back a z : Text) (v : ValueTerm) → NoReturn front → AtReturn back → IsLiteral a v → AtReturn z
    → SharesPrefix front back (a ++ z) → a ≡ front
all_before front [] a z v free at is end b =
    let (more, e, on) = within front [] a z free end (append_nil front ∙ sym b) in
    by_end more z e on
  where
    by_end : (more z : Text) → a ≡ front ++ more → [] ≡ more ++ z → a ≡ front
    by_end [] z e on = e ∙ append_nil front
    by_end (c ∷ more) z e on = absurd (let q : [] ≡ c ∷ (more ++ z) = on in cc)
all_before front (t ∷ back) a z v free at is end (y, b) =
    let (more, e, on) = within front (t ∷ y) a z free end (sym b) in
    by_more more e on
  where
    by_more : (more : Text) → a ≡ front ++ more → t ∷ y ≡ more ++ z → a ≡ front
    by_more [] e on = e ∙ append_nil front
    by_more (c ∷ more) e on =
        let same : c ≡ t = cc in
        let free : NoReturn (c ∷ more) = no_return_back front (c ∷ more) (subst NoReturn e (literal_free a v is)) in
        absurd (free.0 (same ∙ at))

pub literal_right : {ts front rest : Text} {v : ValueTerm} → ts ≡ front ++ rest → NoReturn front → AtReturn rest → IsLiteral front v
    → ((w : ValueTerm) → IsLiteral front w → v ≡ w) → Right IsLiteral Always AtReturn ts (Ok (v, rest))
literal_right {front = front} {rest = rest} e free at is one = record {
  by = record {
    front = front;
    split = e;
    found = is;
    fits = tt;
    only = λ a w z h hz b.
        let same = all_before front rest a z w free at h hz b in (same, sym (one w (subst (λ l. IsLiteral l w) same h)));
  };
}

module _ (literal rest : Text) (free : NoReturn literal) (at : AtReturn rest) where
  dead_at : (front back : Text) → literal ≡ front ++ back → IsFault IsLiteral Always front back Unexpected
      → IsDeadEnd IsLiteral Always AtReturn front (back ++ rest)
  dead_at front [] split stops a v z h _ hz b =
      let none : NoReturn front = no_return_front front [] (subst NoReturn split free) in
      stops v (subst (λ l. IsLiteral l v) (all_before front rest a z v none at h hz b) h)
  dead_at front (t ∷ back) split stops a v z h _ hz (y, b) =
      let more : literal ≡ (front ++ (t ∷ [])) ++ back = split ∙ sym (append_assoc front (t ∷ []) back) in
      let none : NoReturn (front ++ (t ∷ [])) = no_return_front (front ++ (t ∷ [])) back (subst NoReturn more free) in
      let (w, e, on) = within (front ++ (t ∷ [])) y a z none hz (append_assoc front (t ∷ []) y ∙ sym b) in
      stops (w, v, subst (λ l. IsLiteral l v) e h, tt)

  pub literal_stop : {ts : Text} {place left : ℕ} → ts ≡ literal ++ rest → IsFirstFault IsLiteral Always literal Unexpected place
      → place + left ≡ length ts → Right IsLiteral Always AtReturn ts (Err (Fault Unexpected left))
  literal_stop {left = left} e fault sum = record {
    by = record {
      front = fault.front;
      back = fault.back ++ rest;
      split = e ∙ ap (λ l. l ++ rest) fault.split ∙ append_assoc fault.front fault.back rest;
      place = let all = ap length (e ∙ ap (λ l. l ++ rest) fault.split ∙ append_assoc fault.front fault.back rest) in
          let both = length-append fault.front (fault.back ++ rest) in
          let here = fault.at in
          omega (arith, sum, all, both, here);
      alive = inr (fault.begins some_any);
      faulty = dead_at fault.front fault.back fault.split fault.stops;
    };
  }

pub place_within : {ts literal : Text} {place : ℕ} (rest : Text) → ts ≡ literal ++ rest
    → IsFirstFault IsLiteral Always literal Unexpected place
    → place ≤ length ts
place_within rest e fault =
    let all = ap length (e ∙ ap (λ l. l ++ rest) fault.split) in
    let both = length-append (fault.front ++ fault.back) rest in
    let parts = length-append fault.front fault.back in
    let here = fault.at in
    omega (arith, all, both, parts, here)

-- ---- to the end of the line
-- the end of the line, behind this value
record Ended (v : ValueTerm) (t : Text) (w : ValueTerm) : Type 0 where
  pub returned : Bool
  pub are : t ≡ return_text returned
  pub same : w ≡ v

literal_in : (a : Text) (v : ValueTerm) → Bind IsLiteral Ended a v → EndLiteral a v
literal_in a v h = record {
  literal = h.front;
  is = subst (λ w. IsLiteral h.front w) (sym h.next.same) h.first;
  returned = h.next.returned;
  are = h.split ∙ ap (λ l. h.front ++ l) h.next.are;
}

literal_out : (a : Text) (v : ValueTerm) → EndLiteral a v → Bind IsLiteral Ended a v
literal_out a v h = record {
  front = h.literal;
  back = return_text h.returned;
  value = v;
  split = h.are;
  first = h.is;
  next = record { returned = h.returned; are = refl; same = refl };
}

returned_at : (r : Bool) (b z : Text) → b ≡ return_text r → z ≡ [] → AtReturn (b ++ z)
returned_at true b z e end = subst (λ l. AtReturn (l ++ z)) (sym e) refl
returned_at false b z e end = subst (λ l. AtReturn (l ++ z)) (sym e) (subst AtReturn (sym end) tt)

ended_follows : (v : ValueTerm) (b : Text) (w : ValueTerm) (z : Text) → Ended v b w → AtEnd z → AtReturn (b ++ z)
ended_follows v b w z h end = returned_at h.returned b z h.are end

ended_alive : (v : ValueTerm) → IsViablePrefix (Ended v) Always []
ended_alive v = ([], v, record { returned = false; are = refl; same = refl }, tt)

ended_into : (v : ValueTerm) (a : Text) (x : Unit {0}) → LineEnd a x → Ended v a v
ended_into v a x h = record { returned = h.returned; are = h.are; same = refl }

ended_out : (v : ValueTerm) (a : Text) (w : ValueTerm) → Ended v a w → (x : Unit {0}) × LineEnd a x × (w ≡ v)
ended_out v a w h = (tt, record { returned = h.returned; are = h.are }, h.same)

pub end_literal_right : {ts rest : Text} {v : ValueTerm} → Right IsLiteral Always AtReturn ts (Ok (v, rest))
    → Right LineEnd Always AtEnd rest (Ok (tt, [])) → Right EndLiteral Always AtEnd ts (Ok (v, []))
end_literal_right {rest = rest} {v = v} found right = same_language (Bind IsLiteral Ended) EndLiteral literal_in literal_out
    (then_right ended_follows (ended_alive v) found
    (image_right LineEnd (Ended v) (λ _. v) AtEnd (ended_into v) (λ a w z h _ _. ended_out v a w h) right))

pub end_literal_after : {ts rest : Text} {v : ValueTerm} {e : ParseStop} → Right IsLiteral Always AtReturn ts (Ok (v, rest))
    → Right LineEnd Always AtEnd rest (Err e) → Right EndLiteral Always AtEnd ts (Err e)
end_literal_after {rest = rest} {v = v} found right = same_language (Bind IsLiteral Ended) EndLiteral literal_in literal_out
    (then_right ended_follows (ended_alive v) found
    (image_stop LineEnd (Ended v) (λ _. v) AtEnd (ended_into v) (λ a w z h _ _. ended_out v a w h) right))

pub end_literal_stop : {ts : Text} {e : ParseStop} → Right IsLiteral Always AtReturn ts (Err e) → Right EndLiteral Always AtEnd ts (Err e)
end_literal_stop right = same_language (Bind IsLiteral Ended) EndLiteral literal_in literal_out
    (then_stop ended_follows (λ a v h. ended_alive v) right)

pub end_literal_alive : IsViablePrefix EndLiteral Always []
end_literal_alive = let (t, v, h, _) = some_any in
    (t, v, record { literal = t; is = h; returned = false; are = sym (append_nil t) }, tt)
