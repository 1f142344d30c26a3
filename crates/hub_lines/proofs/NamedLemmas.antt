-- Lines that name a world.
use Rattle.std.specs.Prelude.{decimal}
use Rattle.std.proofs.Common.{◌≡◌, ℕ, ◌+◌, ◌-◌, ◌≤◌, true, false, Ok, Err, [], ◌∷◌, ◌++◌, length, get_or, refl, sym, ap, ◌∙◌, subst, arith, length-append}
use Rattle.exact_reading.specs.declared.stop.ParseStop.{ParseStop}
use Rattle.exact_reading.specs.Reading.{Language, SharesPrefix, IsViablePrefix, Always, Answer, Right, Tok, Anything}
use Rattle.exact_reading.proofs.Sequences.{Bind}
use Rattle.exact_reading.proofs.Productions.{then_right, then_stop, same_language, by_production, at_tokens}
use Rattle.task_model.specs.Terms.Text.{Text}
use Rattle.task_model.specs.Terms.Token.{IsDigit}
use Rattle.literal_text.specs.LiteralReading.{NoDigit}
use Rattle.input_lines.specs.ScriptLines.{LineTerm}
use Rattle.input_lines.specs.LinePlaces.{IsLineWithin}
use Rattle.input_lines.specs.LineReading.{AtEnd, SmallNumber}
use Rattle.input_lines.proofs.Images.{image_right, image_stop}
use Rattle.input_lines.proofs.SeatLemmas.{SeatShape, one, two, shape_of_seat}
use Rattle.hub_lines.specs.HubLines.{HubTerm, at_world, IsWorldCount, IsWorldNumber, HubParse, unnamed, remark, named, hub_bytes, parsed_hub, IsHubLineWithin}
use Rattle.hub_lines.specs.HubReading.{NamedLine, DigitFirst, left_behind}
use Rattle.hub_lines.proofs.ToEndLemmas.{some_line_within}

-- a world's number has one digit or two
pub number_length : (worlds n : ℕ) → IsWorldCount worlds → IsWorldNumber worlds n → length (decimal n) ≤ 2
number_length worlds n count is = go (shape_of_seat n (is.0, let few = count.1 in let within = is.1 in omega (arith, few, within)))
  where
    go : SeatShape n → length (decimal n) ≤ 2
    go (one lt e) = let same = ap length e in omega (arith, same)
    go (two le e) = let same = ap length e in omega (arith, same)

module _ (worlds longest : ℕ) where
  -- a line in what is left, as one of the world of this number
  record RestOf (number : ℕ) (t : Text) (h : HubTerm) : Type 0 where
    pub l : LineTerm
    pub is : IsLineWithin (left_behind longest number) t l
    pub same : h ≡ at_world number l

  rest_into : (number : ℕ) (t : Text) (l : LineTerm) → IsLineWithin (left_behind longest number) t l → RestOf number t (at_world number l)
  rest_into number t l is = record { l = l; is = is; same = refl }

  rest_out : (number : ℕ) (t : Text) (h : HubTerm) → RestOf number t h
      → (l : LineTerm) × IsLineWithin (left_behind longest number) t l × (h ≡ at_world number l)
  rest_out number t h r = (r.l, r.is, r.same)

  -- a space, and then this
  abbrev Spaced : ℕ → Language ℕ HubTerm
  Spaced number = Bind (Tok 32) (λ _. RestOf number)

  spaced_text : (number : ℕ) (t : Text) (h : HubTerm) (s : Spaced number t h) → t ≡ 32 ∷ s.back
  spaced_text number t h s = s.split ∙ ap (λ k. k ++ s.back) s.first

  rest_alive : (number : ℕ) → IsViablePrefix (RestOf number) Always []
  rest_alive number = let (w, l, is, _) = some_line_within (left_behind longest number) in (w, at_world number l, rest_into number w l is, tt)

  spaced_alive : (number : ℕ) → IsViablePrefix (Spaced number) Always []
  spaced_alive number = let (w, h, r, _) = rest_alive number in
      (32 ∷ w, h, record { front = 32 ∷ []; back = w; value = tt; split = refl; first = refl; next = r }, tt)

  abbrev Numbered : Language ℕ HubTerm
  Numbered = Bind (SmallNumber worlds) Spaced

  numbered_in : (a : Text) (h : HubTerm) → Numbered a h → NamedLine worlds longest a h
  numbered_in a h n = let s = n.next in record {
    number = n.value;
    is = n.first.is;
    line = s.back;
    l = s.next.l;
    asks = s.next.is;
    are = n.split ∙ ap (λ k. k ++ n.back) n.first.are ∙ ap (λ k. decimal n.value ++ k) (spaced_text n.value n.back h s);
    stands_for = s.next.same;
  }

  numbered_out : (a : Text) (h : HubTerm) → NamedLine worlds longest a h → Numbered a h
  numbered_out a h n = record {
    front = decimal n.number;
    back = 32 ∷ n.line;
    value = n.number;
    split = n.are;
    first = record { is = n.is; are = refl };
    next = record {
      front = 32 ∷ [];
      back = n.line;
      value = tt;
      split = refl;
      first = refl;
      next = record { l = n.l; is = n.asks; same = n.stands_for };
    };
  }

  no_digit : (number : ℕ) (b : Text) (h : HubTerm) (z : Text) → Spaced number b h → AtEnd z → NoDigit (b ++ z)
  no_digit number b h z s hz = subst (λ k. NoDigit (k ++ z)) (sym (spaced_text number b h s)) (λ is. omega (arith, is.0))

  pub number_stop : {ts : Text} {e : ParseStop} → Right (SmallNumber worlds) Always NoDigit ts (Err e)
      → Right (NamedLine worlds longest) Always AtEnd ts (Err e)
  number_stop stop = same_language Numbered (NamedLine worlds longest) numbered_in numbered_out
      (then_stop no_digit (λ a number h. spaced_alive number) stop)

  after_number : {ts rest : Text} {number : ℕ} {r : Answer ℕ HubTerm} → Right (SmallNumber worlds) Always NoDigit ts (Ok (number, rest))
      → Right (Spaced number) Always AtEnd rest r → Right (NamedLine worlds longest) Always AtEnd ts r
  after_number {number = number} found answer = same_language Numbered (NamedLine worlds longest) numbered_in numbered_out
      (then_right no_digit (spaced_alive number) found answer)

  pub space_stop : {ts rest : Text} {number : ℕ} {e : ParseStop} → Right (SmallNumber worlds) Always NoDigit ts (Ok (number, rest))
      → Right (Tok 32) Always Anything rest (Err e) → Right (NamedLine worlds longest) Always AtEnd ts (Err e)
  space_stop {number = number} found stop = after_number found (then_stop (λ _ _ _ _ _ _. tt) (λ _ _ _. rest_alive number) stop)

  pub line_stop : {ts rest after : Text} {number : ℕ} {e : ParseStop} → Right (SmallNumber worlds) Always NoDigit ts (Ok (number, rest))
      → Right (Tok 32) Always Anything rest (Ok (tt, after))
      → Right (IsLineWithin (left_behind longest number)) Always AtEnd after (Err e) → Right (NamedLine worlds longest) Always AtEnd ts (Err e)
  line_stop {number = number} found space stop = after_number found (then_right (λ _ _ _ _ _ _. tt) (rest_alive number) space
      (image_stop (IsLineWithin (left_behind longest number)) (RestOf number) (at_world number) AtEnd (rest_into number)
      (λ a y z h _ _. rest_out number a y h) stop))

  pub named_right : {ts rest after : Text} {number : ℕ} {l : LineTerm} → Right (SmallNumber worlds) Always NoDigit ts (Ok (number, rest))
      → Right (Tok 32) Always Anything rest (Ok (tt, after))
      → Right (IsLineWithin (left_behind longest number)) Always AtEnd after (Ok (l, []))
      → Right (NamedLine worlds longest) Always AtEnd ts (Ok (at_world number l, []))
  named_right {number = number} found space answer = after_number found (then_right (λ _ _ _ _ _ _. tt) (rest_alive number) space
      (image_right (IsLineWithin (left_behind longest number)) (RestOf number) (at_world number) AtEnd (rest_into number)
      (λ a y z h _ _. rest_out number a y h) answer))

  -- how many bytes the number and the space have
  pub front_length : {ts rest after : Text} {number : ℕ} → Right (SmallNumber worlds) Always NoDigit ts (Ok (number, rest))
      → Right (Tok 32) Always Anything rest (Ok (tt, after)) → length ts - length after ≡ length (decimal number) + 1
  front_length {ts = ts} {rest = rest} {after = after} {number = number} found space =
      let f = found.by in
      let s = space.by in
      let all = ap length f.split in
      let both = length-append f.front rest in
      let front = ap length f.found.are in
      let behind = ap length s.split in
      let space_and = length-append s.front after in
      let one = ap length s.found in
      omega (arith, all, both, front, behind, space_and, one)

  pub front_within : {ts rest : Text} {number : ℕ} → IsWorldCount worlds → Right (SmallNumber worlds) Always NoDigit ts (Ok (number, rest))
      → length (decimal number) ≤ 2
  front_within {number = number} count found = number_length worlds number count found.by.found.is

  -- ---- lines that begin with a digit
  length_of : (count : IsWorldCount worlds) → 3 ≤ longest → (a : Text) (number : ℕ) (line : Text) → IsWorldNumber worlds number
      → a ≡ decimal number ++ (32 ∷ line) → length line ≤ left_behind longest number → length a ≤ longest
  length_of count room a number line is are le =
      let all = ap length are in
      let both = length-append (decimal number) (32 ∷ line) in
      let few = number_length worlds number count is in
      omega (arith, all, both, few, le, room)

  named_into : IsWorldCount worlds → 3 ≤ longest → (a : Text) (h : HubTerm) → NamedLine worlds longest a h → IsHubLineWithin worlds longest a h
  named_into count room a h n = (
    record { parse = named n.number n.is n.line n.l n.asks.0; are = n.are; stands_for = n.stands_for },
    length_of count room a n.number n.line n.is n.are n.asks.1,
  )

  named_out : (byte : ℕ) (s a : Text) (h : HubTerm) (z : Text) → IsDigit byte → (p : HubParse worlds) → a ≡ hub_bytes p → h ≡ parsed_hub p
      → length a ≤ longest → z ≡ [] → SharesPrefix [] (byte ∷ s) (a ++ z) → NamedLine worlds longest a h
  named_out byte s a h z d (unnamed true) are is le hz (w, b) = absurd (let whole : (13 ∷ []) ++ z ≡ byte ∷ w = ap (λ k. k ++ z) (sym are) ∙ b in
      let q : 13 ≡ byte = cc in let low = d.0 in omega (arith, q, low))
  named_out byte s a h z d (unnamed false) are is le hz (w, b) = absurd (let whole : [] ++ [] ≡ byte ∷ w =
      ap (λ k. k ++ []) (sym are) ∙ ap (λ k. a ++ k) (sym hz) ∙ b in cc)
  named_out byte s a h z d (remark bytes) are is le hz (w, b) = absurd (let whole : (35 ∷ bytes) ++ z ≡ byte ∷ w =
      ap (λ k. k ++ z) (sym are) ∙ b in let q : 35 ≡ byte = ap (λ k. get_or k 0 0) whole in let low = d.0 in omega (arith, q, low))
  named_out byte s a h z d (named number at line l asks) are is le hz b = record {
    number = number;
    is = at;
    line = line;
    l = l;
    asks = (
      asks,
      let all = ap length are in let both = length-append (decimal number) (32 ∷ line) in omega (arith, all, both, le),
    );
    are = are;
    stands_for = is;
  }

  pub digit_right : {ts : Text} {r : Answer ℕ HubTerm} → IsWorldCount worlds → 3 ≤ longest → DigitFirst ts
      → Right (NamedLine worlds longest) Always AtEnd ts r → Right (IsHubLineWithin worlds longest) Always AtEnd ts r
  digit_right count room (byte, s, d, e) answer = at_tokens e (by_production (NamedLine worlds longest) (IsHubLineWithin worlds longest)
      (named_into count room) (λ a h z n hz b. named_out byte s a h z d n.0.parse n.0.are n.0.stands_for n.1 hz b)
      (at_tokens (sym e) answer))
