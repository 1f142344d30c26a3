-- Literals, filled from where they break off.
use Rattle.std.specs.Prelude.{codes}
use Rattle.std.proofs.lemmas.Bool.Decides.{nat_tests}
use Rattle.std.proofs.Common.{◌≡◌, ◌≢◌, ℕ, zero, suc, ◌+◌, ◌-◌, ◌*◌, ◌≤◌, ◌⊎◌, inl, inr, Bool, true, false, List, [], ◌∷◌, ◌++◌, length, refl, sym, ap, ◌∙◌, subst, arith, append_assoc}
use Rattle.task_model.specs.Terms.Text.{Text}
use Rattle.task_model.specs.Terms.Value.{as_values, count_of}
use Rattle.task_model.specs.Syntax.Literal.{bool_text}
use Rattle.task_model.specs.Terms.Token.{IsDigit, AreDigits, number_from, SpellsNumber, IsText, spelled}
use Rattle.literal_text.specs.Literals.{LiteralForm, literal, further, LiteralParse, unit, bool, int, text, pair, empty, list, last, more, literal_bytes, value, spaces, minus_text, IsWithinLiteralLimits, AreWithinLiteralLimits, levels_of, levels_in}
use Rattle.literal_text.specs.LiteralReading.{most}
use Rattle.literal_text.proofs.IntLemmas.{signed_fits, fits_signed}
use Rattle.input_lines.specs.declared.next.Next.TheVariants as nexts
use Rattle.input_lines.specs.declared.bracket.Bracket.{Bracket}
use Rattle.input_lines.specs.declared.bracket.Bracket.TheVariants.{First, Last}
use Rattle.input_lines.specs.declared.standing.Standing.{Standing}
use Rattle.input_lines.specs.ShortestRest.{shortest_rest, behind_byte, behind_bytes}
use Rattle.input_lines.proofs.FillLemmas.{standing, Fills, Both, both_are, Is, both, widen, none, first, token, counted}
use Rattle.input_lines.proofs.TextFills.{ContentWithin, content_fills}

-- ---- languages
abbrev pub Spaces : Text → Type 0
Spaces t = (n : ℕ) × (t ≡ spaces n)

-- a literal of at most so many levels
pub record LiteralWithin (room : ℕ) (t : Text) : Type 0 where
  pub parse : LiteralParse literal
  pub are : t ≡ literal_bytes parse
  pub limits : IsWithinLiteralLimits (value parse)
  pub levels : levels_of (value parse) ≤ room

-- what stands behind an element of a list: at most so many further ones, of at most so many levels
pub record FurtherWithin (many room : ℕ) (t : Text) : Type 0 where
  pub parse : LiteralParse further
  pub are : t ≡ literal_bytes parse
  pub few : count_of (as_values (value parse)) ≤ many
  pub limits : AreWithinLiteralLimits (as_values (value parse))
  pub levels : levels_in (as_values (value parse)) ≤ room

-- ---- where a literal begins and ends
abbrev pub at_value : List Bracket → Standing
at_value k = standing (nexts.Value 0) k

abbrev pub at_end : List Bracket → Standing
at_end k = standing (nexts.Word 0) k

digit_fits : (room : ℕ) → 1 ≤ room → LiteralWithin room (48 ∷ [])
digit_fits room le = record {
  parse = int false (48 ∷ []) 0 ((λ e. cc), ((omega arith, omega arith), tt), refl) 0;
  are = refl;
  limits = signed_fits false 0 (omega arith);
  levels = le;
}

-- a literal's first byte
begins : {room : ℕ} {k : List Bracket} {m : Standing} {t : Text} (c : ℕ) → 1 ≤ room → behind_byte (at_value k) c ≡ m
    → Fills m (at_end k) (λ a. LiteralWithin room (c ∷ a)) t → Fills (at_value k) (at_end k) (LiteralWithin room) (c ∷ t)
begins {room} c some to f = first c (48 ∷ []) to (digit_fits room some) (omega arith) f

pub spaces_fill : {s : Standing} → behind_byte s 32 ≡ s → (n : ℕ) → Fills s s Spaces (spaces n)
spaces_fill stays zero = none (0, refl)
spaces_fill stays (suc n) =
    first 32 [] stays (0, refl) (omega arith) (widen (λ a (m, e). (suc m, ap (λ l. 32 ∷ l) e)) (spaces_fill stays n))

-- ---- ints
digit_stays : (k : List Bracket) (c : ℕ) → IsDigit c → behind_byte (at_end k) c ≡ at_end k
digit_stays k c d = grind (arith, nat_tests)

digit_begins : (k : List Bracket) (c : ℕ) → IsDigit c → behind_byte (at_value k) c ≡ at_end k
digit_begins k c d = grind (arith, nat_tests)

number_grows : (so_far : ℕ) (t : Text) → so_far ≤ number_from so_far t
number_grows so_far [] = omega arith
number_grows so_far (d ∷ t) = let h = number_grows (so_far * 10 + (d - 48)) t in omega (arith, h)

-- digits behind a number so far
abbrev DigitsWithin : ℕ → ℕ → Text → Type 0
DigitsWithin limit so_far t = AreDigits t × (number_from so_far t ≤ limit)

abbrev NumberWithin : ℕ → Text → Type 0
NumberWithin limit t = (n : ℕ) × SpellsNumber t n × (n ≤ limit)

digits_fill : (k : List Bracket) (limit so_far : ℕ) (t : Text) → DigitsWithin limit so_far t
    → Fills (at_end k) (at_end k) (DigitsWithin limit so_far) t
digits_fill k limit so_far [] (are, le) = none (are, le)
digits_fill k limit so_far (d ∷ t) ((is, are), le) =
    let high = number_grows so_far (d ∷ t) in
    first d [] (digit_stays k d is) (tt, omega (arith, high, le)) (omega arith)
    (widen (λ a (ds, few). ((is, ds), few)) (digits_fill k limit (so_far * 10 + (d - 48)) t (are, le)))

number_fills : (k : List Bracket) (limit : ℕ) (s : Standing) → ((d : ℕ) → IsDigit d → behind_byte s d ≡ at_end k)
    → suc (shortest_rest (at_end k)) ≤ shortest_rest s → (t : Text) → NumberWithin limit t → Fills s (at_end k) (NumberWithin limit) t
number_fills k limit s to le [] (n, (some, are, is), few) = absurd (some refl)
number_fills k limit s to le (d ∷ t) (n, (some, (digit, are), is), few) =
    first d (48 ∷ []) (to d digit) (0, ((λ e. cc), ((omega arith, omega arith), tt), refl), omega arith) (omega (arith, le))
    (widen (λ a (ds, small). (_, ((λ e. cc), (digit, ds), refl), small))
    (digits_fill k limit (0 * 10 + (d - 48)) t (are, omega (arith, is, few))))

int_whole : (room : ℕ) (negative : Bool) (t : Text) → 1 ≤ room → Both (NumberWithin (most negative)) Spaces t
    → LiteralWithin room (minus_text negative ++ t)
int_whole room negative t some h =
    let (n, is, few) = h.first in
    let (m, e) = h.next in record {
      parse = int negative h.front n is m;
      are = ap (λ l. minus_text negative ++ l) (both_are h refl e);
      limits = signed_fits negative n few;
      levels = some;
    }

int_fills : (room : ℕ) (k : List Bracket) (negative : Bool) (digits : Text) (n m : ℕ) → SpellsNumber digits n → n ≤ most negative
    → 1 ≤ room → Fills (at_value k) (at_end k) (LiteralWithin room) (minus_text negative ++ (digits ++ spaces m))
int_fills room k true digits n m is few some =
    let number = number_fills k (most true) (standing (nexts.Word 1) k) (λ d digit. refl) (omega arith) digits (n, is, few) in
    begins 45 some refl (widen (λ a h. int_whole room true a some h) (both number (spaces_fill refl m)))
int_fills room k false digits n m is few some =
    let number = number_fills k (most false) (at_value k) (digit_begins k) (omega arith) digits (n, is, few) in
    widen (λ a h. int_whole room false a some h) (both number (spaces_fill refl m))

-- ---- words and texts
pub word_fills : (k : List Bracket) (t : Text) → Fills (standing (nexts.Word (length t)) k) (at_end k) (Is t) t
word_fills k t = counted (λ n. standing (nexts.Word n) k) (λ n c. refl) (λ n. omega arith) t

bool_whole : (room : ℕ) (b : Bool) (t : Text) → 1 ≤ room → Spaces t → LiteralWithin room (bool_text b ++ t)
bool_whole room b t some (n, e) = record { parse = bool b n; are = ap (λ l. bool_text b ++ l) e; limits = tt; levels = some }

bool_fills : (room : ℕ) (k : List Bracket) (b : Bool) (n : ℕ) → 1 ≤ room
    → Fills (at_value k) (at_end k) (LiteralWithin room) (bool_text b ++ spaces n)
bool_fills room k true n some = begins 116 some refl (widen
    (λ a h. subst (λ l. LiteralWithin room (116 ∷ l)) (sym (both_are h h.first refl)) (bool_whole room true h.back some h.next))
    (both (word_fills k (codes "rue")) (spaces_fill refl n)))
bool_fills room k false n some = begins 102 some refl (widen
    (λ a h. subst (λ l. LiteralWithin room (102 ∷ l)) (sym (both_are h h.first refl)) (bool_whole room false h.back some h.next))
    (both (word_fills k (codes "alse")) (spaces_fill refl n)))

text_whole : (room : ℕ) (t : Text) → 1 ≤ room → Both (ContentWithin 65536) (Both (Is (34 ∷ [])) Spaces) t → LiteralWithin room (34 ∷ t)
text_whole room t some h =
    let c = h.first in
    let end = h.next in
    let (n, e) = end.next in record {
      parse = text ((34 ∷ spelled c.parts) ++ (34 ∷ [])) c.content (c.parts, refl, c.is) n;
      are = ap (λ l. 34 ∷ l) (both_are h c.are (both_are end end.first e) ∙ sym (append_assoc (spelled c.parts) (34 ∷ []) (spaces n)));
      limits = c.fits;
      levels = some;
    }

text_fills : (room : ℕ) (k : List Bracket) (quoted content : Text) (n : ℕ) → IsText quoted content → 1 ≤ room → length content ≤ 65536
    → Fills (at_value k) (at_end k) (LiteralWithin room) (quoted ++ spaces n)
text_fills room k quoted content n (ps, e, is) some few =
    subst (Fills (at_value k) (at_end k) (LiteralWithin room)) (whole ∙ ap (λ l. l ++ spaces n) (sym e))
    (begins 34 some refl (widen (λ a h. text_whole room a some h)
    (both (content_fills 65536 k ps content is few) (both (token 34 refl (omega arith)) (spaces_fill refl n)))))
  where
    whole : 34 ∷ (spelled ps ++ ((34 ∷ []) ++ spaces n)) ≡ ((34 ∷ spelled ps) ++ (34 ∷ [])) ++ spaces n
    whole = ap (λ l. 34 ∷ l) (sym (append_assoc (spelled ps) (34 ∷ []) (spaces n)))

-- ---- brackets
-- a literal begins with no space and no closing bracket
record Begins (t : Text) : Type 0 where
  pub byte : ℕ
  pub rest : Text
  pub are : t ≡ byte ∷ rest
  pub no_space : byte ≢ 32
  pub no_pair : byte ≢ 41
  pub no_list : byte ≢ 93

begins_with : (c : ℕ) (s t : Text) → t ≡ c ∷ s → c ≢ 32 → c ≢ 41 → c ≢ 93 → Begins t
begins_with c s t e no_space no_pair no_list =
    record { byte = c; rest = s; are = e; no_space = no_space; no_pair = no_pair; no_list = no_list }

digits_begin : (digits t : Text) (n : ℕ) → SpellsNumber digits n → Begins (digits ++ t)
digits_begin [] t n (some, are, is) = absurd (some refl)
digits_begin (d ∷ ds) t n (some, ((low, high), are), is) =
    begins_with d (ds ++ t) _ refl (omega (arith, low, high)) (omega (arith, low, high)) (omega (arith, low, high))

literal_begins : (d : LiteralParse literal) → Begins (literal_bytes d)
literal_begins (unit m n) = begins_with 40 _ _ refl (omega arith) (omega arith) (omega arith)
literal_begins (bool true n) = begins_with 116 _ _ refl (omega arith) (omega arith) (omega arith)
literal_begins (bool false n) = begins_with 102 _ _ refl (omega arith) (omega arith) (omega arith)
literal_begins (int true digits k is n) = begins_with 45 _ _ refl (omega arith) (omega arith) (omega arith)
literal_begins (int false digits k is n) = digits_begin digits (spaces n) k is
literal_begins (text quoted content (ps, e, is) n) =
    begins_with 34 _ _ (ap (λ l. l ++ spaces n) e) (omega arith) (omega arith) (omega arith)
literal_begins (pair m v k w n) = begins_with 40 _ _ refl (omega arith) (omega arith) (omega arith)
literal_begins (empty m n) = begins_with 91 _ _ refl (omega arith) (omega arith) (omega arith)
literal_begins (list m v vs) = begins_with 91 _ _ refl (omega arith) (omega arith) (omega arith)

-- a closing bracket and spaces
abbrev Closed : ℕ → Text → Type 0
Closed c t = (n : ℕ) × (t ≡ c ∷ spaces n)

closed_fills : {s m : Standing} (c : ℕ) → behind_byte s c ≡ m → behind_byte m 32 ≡ m → suc (shortest_rest m) ≤ shortest_rest s → (n : ℕ)
    → Fills s m (Closed c) (c ∷ spaces n)
closed_fills c to stays le n = first c (c ∷ []) to (0, refl) (omega (arith, le))
    (widen (λ a (k, e). (k, ap (λ l. c ∷ l) e)) (spaces_fill stays n))

-- what stands behind an opening bracket: nothing, or what goes on as a value inside
enters : {s m e : Standing} {A : Text → Type 0} {t : Text} (c : ℕ) (b : Begins t) → behind_byte s b.byte ≡ behind_byte m b.byte
    → suc (shortest_rest e) ≤ shortest_rest s → Fills m e A t → Fills s e (λ a. Closed c a ⊎ A a) t
enters {s} {m} {e} {A} {t} c b same le f = record {
  is = inr f.is;
  leads = ap (behind_bytes s) b.are ∙ ap (λ q. behind_bytes q b.rest) same ∙ sym (ap (behind_bytes m) b.are) ∙ f.leads;
  fills = λ p w h. go p w h (h ∙ b.are);
}
  where
    go : (p w : Text) → p ++ w ≡ t → p ++ w ≡ b.byte ∷ b.rest
        → (v : Text) × (Closed c (p ++ v) ⊎ A (p ++ v)) × (length v + shortest_rest e ≤ shortest_rest (behind_bytes s p))
    go [] w h at = (c ∷ [], inl (0, refl), omega (arith, le))
    go (d ∷ p) w h at =
        let is : b.byte ≡ d = cc in
        let on : behind_byte s d ≡ behind_byte m d = subst (λ q. behind_byte s q ≡ behind_byte m q) is same in
        let (v, whole, few) = f.fills (d ∷ p) w h in
        (v, inr whole, subst (λ q. length v + shortest_rest e ≤ shortest_rest (behind_bytes q p)) (sym on) few)

pair_opens : (k : List Bracket) (c : ℕ) → c ≢ 32 → c ≢ 41 → behind_byte (standing nexts.Pair k) c ≡ behind_byte (at_value (First ∷ k)) c
pair_opens k c no_space no_close = grind (arith, nat_tests)

list_opens : (k : List Bracket) (c : ℕ) → c ≢ 32 → c ≢ 93 → behind_byte (standing nexts.List k) c ≡ behind_byte (at_value (Last ∷ k)) c
list_opens k c no_space no_close = grind (arith, nat_tests)

-- ---- pairs
abbrev Parts : ℕ → Text → Type 0
Parts room = Both (LiteralWithin room) (Both (Is (44 ∷ [])) (Both Spaces (Both (LiteralWithin room) (Closed 41))))

parts_are : {room : ℕ} {t : Text} (h : Parts room t) → t ≡ literal_bytes h.first.parse
    ++ (44 ∷ (spaces h.next.next.first.0 ++ (literal_bytes h.next.next.next.first.parse ++ (41 ∷ spaces h.next.next.next.next.0))))
parts_are h =
    let comma = h.next in
    let gap = comma.next in
    let second = gap.next in
    both_are h h.first.are (both_are comma comma.first (both_are gap gap.first.1 (both_are second second.first.are second.next.1)))

pair_whole : (room all : ℕ) (t : Text) → suc room ≤ all → Both Spaces (λ a. Closed 41 a ⊎ Parts room a) t → LiteralWithin all (40 ∷ t)
pair_whole room all t le h = go h.next
  where
    go : Closed 41 h.back ⊎ Parts room h.back → LiteralWithin all (40 ∷ t)
    go (inl (n, e)) = record {
      parse = unit h.first.0 n;
      are = ap (λ l. 40 ∷ l) (both_are h h.first.1 e);
      limits = tt;
      levels = omega (arith, le);
    }
    go (inr q) = record {
      parse = pair h.first.0 q.first.parse q.next.next.first.0 q.next.next.next.first.parse q.next.next.next.next.0;
      are = ap (λ l. 40 ∷ l) (both_are h h.first.1 (parts_are q));
      limits = (q.first.limits, q.next.next.next.first.limits);
      levels = let one = q.first.levels in let two = q.next.next.next.first.levels in omega (arith, le, one, two);
    }

begins_more : {t : Text} (s : Text) → Begins t → Begins (t ++ s)
begins_more s b = begins_with b.byte (b.rest ++ s) _ (ap (λ l. l ++ s) b.are) b.no_space b.no_pair b.no_list

pair_fills : (room all m i n : ℕ) (k : List Bracket) {v w : Text} → suc room ≤ all → Begins v
    → ((k : List Bracket) → Fills (at_value k) (at_end k) (LiteralWithin room) v)
    → ((k : List Bracket) → Fills (at_value k) (at_end k) (LiteralWithin room) w)
    → Fills (at_value k) (at_end k) (LiteralWithin all) (40 ∷ (spaces m ++ (v ++ (44 ∷ (spaces i ++ (w ++ (41 ∷ spaces n)))))))
pair_fills room all m i n k {v} {w} le b one two =
    let b = begins_more (44 ∷ (spaces i ++ (w ++ (41 ∷ spaces n)))) b in
    begins 40 (omega (arith, le)) refl (widen (λ t h. pair_whole room all t le h) (both (spaces_fill refl m)
    (enters 41 b (pair_opens k b.byte b.no_space b.no_pair) (omega arith)
    (both (one (First ∷ k)) (both (token 44 refl (omega arith)) (both (spaces_fill refl i)
    (both (two (Last ∷ k)) (closed_fills 41 refl refl (omega arith) n))))))))

unit_fills : (all m n : ℕ) (k : List Bracket) → 1 ≤ all
    → Fills (at_value k) (at_end k) (LiteralWithin all) (40 ∷ (spaces m ++ (41 ∷ spaces n)))
unit_fills all m n k le = begins 40 le refl (widen (λ t h. pair_whole 0 all t le h) (both (spaces_fill refl m)
    (widen (λ t h. inl h) (closed_fills 41 refl refl (omega arith) n))))

-- ---- lists
abbrev Elements : ℕ → ℕ → Text → Type 0
Elements many room = Both (LiteralWithin room) (FurtherWithin many room)

list_whole : (room all : ℕ) (t : Text) → suc room ≤ all → Both Spaces (λ a. Closed 93 a ⊎ Elements 1023 room a) t
    → LiteralWithin all (91 ∷ t)
list_whole room all t le h = go h.next
  where
    go : Closed 93 h.back ⊎ Elements 1023 room h.back → LiteralWithin all (91 ∷ t)
    go (inl (n, e)) = record {
      parse = empty h.first.0 n;
      are = ap (λ l. 91 ∷ l) (both_are h h.first.1 e);
      limits = (omega arith, tt);
      levels = omega (arith, le);
    }
    go (inr q) = record {
      parse = list h.first.0 q.first.parse q.next.parse;
      are = ap (λ l. 91 ∷ l) (both_are h h.first.1 (both_are q q.first.are q.next.are));
      limits = (let few = q.next.few in omega (arith, few), (q.first.limits, q.next.limits));
      levels = let one = q.first.levels in let two = q.next.levels in omega (arith, le, one, two);
    }

last_whole : (many room n : ℕ) → FurtherWithin many room (93 ∷ spaces n)
last_whole many room n = record { parse = last n; are = refl; few = omega arith; limits = tt; levels = omega arith }

more_whole : (many all room : ℕ) (t : Text) → suc many ≤ all → Both Spaces (Elements many room) t → FurtherWithin all room (44 ∷ t)
more_whole many all room t le h = let q = h.next in record {
  parse = more h.first.0 q.first.parse q.next.parse;
  are = ap (λ l. 44 ∷ l) (both_are h h.first.1 (both_are q q.first.are q.next.are));
  few = let few = q.next.few in omega (arith, le, few);
  limits = (q.first.limits, q.next.limits);
  levels = let one = q.first.levels in let two = q.next.levels in omega (arith, one, two);
}

list_fills : (room all m : ℕ) (k : List Bracket) {v vs : Text} → suc room ≤ all → Begins v
    → Fills (at_value (Last ∷ k)) (at_end (Last ∷ k)) (LiteralWithin room) v
    → Fills (at_end (Last ∷ k)) (at_end k) (FurtherWithin 1023 room) vs
    → Fills (at_value k) (at_end k) (LiteralWithin all) (91 ∷ (spaces m ++ (v ++ vs)))
list_fills room all m k {v} {vs} le b one others =
    let b = begins_more vs b in
    begins 91 (omega (arith, le)) refl (widen (λ t h. list_whole room all t le h) (both (spaces_fill refl m)
    (enters 93 b (list_opens k b.byte b.no_space b.no_list) (omega arith) (both one others))))

empty_fills : (all m n : ℕ) (k : List Bracket) → 1 ≤ all
    → Fills (at_value k) (at_end k) (LiteralWithin all) (91 ∷ (spaces m ++ (93 ∷ spaces n)))
empty_fills all m n k le = begins 91 le refl (widen (λ t h. list_whole 0 all t le h) (both (spaces_fill refl m)
    (widen (λ t h. inl h) (closed_fills 93 refl refl (omega arith) n))))

last_fills : (many room n : ℕ) (k : List Bracket) → Fills (at_end (Last ∷ k)) (at_end k) (FurtherWithin many room) (93 ∷ spaces n)
last_fills many room n k = widen (λ t (m, e). subst (FurtherWithin many room) (sym e) (last_whole many room m))
    (closed_fills 93 refl refl (omega arith) n)

more_fills : (many all room i : ℕ) (k : List Bracket) {v vs : Text} → suc many ≤ all
    → Fills (at_value (Last ∷ k)) (at_end (Last ∷ k)) (LiteralWithin room) v
    → Fills (at_end (Last ∷ k)) (at_end k) (FurtherWithin many room) vs
    → Fills (at_end (Last ∷ k)) (at_end k) (FurtherWithin all room) (44 ∷ (spaces i ++ (v ++ vs)))
more_fills many all room i k le one others = first 44 (93 ∷ []) refl (last_whole all room 0) (omega arith)
    (widen (λ t h. more_whole many all room t le h) (both (spaces_fill refl i) (both one others)))

-- ---- all literals
abbrev Filled : (f : LiteralForm) → LiteralParse f → Type 0
Filled literal d = (room : ℕ) (k : List Bracket) → IsWithinLiteralLimits (value d) → levels_of (value d) ≤ room
    → Fills (at_value k) (at_end k) (LiteralWithin room) (literal_bytes d)
Filled further d = (many room : ℕ) (k : List Bracket) → count_of (as_values (value d)) ≤ many → AreWithinLiteralLimits (as_values (value d))
    → levels_in (as_values (value d)) ≤ room → Fills (at_end (Last ∷ k)) (at_end k) (FurtherWithin many room) (literal_bytes d)

pub literal_fills : {f : LiteralForm} (d : LiteralParse f) → Filled f d
literal_fills (unit m n) = λ room k limits levels. unit_fills room m n k levels
literal_fills (bool b n) = λ room k limits levels. bool_fills room k b n levels
literal_fills (int negative digits i is n) = λ room k limits levels.
    int_fills room k negative digits i n is (fits_signed negative i limits) levels
literal_fills (text quoted content is n) = λ room k limits levels. text_fills room k quoted content n is levels limits
literal_fills (pair m v i w n) = λ room k limits levels. pair_fills (room - 1) room m i n k (omega (arith, levels)) (literal_begins v)
    (λ k. literal_fills v (room - 1) k limits.0 (omega (arith, levels)))
    (λ k. literal_fills w (room - 1) k limits.1 (omega (arith, levels)))
literal_fills (empty m n) = λ room k limits levels. empty_fills room m n k levels
literal_fills (list m v vs) = λ room k limits levels. list_fills (room - 1) room m k (omega (arith, levels)) (literal_begins v)
    (literal_fills v (room - 1) (Last ∷ k) limits.1.0 (omega (arith, levels)))
    (literal_fills vs 1023 (room - 1) k (let few = limits.0 in omega (arith, few)) limits.1.1 (omega (arith, levels)))
literal_fills (last n) = λ many room k few limits levels. last_fills many room n k
literal_fills (more i v vs) = λ many room k few limits levels. more_fills (many - 1) many room i k (omega (arith, few))
    (literal_fills v room (Last ∷ k) limits.0 (omega (arith, levels)))
    (literal_fills vs (many - 1) room k (omega (arith, few)) limits.1 (omega (arith, levels)))
