-- Lines, filled from where they break off.
use Rattle.std.specs.Prelude.{codes, decimal}
use Rattle.std.proofs.lemmas.Bool.Decides.{nat_tests}
use Rattle.std.proofs.lemmas.Fmt.{decimal_digit}
use Rattle.std.proofs.Common.{◌≡◌, ◌≢◌, ℕ, ◌+◌, ◌/◌, ◌%◌, ◌≤◌, Bool, true, false, List, [], ◌∷◌, ◌++◌, length, refl, sym, ap, ◌∙◌, subst, arith, append_assoc}
use Rattle.exact_reading.proofs.Sequences.{append_nil}
use Rattle.task_model.specs.Terms.Text.{Text}
use Rattle.task_model.specs.Terms.Value.{ValueTerm}
use Rattle.task_model.specs.Running.State.{IsSeat}
use Rattle.task_model.specs.Showing.Page.{turns_text}
use Rattle.task_model.specs.declared.input.Turn.{Turn}
use Rattle.task_model.specs.declared.input.Turn.TheVariants as turns
use Rattle.literal_text.specs.Literals.{IsLiteral, IsWithinLiteralLimits, levels_of, value}
use Rattle.input_lines.specs.declared.next.Next.TheVariants as nexts
use Rattle.input_lines.specs.declared.standing.Standing.{Standing}
use Rattle.input_lines.specs.ShortestRest.{shortest_rest, behind_byte, at_start}
use Rattle.input_lines.specs.ScriptLines.{LineTerm, ActParse, next, left, right, set, act_bytes, LineParse, empty, comment, show, act, parse_bytes, parsed_line, return_text, IsScriptLine}
use Rattle.input_lines.proofs.FillLemmas.{standing, Fills, Both, both_are, Is, both, widen, none, first, token, counted}
use Rattle.input_lines.proofs.LiteralFills.{LiteralWithin, Spaces, at_value, at_end, spaces_fill, word_fills, literal_fills}
use Rattle.input_lines.proofs.SeatLemmas.{SeatShape, one, two, shape_of_seat}

-- ---- lines
abbrev pub SomeLine : Text → Type 0
SomeLine t = (l : LineTerm) × IsScriptLine t l

line_is : (d : LineParse) (r : Bool) (t : Text) → t ≡ parse_bytes d ++ return_text r → SomeLine t
line_is d r t e = (parsed_line d, record { parse = d; returned = r; are = e; stands_for = refl })

no_line : SomeLine []
no_line = line_is empty false [] refl

abbrev Return : Text → Type 0
Return t = (r : Bool) × (t ≡ return_text r)

return_fills : (r : Bool) → Fills (at_end []) (at_end []) Return (return_text r)
return_fills true = first 13 [] refl (false, refl) (omega arith) (none (true, refl))
return_fills false = none (false, refl)

-- ---- acts
abbrev SomeLiteral : Text → Type 0
SomeLiteral t = (v : ValueTerm) × IsLiteral t v

literal_whole : (t : Text) → Both Spaces (LiteralWithin 64) t → SomeLiteral t
literal_whole t h = (
  value h.next.parse,
  record {
    before = h.first.0;
    parse = h.next.parse;
    are = both_are h h.first.1 h.next.are;
    stands_for = refl;
    limits = h.next.limits;
    levels = h.next.levels;
  },
)

some_literal_fills : (t : Text) (v : ValueTerm) → IsLiteral t v → Fills (at_value []) (at_end []) SomeLiteral t
some_literal_fills t v is =
    let limits = subst IsWithinLiteralLimits is.stands_for is.limits in
    let levels = subst (λ w. levels_of w ≤ 64) is.stands_for is.levels in
    subst (Fills (at_value []) (at_end []) SomeLiteral) (sym is.are)
    (widen literal_whole (both (spaces_fill refl is.before) (literal_fills is.parse 64 [] limits levels)))

abbrev SomeAct : Text → Type 0
SomeAct t = (a : ActParse) × (t ≡ act_bytes a)

-- the letters in front of a value
set_fills : (t : Text) → Fills (standing (nexts.Value (length t)) []) (at_value []) (Is t) t
set_fills t = counted (λ n. standing (nexts.Value n) []) (λ n c. refl) (λ n. omega arith) t

word_of : (a : ActParse) (c : ℕ) (t : Text) → act_bytes a ≡ c ∷ t → (s : Text) → Is t s → SomeAct (c ∷ s)
word_of a c t e s same = (a, ap (λ l. c ∷ l) same ∙ sym e)

act_fills : (a : ActParse) → Fills (standing nexts.Act []) (at_end []) SomeAct (act_bytes a)
act_fills next = first 110 (codes "next") refl (next, refl) (omega arith)
    (widen (word_of next 110 (codes "ext") refl) (word_fills [] (codes "ext")))
act_fills left = first 108 (codes "next") refl (next, refl) (omega arith)
    (widen (word_of left 108 (codes "eft") refl) (word_fills [] (codes "eft")))
act_fills right = first 114 (codes "next") refl (next, refl) (omega arith)
    (widen (word_of right 114 (codes "ight") refl) (word_fills [] (codes "ight")))
act_fills (set literal v is) = first 115 (codes "next") refl (next, refl) (omega arith)
    (widen (λ t h. (set h.back h.next.0 h.next.1, ap (λ l. 115 ∷ l) (both_are h h.first refl)))
    (both (set_fills (codes "et ")) (some_literal_fills literal v is)))

-- ---- paths
abbrev SomeTurns : Text → Type 0
SomeTurns t = (path : List Turn) × (t ≡ turns_text path)

turns_fill : (path : List Turn) → Fills (standing nexts.Path []) (standing nexts.Path []) SomeTurns (turns_text path)
turns_fill [] = none ([], refl)
turns_fill (turns.First ∷ path) = first 70 [] refl ([], refl) (omega arith)
    (widen (λ t (more, e). (turns.First ∷ more, ap (λ l. 70 ∷ l) e)) (turns_fill path))
turns_fill (turns.Second ∷ path) = first 83 [] refl ([], refl) (omega arith)
    (widen (λ t (more, e). (turns.Second ∷ more, ap (λ l. 83 ∷ l) e)) (turns_fill path))

-- ---- behind a seat
regrouped : (seat path a r : Text) → seat ++ (32 ∷ (46 ∷ (path ++ (32 ∷ (a ++ r))))) ≡ (seat ++ (32 ∷ (46 ∷ (path ++ (32 ∷ a))))) ++ r
regrouped seat path a r = ap (λ l. seat ++ (32 ∷ (46 ∷ l))) (sym (append_assoc path (32 ∷ a) r))
    ∙ sym (append_assoc seat (32 ∷ (46 ∷ (path ++ (32 ∷ a)))) r)

module _ (seat : ℕ) (is : IsSeat seat) where
  abbrev Seated : Text → Type 0
  Seated t = SomeLine (decimal seat ++ t)

  shown : (r : Bool) (t : Text) → t ≡ codes " show" ++ return_text r → Seated t
  shown r t e = line_is (show seat is) r (decimal seat ++ t)
      (ap (λ l. decimal seat ++ l) e ∙ sym (append_assoc (decimal seat) (codes " show") (return_text r)))

  shown_whole : (t : Text) → Both (Is (codes "how")) Return t → Seated (32 ∷ (115 ∷ t))
  shown_whole t h = shown h.next.0 (32 ∷ (115 ∷ t)) (ap (λ l. 32 ∷ (115 ∷ l)) (both_are h h.first h.next.1))

  pub show_fills : (r : Bool) → Fills (standing nexts.Seat []) (at_end []) Seated (codes " show" ++ return_text r)
  show_fills r = first 32 (codes " show") refl (shown false (codes " show") refl) (omega arith)
      (first 115 (codes "show") refl (shown false (codes " show") refl) (omega arith)
      (widen shown_whole (both (word_fills [] (codes "how")) (return_fills r))))

  abbrev Given : Text → Type 0
  Given = Both SomeTurns (Both (Is (32 ∷ [])) (Both SomeAct Return))

  given_whole : (t : Text) → Given t → Seated (32 ∷ (46 ∷ t))
  given_whole t h =
      let gap = h.next in
      let acting = gap.next in
      let all = both_are h h.first.1 (both_are gap gap.first (both_are acting acting.first.1 acting.next.1)) in
      line_is (act seat is h.first.0 acting.first.0) acting.next.0 (decimal seat ++ (32 ∷ (46 ∷ t)))
      (ap (λ l. decimal seat ++ (32 ∷ (46 ∷ l))) all
      ∙ regrouped (decimal seat) (turns_text h.first.0) (act_bytes acting.first.0) (return_text acting.next.0))

  pub given_fills : (path : List Turn) (a : ActParse) (r : Bool)
      → Fills (standing nexts.Seat []) (at_end []) Seated (32 ∷ (46 ∷ (turns_text path ++ (32 ∷ (act_bytes a ++ return_text r)))))
  given_fills path a r = first 32 (codes " show") refl (shown false (codes " show") refl) (omega arith)
      (first 46 (codes "show") refl (shown false (codes " show") refl) (omega arith)
      (widen given_whole (both (turns_fill path) (both (token 32 refl (omega arith)) (both (act_fills a) (return_fills r))))))

-- ---- seats
seat_begins : (digit : ℕ) → digit ≢ 0 → behind_byte at_start (48 + digit) ≡ standing nexts.Seat []
seat_begins digit some = grind (arith, nat_tests)

seat_goes_on : (digit : ℕ) → behind_byte (standing nexts.Seat []) (48 + digit) ≡ standing nexts.Seat []
seat_goes_on digit = grind (arith, nat_tests)

seat_fills : (seat : ℕ) (is : IsSeat seat) {t : Text} → Fills (standing nexts.Seat []) (at_end []) (Seated seat is) t
    → Fills at_start (at_end []) SomeLine (decimal seat ++ t)
seat_fills seat is {t} f = go (shape_of_seat seat is)
  where
    go : SeatShape seat → Fills at_start (at_end []) SomeLine (decimal seat ++ t)
    go (one lt e) = subst (λ d. Fills at_start (at_end []) SomeLine (d ++ t)) (sym e)
        (first (48 + seat) [] (seat_begins seat (let some = is.0 in omega (arith, some))) no_line (omega arith)
        (widen (λ a h. subst (λ d. SomeLine (d ++ a)) e h) f))
    go (two le e) =
        let most = is.1 in
        let tens : IsSeat (seat / 10) = (omega (arith, le), omega (arith, most)) in
        let spells : decimal (seat / 10) ≡ (48 + seat / 10) ∷ [] = decimal_digit (seat / 10) (omega (arith, most)) in
        subst (λ d. Fills at_start (at_end []) SomeLine (d ++ t)) (sym e)
        (first (48 + seat / 10) [] (seat_begins (seat / 10) (omega (arith, le))) no_line (omega arith)
        (first (48 + seat % 10) (codes " show") (seat_goes_on (seat % 10))
        (subst (λ d. SomeLine (d ++ codes " show")) spells (shown (seat / 10) tens false (codes " show") refl)) (omega arith)
        (widen (λ a h. subst (λ d. SomeLine (d ++ a)) e h) f)))

-- ---- whole lines
-- a line that leads to an end
pub record Leads (t : Text) : Type 0 where
  pub end : Standing
  pub none_left : shortest_rest end ≡ 0
  pub fills : Fills at_start end SomeLine t

any_fills : (t : Text) → Fills (standing nexts.Comment []) (standing nexts.Comment []) (λ a. Unit {0}) t
any_fills [] = none tt
any_fills (c ∷ t) = first c [] refl tt (omega arith) (any_fills t)

comment_fills : (t : Text) → Fills (standing nexts.Comment []) (standing nexts.Comment []) (λ a. SomeLine (35 ∷ a)) t
comment_fills t = widen (λ a h. line_is (comment a) false (35 ∷ a) (sym (append_nil (35 ∷ a)))) (any_fills t)

pub leads : (t : Text) → SomeLine t → Leads t
leads t (l, h) = subst Leads (sym h.are) (go h.parse h.returned)
  where
    at_word : {t : Text} → Fills at_start (at_end []) SomeLine t → Leads t
    at_word f = record { end = at_end []; none_left = refl; fills = f }

    go : (d : LineParse) (r : Bool) → Leads (parse_bytes d ++ return_text r)
    go empty true = at_word (first 13 [] refl no_line (omega arith) (none (line_is empty true (13 ∷ []) refl)))
    go empty false = record { end = at_start; none_left = refl; fills = none no_line }
    go (comment bytes) r = record {
      end = standing nexts.Comment [];
      none_left = refl;
      fills = first 35 [] refl no_line (omega arith) (comment_fills (bytes ++ return_text r));
    }
    go (show seat is) r =
        at_word (subst (Fills at_start (at_end []) SomeLine) (sym (append_assoc (decimal seat) (codes " show") (return_text r)))
        (seat_fills seat is (show_fills seat is r)))
    go (act seat is path a) r =
        at_word (subst (Fills at_start (at_end []) SomeLine) (regrouped (decimal seat) (turns_text path) (act_bytes a) (return_text r))
        (seat_fills seat is (given_fills seat is path a r)))
