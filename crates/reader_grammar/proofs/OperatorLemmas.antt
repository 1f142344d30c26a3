-- Operators between expressions that group to the left, as the loop over them goes on.
use Rattle.std.proofs.Common.{◌≡◌, ℕ, ◌+◌, ◌-◌, ◌≤◌, ◌<◌, List, ◌∷◌, length, Ok, Err, refl, sym, ap, ◌∙◌, arith}
use Rattle.task_model.specs.Terms.Host.{HostTerm, op_expr}
use Rattle.task_model.specs.declared.host.Op.{Op}
use Rattle.exact_reading.specs.declared.stop.ParseStop.{ParseStop}
use Rattle.exact_reading.specs.declared.stop.ParseStop.TheVariants.{Fault}
use Rattle.exact_reading.specs.declared.stop.FaultKind.TheVariants.{TooNested}
use Rattle.task_model.specs.Syntax.Lexemes.{Lexeme}
use Rattle.reader_grammar.specs.declared.series.Level.{Level}
use Rattle.reader_grammar.specs.declared.series.Level.TheVariants as levels_of
use Rattle.task_model.specs.Syntax.Grammar.{series, either, both, sum, product, Operator, or, and, plus, minus, join, times, quot, rem, operator, part_of, above, Parse, single, joined, levels}
use Rattle.reader_grammar.specs.Languages.{Reads}
use Rattle.reader_grammar.specs.Parts.{series_of, IsOperation, ParsedTerm, shown, shown_series, shown_part, over_two}
use Rattle.reader_grammar.proofs.ParsedLemmas.{starting}
use Rattle.reader_grammar.proofs.SeriesReading as loops
use Rattle.reader_grammar.proofs.StartLemmas.{start_joined}

one_above : (l : Level) → above (series_of l) ≡ 1
one_above levels_of.Either = refl
one_above levels_of.Both = refl
one_above levels_of.Sum = refl
one_above levels_of.Product = refl

single_shown : (l : Level) (d : Parse (part_of (series_of l))) → shown_series l (single (series_of l) d) ≡ shown_part l d
single_shown levels_of.Either d = refl
single_shown levels_of.Both d = refl
single_shown levels_of.Sum d = refl
single_shown levels_of.Product d = refl

series_levels : (l : Level) (d : Parse (series (series_of l))) → (shown_series l d).levels ≡ levels d
series_levels levels_of.Either d = refl
series_levels levels_of.Both d = refl
series_levels levels_of.Sum d = refl
series_levels levels_of.Product d = refl

-- an operator between two parts, which begins where the left one does
abbrev pub over : Op → ParsedTerm HostTerm → ParsedTerm HostTerm → ParsedTerm HostTerm
over op a b = over_two (op_expr op) a.start a b

over_as : {op op' : Op} (a b : ParsedTerm HostTerm) {p : ℕ} → p ≡ a.start → op ≡ op' → starting p (over op' a b) ≡ over op a b
over_as {op = op} {op' = op'} a b starts is = ap (λ n. starting n (over op' a b)) starts ∙ ap (λ q. over q a b) (sym is)

joined_shown : (l : Level) (x : Parse (series (series_of l))) (o : Operator (series_of l)) {op : Op} (p : ℕ)
    (y : Parse (part_of (series_of l)))
    → IsOperation (series_of l) o op → shown_series l (joined (series_of l) x o p y) ≡ over op (shown_series l x) (shown_part l y)
joined_shown levels_of.Either x or p y is = over_as (shown x) (shown y) (start_joined either x or p y) is
joined_shown levels_of.Both x and p y is = over_as (shown x) (shown y) (start_joined both x and p y) is
joined_shown levels_of.Sum x plus p y is = over_as (shown x) (shown y) (start_joined sum x plus p y) is
joined_shown levels_of.Sum x minus p y is = over_as (shown x) (shown y) (start_joined sum x minus p y) is
joined_shown levels_of.Sum x join p y is = over_as (shown x) (shown y) (start_joined sum x join p y) is
joined_shown levels_of.Product x times p y is = over_as (shown x) (shown y) (start_joined product x times p y) is
joined_shown levels_of.Product x quot p y is = over_as (shown x) (shown y) (start_joined product x quot p y) is
joined_shown levels_of.Product x rem p y is = over_as (shown x) (shown y) (start_joined product x rem p y) is

abbrev pub Going : (l : Level) → ℕ → List Lexeme → ParsedTerm HostTerm → List Lexeme → Type 0
Going l room ts left rest = loops.Going (series_of l) (shown_series l) room ts left rest

module _ (l : Level) {room : ℕ} {ts : List Lexeme} where
  pub begin_stop : {e : ParseStop} → Reads (part_of (series_of l)) (shown_part l) room ts (Err e)
      → Reads (series (series_of l)) (shown_series l) room ts (Err e)
  begin_stop h = loops.begin_stop (series_of l) (shown_series l) (shown_part l) h

  pub begin : {left : ParsedTerm HostTerm} {rest : List Lexeme} → Reads (part_of (series_of l)) (shown_part l) room ts (Ok (left, rest))
      → Going l room ts left rest
  begin h = loops.begin (series_of l) (shown_series l) (λ d shows. single_shown l d ∙ shows) h

  module _ {left : ParsedTerm HostTerm} {rest after : List Lexeme} (g : Going l room ts left rest) (o : Operator (series_of l)) (p : ℕ)
      (e : rest ≡ operator o p ∷ after) where
    pub no_room : room ≤ left.levels → Reads (series (series_of l)) (shown_series l) room ts (Err (Fault TooNested (length rest)))
    no_room le =
        let a = one_above l in
        loops.no_room (series_of l) (shown_series l) g o p e (λ q. q.levels) (series_levels l) (omega (arith, le, a))

    module _ (lt : left.levels < room) where
      up : above (series_of l) + (room - 1) ≡ room
      up = let a = one_above l in omega (arith, lt, a)

      enough : above (series_of l) + g.parse.1 ≤ room
      enough = let a = one_above l in loops.enough (series_of l) (shown_series l) g (λ q. q.levels) (series_levels l) (omega (arith, lt, a))

      pub next_stop : {s : ParseStop} → Reads (part_of (series_of l)) (shown_part l) (room - 1) after (Err s)
          → Reads (series (series_of l)) (shown_series l) room ts (Err s)
      next_stop h = loops.next_stop (series_of l) (shown_series l) g o p e up enough (shown_part l) h

      pub next : {op : Op} {right new : ParsedTerm HostTerm} {behind : List Lexeme}
          → IsOperation (series_of l) o op → Reads (part_of (series_of l)) (shown_part l) (room - 1) after (Ok (right, behind))
          → over op left right ≡ new → Going l room ts new behind
      next {op = op} {right = right} is h over_is =
          loops.next (series_of l) (shown_series l) g o p e up enough
          (λ x y left_is right_is. joined_shown l x o p y is ∙ ap (λ q. over op q (shown_part l y)) left_is
          ∙ ap (λ q. over op left q) right_is ∙ over_is) h

  pub finish : {left : ParsedTerm HostTerm} {rest : List Lexeme} → Going l room ts left rest
      → ((o : Operator (series_of l)) (p : ℕ) (s : List Lexeme) → rest ≡ operator o p ∷ s → ⊥)
      → Reads (series (series_of l)) (shown_series l) room ts (Ok (left, rest))
  finish g none = loops.finish (series_of l) (shown_series l) g none
