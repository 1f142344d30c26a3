-- A series as the loop over its operators goes on, whatever is shown of it and of its parts: expressions, tasks and listings alike.
use Rattle.std.proofs.Common.{◌≡◌, ℕ, ◌+◌, ◌≤◌, ◌<◌, max, List, ◌∷◌, ◌++◌, length, Ok, Err, sym, ap, ◌∙◌, arith, append_assoc}
use Rattle.exact_reading.specs.declared.stop.ParseStop.{ParseStop}
use Rattle.exact_reading.specs.declared.stop.ParseStop.TheVariants.{Fault}
use Rattle.exact_reading.specs.declared.stop.FaultKind.TheVariants.{TooNested}
use Rattle.exact_reading.specs.Reading.{IsWithinLevels, Answer, Right}
use Rattle.task_model.specs.Syntax.Lexemes.{Lexeme}
use Rattle.task_model.specs.Syntax.Grammar.{Series, series, Operator, operator, part_of, above, Parse, single, joined, tokens, levels}
use Rattle.reader_grammar.specs.Languages.{Of, EndsForm, Reads}
use Rattle.reader_grammar.proofs.BodyTokens.{before_rest}
use Rattle.reader_grammar.proofs.GrammarLemmas.{least_levels}
use Rattle.reader_grammar.proofs.SeriesLemmas.{Tail}
use Rattle.reader_grammar.proofs.SeriesLemmas as chains
use Rattle.reader_grammar.proofs.ExpressionRules.{operators_apart}

-- some parts were read, and the rest goes on
pub record Going (s : Series) {Y : Type 0} (show : Parse (series s) → Y) (room : ℕ) (ts : List Lexeme) (left : Y)
    (rest : List Lexeme) : Type 0 where
  pub parse : Parse (series s) × ℕ
  pub shows : show parse.0 ≡ left
  pub levels_are : levels parse.0 ≡ parse.1
  pub split : ts ≡ tokens parse.0 ++ rest
  pub fits : parse.1 ≤ room
  pub goes_on : (r : Answer Lexeme (Parse (series s) × ℕ))
      → Right (Tail s parse) (IsWithinLevels room) (EndsForm (series s)) rest r
      → Right (Of (series s)) (IsWithinLevels room) (EndsForm (series s)) ts r

module _ (s : Series) {Y : Type 0} (show : Parse (series s) → Y) {room : ℕ} {ts : List Lexeme} where
  pub begin_stop : {X : Type 0} (part : Parse (part_of s) → X) {e : ParseStop} → Reads (part_of s) part room ts (Err e)
      → Reads (series s) show room ts (Err e)
  begin_stop part h = record { by = chains.part_stop s h.by }

  pub begin : {X : Type 0} {part : Parse (part_of s) → X} {first : X} {left : Y} {rest : List Lexeme}
      → ((d : Parse (part_of s)) → part d ≡ first → show (single s d) ≡ left) → Reads (part_of s) part room ts (Ok (first, rest))
      → Going s show room ts left rest
  begin alone h =
      let (x, shows, right) = h.by in
      record {
        parse = (single s x.0, x.1);
        shows = alone x.0 shows;
        levels_are = right.by.found.1;
        split = before_rest right;
        fits = right.by.fits;
        goes_on = λ r tail. chains.part_found s right tail;
      }

  module _ {left : Y} {rest : List Lexeme} (g : Going s show room ts left rest) where
    some : 1 ≤ g.parse.1
    some = let few = least_levels g.parse.0 in let same = g.levels_are in omega (arith, few, same)

    -- the levels of what was read, by what the code keeps of them
    counted : (count : Y → ℕ) → ((d : Parse (series s)) → count (show d) ≡ levels d) → count left ≡ g.parse.1
    counted count same = ap count (sym g.shows) ∙ same g.parse.0 ∙ g.levels_are

    module _ {after : List Lexeme} (o : Operator s) (p : ℕ) (e : rest ≡ operator o p ∷ after) where
      -- the operator is there, and no room for it
      pub no_room : (count : Y → ℕ) → ((d : Parse (series s)) → count (show d) ≡ levels d) → room < above s + count left
          → Reads (series s) show room ts (Err (Fault TooNested (length rest)))
      no_room count same lt =
          let n = counted count same in
          record { by = g.goes_on _ (chains.deep s (operators_apart s) o p e some (omega (arith, lt, n))) }

      -- the operator is there, and room for it and for what was read
      module _ {within : ℕ} (up : above s + within ≡ room) (enough : above s + g.parse.1 ≤ room) where
        pub next_stop : {X : Type 0} (part : Parse (part_of s) → X) {x : ParseStop} → Reads (part_of s) part within after (Err x)
            → Reads (series s) show room ts (Err x)
        next_stop part h = record {
          by = g.goes_on _ (chains.more s (operators_apart s) o p e some enough
              (chains.next_stop s g.parse o p up enough h.by));
        }

        pub next : {X : Type 0} {part : Parse (part_of s) → X} {right : X} {new : Y} {behind : List Lexeme}
            → ((x : Parse (series s)) (y : Parse (part_of s)) → show x ≡ left → part y ≡ right → show (joined s x o p y) ≡ new)
            → Reads (part_of s) part within after (Ok (right, behind)) → Going s show room ts new behind
        next {behind = behind} both h =
            let (y, shows, found) = h.by in
            let fits = found.by.fits in
            let left_levels = g.levels_are in
            let right_levels = found.by.found.1 in
            record {
              parse = (joined s g.parse.0 o p y.0, above s + max g.parse.1 y.1);
              shows = both g.parse.0 y.0 g.shows shows;
              levels_are = omega (arith, left_levels, right_levels);
              split = g.split
                  ∙ ap (λ l. tokens g.parse.0 ++ l) (e ∙ ap (λ l. operator o p ∷ l) (before_rest found))
                  ∙ sym (append_assoc (tokens g.parse.0) (operator o p ∷ tokens y.0) behind);
              fits = omega (arith, up, enough, fits);
              goes_on = λ r tail. g.goes_on r
                  (chains.more s (operators_apart s) o p e some enough (chains.next_found s g.parse o p up enough found tail));
            }

    -- room for an operator, by what the code keeps of the levels
    pub enough : (count : Y → ℕ) → ((d : Parse (series s)) → count (show d) ≡ levels d) → above s + count left ≤ room
        → above s + g.parse.1 ≤ room
    enough count same le = let n = counted count same in omega (arith, le, n)

    -- no operator comes
    pub finish : ((o : Operator s) (p : ℕ) (y : List Lexeme) → rest ≡ operator o p ∷ y → ⊥)
        → Reads (series s) show room ts (Ok (left, rest))
    finish none = record { by = (g.parse, g.shows, g.goes_on _ (chains.end s none g.fits)) }
