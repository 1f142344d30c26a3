use Rattle.std.proofs.Common.{refl, ap, ◌∙◌}
use Rattle.reader_grammar.specs.declared.lexeme.Lexeme.TheVariants.{Symbol, Keyword}
use Rattle.task_model.specs.Syntax.Grammar.{or, and, plus, minus, join, times, quot, rem}
use Rattle.reader_grammar.proofs.LeadingOperators.{first_is, operated, no_level, others}
use Rattle.reader_grammar.proofs.series.leading.Goals.{in-Symbol+in-Or, in-Symbol+in-And, in-Symbol+in-Plus, in-Symbol+in-Minus, in-Symbol+in-Join, in-Symbol+in-Star, in-Keyword+in-Quot, in-Keyword+in-Rem}
use Rattle.reader_grammar.proofs.series.leading.Goals as goal

pub returns-in_default-symbol : goal.returns-in_default-symbol
returns-in_default-symbol c =
    let d = c.in_default-symbol in
    no_level (first_is c.in_ok-first.ensures.cases.0 c.in-Symbol.is) (d.not-Or, d.not-And, d.not-Plus, d.not-Minus, d.not-Join, d.not-Star)

pub returns-in_default-keyword : goal.returns-in_default-keyword
returns-in_default-keyword c =
    let d = c.in_default-keyword in no_level (first_is c.in_ok-first.ensures.cases.0 c.in-Keyword.is) (d.not-Quot, d.not-Rem)

pub returns-in_default : goal.returns-in_default
returns-in_default c =
    let d = c.in_default in no_level (first_is c.in_ok-first.ensures.cases.0 refl) (others _ _ d.not-Symbol d.not-Keyword)

pub returns : goal.returns
returns c =
    let e = c.in_ok-first.ensures.cases.0 in
    elim c.match-first.branch [
      | in-Symbol+in-Or w ↦ operated e (w.in-Symbol.is ∙ ap (λ s. Symbol s) w.in-Or.is) w.level-is or refl refl
      | in-Symbol+in-And w ↦ operated e (w.in-Symbol.is ∙ ap (λ s. Symbol s) w.in-And.is) w.level-is and refl refl
      | in-Symbol+in-Plus w ↦ operated e (w.in-Symbol.is ∙ ap (λ s. Symbol s) w.in-Plus.is) w.level-is plus refl refl
      | in-Symbol+in-Minus w ↦ operated e (w.in-Symbol.is ∙ ap (λ s. Symbol s) w.in-Minus.is) w.level-is minus refl refl
      | in-Symbol+in-Join w ↦ operated e (w.in-Symbol.is ∙ ap (λ s. Symbol s) w.in-Join.is) w.level-is join refl refl
      | in-Symbol+in-Star w ↦ operated e (w.in-Symbol.is ∙ ap (λ s. Symbol s) w.in-Star.is) w.level-is times refl refl
      | in-Keyword+in-Quot w ↦ operated e (w.in-Keyword.is ∙ ap (λ k. Keyword k) w.in-Quot.is) w.level-is quot refl refl
      | in-Keyword+in-Rem w ↦ operated e (w.in-Keyword.is ∙ ap (λ k. Keyword k) w.in-Rem.is) w.level-is rem refl refl
    ]
