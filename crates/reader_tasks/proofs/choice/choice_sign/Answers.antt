use Rattle.std.proofs.Common.{◌≡◌, ℕ, List, ◌∷◌}
use Rattle.task_model.specs.declared.symbol.Symbol.TheVariants as signs
use Rattle.task_model.specs.Syntax.Lexemes.{Lexeme, symbol}
use Rattle.task_model.specs.Syntax.Grammar.{choice, Operator, internal, external, operator}
use Rattle.reader_tasks.proofs.choice.choice_sign.Goals as goal

neither : (ts : List Lexeme) → ((p : ℕ) (rest : List Lexeme) → ts ≡ symbol signs.InternalChoice p ∷ rest → ⊥)
    → ((p : ℕ) (rest : List Lexeme) → ts ≡ symbol signs.ExternalChoice p ∷ rest → ⊥) → (o : Operator choice) (p : ℕ) (rest : List Lexeme)
    → ts ≡ operator o p ∷ rest → ⊥
neither ts no_internal no_external internal p rest e = no_internal p rest e
neither ts no_internal no_external external p rest e = no_external p rest e

pub returns : goal.returns
returns c = neither _ c.in_default.ensures c.in_default-strip_symbol.ensures
