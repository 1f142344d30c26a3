use Rattle.std.proofs.Common.{◌≡◌, ℕ, List, ◌∷◌}
use Rattle.task_model.specs.declared.keyword.Keyword.TheVariants as words
use Rattle.task_model.specs.Syntax.Lexemes.{Lexeme, keyword}
use Rattle.reader_tasks.specs.declared.binding.Binding.{Binding}
use Rattle.reader_tasks.specs.declared.binding.Binding.TheVariants.{Let, New}
use Rattle.reader_tasks.specs.TaskOperators.{binding_keyword}
use Rattle.reader_tasks.proofs.binding.binding_word.Goals as goal

neither : (ts : List Lexeme) → ((p : ℕ) (rest : List Lexeme) → ts ≡ keyword words.Let p ∷ rest → ⊥)
    → ((p : ℕ) (rest : List Lexeme) → ts ≡ keyword words.New p ∷ rest → ⊥) → (b : Binding) (p : ℕ) (rest : List Lexeme)
    → ts ≡ keyword (binding_keyword b) p ∷ rest → ⊥
neither ts no_let no_new Let p rest e = no_let p rest e
neither ts no_let no_new New p rest e = no_new p rest e

pub returns : goal.returns
returns c = neither _ c.in_default.ensures c.in_default-strip_keyword.ensures
