-- The text of a program (docs/LANGUAGE.md, "Grammar", "Levels", "Nodes and places").
use Rattle.std.specs.Prelude.{◌≡◌, ℕ, ◌≤◌, List, [], ◌∷◌, ◌++◌, length}
use Rattle.task_model.specs.Terms.Text.{Text}
use Rattle.task_model.specs.Terms.Program.{ProgramTerm}
use Rattle.task_model.specs.Terms.Token.{TokenTerm, HasTokens}
use Rattle.task_model.specs.Syntax.Lexemes.{token_terms}
use Rattle.task_model.specs.Syntax.Grammar.{program, Parse, tokens, levels}
use Rattle.task_model.specs.Syntax.Meaning.{program_of}
use Rattle.task_model.specs.Syntax.Nodes as nodes

-- The tokens of a source are those of this program, with at most 200 levels, and these are the places of its nodes in pre-order. The
-- length of the source stands last.
pub record HasReading (source : Text) (p : ProgramTerm) (places : List ℕ) : Type 0 where
  pub terms : List TokenTerm
  pub has : HasTokens source terms
  pub parse : Parse program
  pub reads : token_terms (tokens parse) ≡ terms
  pub within : levels parse ≤ 200
  pub stands_for : program_of parse ≡ p
  pub placed : places ≡ nodes.places parse ++ length source ∷ []

-- the same of a source of at most 1,048,576 bytes
pub record IsProgramText (source : Text) (p : ProgramTerm) (places : List ℕ) : Type 0 where
  pub short : length source ≤ 1048576
  pub reading : HasReading source p places
