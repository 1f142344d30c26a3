-- What is told of the lines of a script that is run on a journal, line by line (docs/FORMATS.md, "Answers").
use Rattle.std.specs.Prelude.{ℕ, ◌≡◌, ◌+◌, ◌⊎◌, List, [], ◌∷◌}
use Rattle.task_model.specs.Terms.Text.{Text}
use Rattle.world_core.specs.World.{WorldTerm}
use Rattle.line_frame.specs.Told.{Told, told_after}
use Rattle.line_frame.specs.declared.finish.Finish.{Finish}
use Rattle.line_frame.specs.declared.finish.Finish.TheVariants.{Bad}
use Rattle.input_lines.specs.ScriptLines.{LineTerm}
use Rattle.input_lines.specs.LinePlaces.{IsLineWithin, IsBadLine}
use Rattle.journal_runs.specs.KeptAnswers.{KeptAnswers}

-- a line in the grammar is answered, and then what is told of those behind it is told
pub record TellsKeptAnswer (longest : ℕ) (line : Text) (w : WorldTerm) (TellsRest : WorldTerm → Told → Type 0) (told : Told) : Type 0 where
  pub asked : LineTerm
  pub is : IsLineWithin longest line asked
  pub text : Text
  pub next : WorldTerm
  pub rest : Told
  pub answers : KeptAnswers w asked text next
  pub tells : TellsRest next rest
  pub all : told ≡ told_after text rest

-- a line outside the grammar ends the run
pub record TellsBadLine (longest : ℕ) (line : Text) (number : ℕ) (told : Told) : Type 0 where
  pub place : ℕ
  pub bad : IsBadLine longest line place
  pub all : told ≡ record { output = []; finish = Bad number (place + 1) }

-- this is told of these lines, the first of which has this number
abbrev pub TellsOverJournal : ℕ → WorldTerm → ℕ → List Text → Finish → Told → Type 0
TellsOverJournal longest w number [] finish told = told ≡ record { output = []; finish = finish }
TellsOverJournal longest w number (line ∷ lines) finish told =
    TellsKeptAnswer longest line w (λ next rest. TellsOverJournal longest next (number + 1) lines finish rest) told
    ⊎ TellsBadLine longest line number told
