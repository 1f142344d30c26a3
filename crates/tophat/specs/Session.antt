-- What is told of the lines of a script, line by line, in each form (docs/FORMATS.md, "Answers" and "JSON").
use Rattle.std.specs.Prelude.{ℕ, ◌≡◌, ◌+◌, ◌⊎◌, List, [], ◌∷◌}
use Rattle.task_model.specs.Terms.Text.{Text}
use Rattle.world_core.specs.World.{WorldTerm}
use Rattle.line_frame.specs.Told.{Told, told_after}
use Rattle.line_frame.specs.declared.finish.Finish.{Finish}
use Rattle.line_frame.specs.declared.finish.Finish.TheVariants.{Bad}
use Rattle.input_lines.specs.ScriptLines.{LineTerm}
use Rattle.world_answers.specs.declared.line_form.LineForm.{LineForm}
use Rattle.world_answers.specs.LineAnswers.{Answers}
use Rattle.tophat.specs.LineForms.{IsAsking, IsOutside}

-- a line in the form is answered, and then what is told of those behind it is told
pub record TellsAnswer (form : LineForm) (longest : ℕ) (line : Text) (w : WorldTerm) (TellsRest : WorldTerm → Told → Type 0) (told : Told) : Type 0 where
  pub asked : LineTerm
  pub is : IsAsking form longest line asked
  pub text : Text
  pub next : WorldTerm
  pub rest : Told
  pub answers : Answers form w asked text next
  pub tells : TellsRest next rest
  pub all : told ≡ told_after text rest

-- a line outside the form ends the run
pub record TellsOutside (form : LineForm) (longest : ℕ) (line : Text) (number : ℕ) (told : Told) : Type 0 where
  pub place : ℕ
  pub bad : IsOutside form longest line place
  pub all : told ≡ record { output = []; finish = Bad number (place + 1) }

-- this is told of these lines, the first of which has this number
abbrev pub Tells : LineForm → ℕ → WorldTerm → ℕ → List Text → Finish → Told → Type 0
Tells form longest w number [] finish told = told ≡ record { output = []; finish = finish }
Tells form longest w number (line ∷ lines) finish told =
    TellsAnswer form longest line w (λ next rest. Tells form longest next (number + 1) lines finish rest) told
    ⊎ TellsOutside form longest line number told
