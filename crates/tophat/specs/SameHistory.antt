-- What lines ask for leads to the same world in each form.
use Rattle.std.specs.Prelude.{◌≡◌, List, [], ◌∷◌}
use Rattle.task_model.specs.Terms.Text.{Text}
use Rattle.world_core.specs.World.{WorldTerm}
use Rattle.input_lines.specs.ScriptLines.{LineTerm}
use Rattle.world_answers.specs.declared.line_form.LineForm.{LineForm}
use Rattle.tophat.specs.LineForms.{Asking}
use Rattle.world_answers.specs.LineAnswers.{Answers}

-- these lines ask for this, one by one
abbrev pub AskFor : LineForm → List Text → List LineTerm → Type 0
AskFor form [] [] = Unit {0}
AskFor form [] (asked ∷ more) = ⊥
AskFor form (line ∷ lines) [] = ⊥
AskFor form (line ∷ lines) (asked ∷ more) = Asking form line asked × AskFor form lines more

-- what is asked for leads from a world to this one, where each is answered in this form
abbrev pub LinesLeadTo : LineForm → WorldTerm → List LineTerm → WorldTerm → Type 0
LinesLeadTo form w [] v = v ≡ w
LinesLeadTo form w (asked ∷ more) v = (text : Text) × (next : WorldTerm) × Answers form w asked text next × LinesLeadTo form next more v
