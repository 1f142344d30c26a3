use Rattle.std.proofs.Common.{◌≡◌, List, ◌++◌, drop, map}
use Rattle.task_model.specs.Terms.Text.{Text}
use Rattle.world_core.specs.World.{WorldTerm, world_term}
use Rattle.world_answers.specs.LineAnswers.{AnswersInTurn}
use Rattle.world_answers.specs.declared.line_form.LineForm.TheVariants.{Script}
use Rattle.hub_lines.specs.OwnLines.{addressed, own_lines}
use Rattle.world_hub.proofs.own.answer_own.Given as goal

-- What the lines to come are answered by goes behind what was answered.
abbrev pub invariant-loop-line : goal.invariant-loop-line
invariant-loop-line g l =
    (l.answering.form ≡ Script) × ((ts : List Text) (next : WorldTerm)
    → AnswersInTurn Script (world_term l.answering.world) (own_lines l.fn.job.number (map addressed (drop l.line-index l.lines))) ts next
    → AnswersInTurn Script (world_term l.fn.job.world) (own_lines l.fn.job.number (map addressed l.lines)) (map (λ t. t.list) l.texts.items ++ ts) next)
