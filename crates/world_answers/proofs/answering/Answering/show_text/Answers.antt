use Rattle.std.proofs.Common.{sym, subst, ap}
use Rattle.task_model.specs.Terms.Text.{Text}
use Rattle.world_core.specs.World.{world_term}
use Rattle.world_answers.specs.LineAnswers.{IsShown}
use Rattle.world_answers.specs.declared.line_form.LineForm.TheVariants.{Script}
use Rattle.world_answers.proofs.answering.Answering.show_text.Goals as goal

pub returns-clause-answers : goal.returns-clause-answers
returns-clause-answers g c = (
  subst (λ (z : Text). IsShown Script (world_term c.args.self.now.world) c.args.seat z) (sym c.into_bytes.ensures)
      c.in_ok-page.ensures.page,
  ap world_term c.in_ok-page.ensures.world,
)
