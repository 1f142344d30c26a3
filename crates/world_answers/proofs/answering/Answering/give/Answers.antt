use Rattle.std.proofs.Common.{subst}
use Rattle.std.specs.Prelude.{IfOk}
use Rattle.task_model.specs.Terms.Input.{entry_term}
use Rattle.input_lines.specs.ScriptLines.{gives}
use Rattle.world_core.specs.World.{world_term}
use Rattle.world_answers.specs.LineAnswers.{Answers}
use Rattle.world_answers.specs.declared.line_form.LineForm.{LineForm}
use Rattle.world_answers.proofs.answering.Answering.give.Goals as goal

pub returns-clause-answers : goal.returns-clause-answers
returns-clause-answers g c =
    let w = world_term c.args.self.now.world in
    let e = entry_term c.args.entry in
    let new = world_term c.handle-reply.new.self.world in
    subst (λ (f : LineForm). IfOk c.reply_text.result (λ text. Answers f w (gives e) text.list new)) c.handle-reply.ensures.form
    (c.reply_text.ensures w e new c.handle-reply.ensures.replies c.version.ensures)
