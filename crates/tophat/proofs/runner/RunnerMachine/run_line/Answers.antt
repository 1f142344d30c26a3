use Rattle.std.proofs.Common.{sym, subst}
use Rattle.line_frame.specs.Told.{TellsFirst}
use Rattle.world_core.specs.World.{world_term}
use Rattle.input_lines.specs.ScriptLines.{line_term}
use Rattle.tophat.specs.LineForms.{IsAsking, IsOutsideColumn}
use Rattle.tophat.specs.Session.{Tells}
use Rattle.world_answers.specs.declared.line_form.LineForm.{LineForm}
use Rattle.tophat.proofs.SessionLemmas.{answered_first, outside_stop}
use Rattle.tophat.proofs.runner.RunnerMachine.run_line.Goals as goal

pub returns-in-Ok-answer-clause-ok : goal.returns-in-Ok-answer-clause-ok
returns-in-Ok-answer-clause-ok g c = λ whole cut.
    let form = c.args.self.now.answering.form in
    let old = world_term c.args.self.now.answering.world in
    let new = world_term c.answer.new.self.world in
    let text = c.in-Ok-answer.text.list in
    subst (λ (f : LineForm). TellsFirst (Tells form 1048576 old) (Tells f 1048576 new) whole text) (sym c.in-Ok-answer.ensures.form)
    (answered_first form 1048576 old new c.args.line.now whole text (line_term c.in-Ok.line)
    (subst (λ (f : LineForm). IsAsking f 1048576 c.args.line.now (line_term c.in-Ok.line)) c.form.ensures c.in-Ok.ensures.found) cut
    c.in-Ok-answer.ensures.answers)

pub returns-in-Err-clause-bad : goal.returns-in-Err-clause-bad
returns-in-Err-clause-bad g c =
    outside_stop c.args.self.now.answering.form 1048576 (world_term c.args.self.now.answering.world) c.args.line.now c.in-Err.stop
    (subst (λ (f : LineForm). IsOutsideColumn f 1048576 c.args.line.now c.in-Err.stop) c.form.ensures c.in-Err.ensures.bad)
