use Rattle.std.proofs.Common.{subst}
use Rattle.line_frame.specs.RanScript.{RanScript}
use Rattle.line_frame.specs.declared.finish.Finish.{Finish}
use Rattle.world_core.specs.World.{SeenWorld, world_term}
use Rattle.world_answers.specs.declared.line_form.LineForm.{LineForm}
use Rattle.tophat.specs.Session.{Tells}
use Rattle.tophat.specs.Top.{limits}
use Rattle.tophat.proofs.OpeningLemmas.{same_verdict_after}
use Rattle.tophat.proofs.work.run_bytes.Goals as goal

pub returns-in-Ok-clause-ran : goal.returns-in-Ok-clause-ran
returns-in-Ok-clause-ran g c =
    let left_old = g.I.Source.left c.args.input.now in
    let left_new = g.I.Source.left c.run_script.new.input in
    let taken_old = g.O.Sink.taken c.args.out.now in
    let taken_new = g.O.Sink.taken c.run_script.new.out in
    let runner = c.new-runner.result in (
      c.in-Ok.world,
      c.in-Ok.ensures.opened,
      subst (λ (f : LineForm). RanScript (Tells f limits.line (world_term c.in-Ok.world) 1) limits.script left_old left_new taken_old taken_new
          c.run_script.result) c.new-runner.ensures.form
          (subst (λ (w : SeenWorld). RanScript (Tells runner.answering.form limits.line (world_term w) 1) limits.script left_old left_new taken_old taken_new
          c.run_script.result) c.new-runner.ensures.world c.run_script.ensures.ran),
    )

pub returns-in-Err-clause-verdict_is : goal.returns-in-Err-clause-verdict_is
returns-in-Err-clause-verdict_is g c = same_verdict_after SeenWorld Finish c.args.bytes.now c.in-Err.why c.in-Err.ensures.verdict_is
