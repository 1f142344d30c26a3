use Rattle.std.proofs.Common.{Some, Ok, Err, sym, subst, arith}
use Rattle.task_model.specs.Terms.Text.{Text}
use Rattle.line_frame.specs.declared.finish.Finish.{Finish}
use Rattle.tophat.specs.declared.ending.CommandEnding.TheVariants.{Unopened}
use Rattle.tophat.specs.Verdict.{HasVerdict}
use Rattle.tophat.specs.Top.{limits, runs}
use Rattle.tophat.specs.Worked.{Worked, OpensBytes, RunsBytes, HasVerdictAfter}
use Rattle.tophat.proofs.WorkLemmas.{run_asks, worked_file, worked_ran, worked_unopened}
use Rattle.tophat.proofs.work.run_file.Goals as goal

pub returns-in-Ok-run_bytes-clause-worked : goal.returns-in-Ok-run_bytes-clause-worked
returns-in-Ok-run_bytes-clause-worked g c =
    let left = g.I.Source.left in
    let taken = g.O.Sink.taken in
    let ran = subst (λ (z : Text). RunsBytes c.args.form limits c.args.budget z (left c.args.input.now) (left c.run_bytes.new.input)
    (taken c.args.out.now) (taken c.run_bytes.new.out) (Ok c.in-Ok-run_bytes.finish))
    c.as_slice.ensures c.in-Ok-run_bytes.ensures.ran in
    worked_ran c.args.form limits c.args.name.now c.args.budget _ c.in-Ok.bytes c.in-Ok.ensures.file.0 c.in-Ok.ensures.file.1 _ _ _ _
    c.in-Ok-run_bytes.finish ran.0 ran.1 ran.2
    (subst (λ (z : Text). HasVerdict (Some z)) c.as_slice.ensures c.in-Ok-run_bytes.ensures.verdict_is)

pub returns-in-Ok-clause-worked : goal.returns-in-Ok-clause-worked
returns-in-Ok-clause-worked g c =
    let left = g.I.Source.left in
    let taken = g.O.Sink.taken in
    let why = c.in-Err-run_bytes.why in
    let holds = g.F.Files.holds c.args.files.now c.args.name.now in
    let command = Some (runs c.args.form c.args.name.now c.args.budget) in
    let opened = subst (λ (z : Text). OpensBytes c.args.budget z (Err why)) c.as_slice.ensures c.in-Err-run_bytes.ensures.ran in
    let verdict_is = subst (λ (z : Text). HasVerdictAfter {A = Finish} (Err why) z) c.as_slice.ensures c.in-Err-run_bytes.ensures.verdict_is
    in
    let still = worked_unopened c.args.form limits c.args.name.now c.args.budget holds c.in-Ok.bytes c.in-Ok.ensures.file.0 c.in-Ok.ensures.file.1
    (left c.args.input.now) (taken c.args.out.now) why opened verdict_is in
    subst (λ input. Worked limits command holds (left c.args.input.now) (left input) (taken c.args.out.now) (taken c.run_bytes.new.out)
    (Unopened why)) (sym c.in-Err-run_bytes.ensures.not_run.0)
    (subst (λ out. Worked limits command holds (left c.args.input.now) (left c.args.input.now) (taken c.args.out.now) (taken out)
    (Unopened why)) (sym c.in-Err-run_bytes.ensures.not_run.1) still)

pub returns-clause-worked : goal.returns-clause-worked
returns-clause-worked g c =
    worked_file limits (Some (runs c.args.form c.args.name.now c.args.budget)) (run_asks c.args.form limits c.args.name.now c.args.budget) _ _ _ c.in-Err.ending
    (omega arith) c.in-Err.ensures.file
