use Rattle.std.proofs.Common.{ap, ◌∙◌}
use Rattle.task_model.specs.Terms.Program.{program_term}
use Rattle.task_model.specs.Running.Checked.{SeenChecked, body_first}
use Rattle.task_evaluation.proofs.StartLemmas.{start_there, start_is}
use Rattle.task_evaluation.proofs.engine.Engine.body_first.Goals as goal

pub number_at-requires : goal.number_at-requires
number_at-requires c =
    let requires = rw (← c.self.view_is) at c.requires in
    let accepted = rw c.checked.ensures at c.program-accepted.ensures.accepted in
    rw c.as_slice.ensures
    (start_there (program_term c.self.inside.definitions.program) accepted.written c.args.body requires
    c.self.inside.starts.list c.self.invariant.started)

pub returns : goal.returns
returns c =
    let accepted = rw c.checked.ensures at c.program-accepted.ensures.accepted in
    start_is (program_term c.self.inside.definitions.program) accepted.written c.args.body c.number_at.result
    c.self.inside.starts.list c.self.invariant.started (rw c.as_slice.ensures at c.number_at.ensures)
    ∙ ap (λ (z : SeenChecked). body_first (program_term z.program) c.args.body) c.self.view_is
