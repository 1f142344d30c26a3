use Rattle.std.proofs.Common.{ap, ◌∙◌, map}
use Rattle.task_model.specs.Terms.Task.{task_term}
use Rattle.task_model.specs.Terms.Program.{param_term, def_body_term, def_term}
use Rattle.task_model.specs.declared.program.Program.{Program}
use Rattle.task_model.specs.Running.Checked.{checked_term}
use Rattle.host_eval.proofs.ListLemmas.{empty}
use Rattle.testing_engine.proofs.StartLemmas.{first_there, first_may}
use Rattle.testing_engine.proofs.runs.first_task.Goals as goal

pub returns-in-Task : goal.returns-in-Task
returns-in-Task c =
    rw c.deref.ensures
    (first_may (checked_term c.args.checked.now) c.program.ensures.accepted (def_term c.def-item.result) (task_term c.in-Task.t.value)
    (first_there c.args.checked.now.program.defs.list c.as_slice.result.now c.def-item.result
    (c.as_slice.ensures ∙ ap (λ (p : Program). p.defs.list) c.program.ensures.program) c.in-len1-up.len_at_least c.def-item.is)
    (ap (map param_term)
    (empty c.def-item.result.params.list (rw c.as_slice-in-len1-up.ensures at c.in-empty-as_slice.len_below)))
    (ap def_body_term c.in-Task.is))
