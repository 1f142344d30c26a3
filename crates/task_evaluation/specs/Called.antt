-- Tasks that are called.
use Rattle.std.specs.Prelude.{ℕ, List, [], map, Option}
use Rattle.task_model.specs.Terms.Value.{ValueTerm}
use Rattle.task_model.specs.Terms.Env.{EnvTerm}
use Rattle.task_model.specs.Terms.Host.{HostTerm}
use Rattle.task_model.specs.Terms.Task.{task_term}
use Rattle.task_model.specs.Terms.Tree.{State}
use Rattle.task_model.specs.Terms.Program.{param_term, DefTerm}
use Rattle.task_model.specs.Running.Checked as checked
use Rattle.task_model.specs.Running.Checked.{callee_of, param_names}
use Rattle.task_model.specs.Running.Plan.{evaluates, Plan, give, ask, unit, after}
use Rattle.task_model.specs.Running.Rules.{slots_for}
use Rattle.task_evaluation.specs.declared.callee.Callee.{Callee}

abbrev pub seen_callee : Callee → checked.Callee
seen_callee d = record { params = map param_term d.params.now; task = task_term d.task.now; first = d.first }

-- the task of a definition before which so many nodes stand
abbrev pub as_callee : ℕ → DefTerm → Option checked.Callee
as_callee first d = callee_of d.params first d.what

-- a call of a task
abbrev pub task_call_plan : checked.Callee → List HostTerm → EnvTerm → List ValueTerm → Plan State
task_call_plan d args env σ =
    unit (after (slots_for env σ [] args d.params)
    (λ vs. ask (evaluates d.task (record { names = param_names d.params; slots = vs; first = d.first }) σ) give))
