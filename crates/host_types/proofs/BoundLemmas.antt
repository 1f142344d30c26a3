-- A form that binds a name, whether to a value or to a place.
use Rattle.std.specs.Prelude.{ℕ, suc, ◌+◌, List, [], ◌∷◌, ◌++◌, Result, MatchResult}
use Rattle.task_model.specs.Terms.Text.{Text}
use Rattle.task_model.specs.Terms.Basic.{BasicTerm}
use Rattle.task_model.specs.Terms.Host.{HostTerm}
use Rattle.task_model.specs.Terms.Program.{ParamTerm}
use Rattle.task_model.specs.Checking.Names.{CallsTerm, all_open}
use Rattle.task_model.specs.Checking.TypeFault.{◌⨾◌, whole}
use Rattle.task_model.specs.Checking.FullTask.{FullTask}
use Rattle.task_model.specs.Checking.NodeCounts.{nodes, task_nodes}
use Rattle.task_model.specs.Checking.TypeOf.{type_of, task_type, listed_types}
use Rattle.task_model.specs.Checking.Demands.{has_place, all_demands}
use Rattle.task_model.specs.Checking.TaskDemands.{task_demands}
use Rattle.host_types.specs.Answer.{IsTask, IsStop, ChecksTaskForm}
use Rattle.host_types.specs.Bound.{bound_kind, bound_form}
use Rattle.host_types.specs.declared.bound_to.BoundTo.{BoundTo}
use Rattle.host_types.specs.declared.bound_to.BoundTo.TheVariants as bound_to
use Rattle.host_types.specs.declared.expressions.Typed.{Typed}
use Rattle.host_types.specs.declared.fault.CheckStop.{CheckStop}

-- both ask for a place in scope and for the expression, and then for the task behind, with the name in scope
pub bound_checks : (w : BoundTo) (k : CallsTerm) (s : List ParamTerm) (n : ℕ) (x : Text) (e : HostTerm) (t : FullTask)
    (old new : List BasicTerm) (r : Result Typed CheckStop)
    → (let m = suc n + nodes e in
    let inner = s ++ record { name = x; kind = bound_kind w (type_of k.defs s e) } ∷ [] in
    let ds = has_place n s 1 ⨾ all_demands (all_open k) s (suc n) e ⨾ whole m (task_type k.defs inner t) (task_demands k inner m t) in
    MatchResult r (IsTask ds (task_type k.defs inner t) (n + suc (nodes e + task_nodes t)) (old ++ listed_types k.defs inner t) new)
    (IsStop ds))
    → ChecksTaskForm k s n (bound_form w x e t) old new r
bound_checks bound_to.Value k s n x e t old new r h = h
bound_checks bound_to.Place k s n x e t old new r h = h
