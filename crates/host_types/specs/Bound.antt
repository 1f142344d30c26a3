-- Tasks that bind a name: `let` to a value, and `new` to a place of shared data.
use Rattle.task_model.specs.Terms.Text.{Text}
use Rattle.task_model.specs.Terms.Basic.{BasicTerm}
use Rattle.task_model.specs.Terms.Host.{HostTerm}
use Rattle.task_model.specs.Terms.Program.{KindTerm, plain_kind, ref_kind}
use Rattle.task_model.specs.Checking.FullTask.{FullTask, full_let, full_new}
use Rattle.host_types.specs.declared.bound_to.BoundTo.{BoundTo}
use Rattle.host_types.specs.declared.bound_to.BoundTo.TheVariants as bound_to

-- the kind of a name that is bound to what has this type
abbrev pub bound_kind : BoundTo → BasicTerm → KindTerm
bound_kind bound_to.Value b = plain_kind b
bound_kind bound_to.Place b = ref_kind b

-- a name, what it is bound to, and the task behind
abbrev pub bound_form : BoundTo → Text → HostTerm → FullTask → FullTask
bound_form bound_to.Value x e t = full_let x e t
bound_form bound_to.Place x e t = full_new x e t
