-- What a check answers.
use Rattle.std.specs.Prelude.{◌≡◌, ℕ, ◌+◌, List, ◌++◌, Option, Some, None, Result, MatchResult, map}
use Rattle.task_model.specs.Terms.Basic.{BasicTerm, basic_term}
use Rattle.task_model.specs.Terms.Host.{HostTerm}
use Rattle.task_model.specs.Terms.Program.{ParamTerm, param_term}
use Rattle.task_model.specs.declared.basic.Basic.{Basic}
use Rattle.task_model.specs.declared.program.Def.{Def}
use Rattle.task_model.specs.Checking.Names.{Numbered, CallsTerm, params_of, result_of}
use Rattle.task_model.specs.Checking.TypeFault.{TypeFaultTerm, Demands, first_fault, whole, wanted}
use Rattle.task_model.specs.Checking.TypeKind.{type_kind_term}
use Rattle.task_model.specs.Checking.FullTask.{FullTask}
use Rattle.task_model.specs.Checking.NodeCounts.{nodes, task_nodes}
use Rattle.task_model.specs.Checking.TypeOf.{type_of, task_type, listed_types}
use Rattle.task_model.specs.Checking.Demands.{demands, all_demands}
use Rattle.task_model.specs.Checking.TaskDemands.{task_demands}
use Rattle.host_types.specs.declared.expressions.Typed.{Typed}
use Rattle.host_types.specs.declared.fault.CheckStop.{CheckStop}
use Rattle.host_types.specs.declared.fault.CheckStop.TheVariants.{Fault, Memory}

-- this is the fault, or memory ran out
abbrev pub StopsBy : Option TypeFaultTerm → CheckStop → Type 0
StopsBy o (Fault n kind) = o ≡ Some (record { node = n; kind = type_kind_term kind })
StopsBy o Memory = Unit {0}

-- the first of this that isn't met, or want of memory
pub record IsStop (ds : Demands) (e : CheckStop) : Type 0 where
  pub by : StopsBy (first_fault ds) e

-- all of this is met, and this is the type
pub record HasBasic (ds : Demands) (b : BasicTerm) (basic : Basic) : Type 0 where
  pub none : first_fault ds ≡ None
  pub type : basic_term basic ≡ b

-- all of this is met, and these are the parameters and the result of what is called
pub record HasHead (ds : Demands) (o : Option Numbered) (d : Def) : Type 0 where
  pub none : first_fault ds ≡ None
  pub params : params_of o ≡ map param_term d.params.list
  pub result : result_of o ≡ basic_term d.result

-- all of this is met, this is the type, and the nodes behind begin with this number
pub record IsTyped (ds : Demands) (b : BasicTerm) (behind : ℕ) (t : Typed) : Type 0 where
  pub none : first_fault ds ≡ None
  pub type : basic_term t.basic ≡ b
  pub next : t.next ≡ behind

-- all of this is met, and the nodes behind begin with this number
pub record IsPassed (ds : Demands) (behind here : ℕ) : Type 0 where
  pub none : first_fault ds ≡ None
  pub next : here ≡ behind

abbrev pub AnswersType : Demands → BasicTerm → ℕ → Result Typed CheckStop → Type 0
AnswersType ds b behind r = MatchResult r (IsTyped ds b behind) (IsStop ds)

-- a form of an expression of node number n was checked
abbrev pub ChecksForm : CallsTerm → List ParamTerm → ℕ → HostTerm → Result Typed CheckStop → Type 0
ChecksForm k s n e r = AnswersType (demands k s n e) (type_of k.defs s e) (n + nodes e) r

-- it was checked whole
abbrev pub Checks : CallsTerm → List ParamTerm → ℕ → HostTerm → Result Typed CheckStop → Type 0
Checks k s n e r = AnswersType (all_demands k s n e) (type_of k.defs s e) (n + nodes e) r

-- and compared with the type that is wanted of it
abbrev pub ChecksWanted : CallsTerm → List ParamTerm → ℕ → HostTerm → BasicTerm → Result ℕ CheckStop → Type 0
ChecksWanted k s n e want r =
    let ds = wanted n want (type_of k.defs s e) (demands k s n e) in
    MatchResult r (IsPassed ds (n + nodes e)) (IsStop ds)

-- all of this is met, this is the type, the nodes behind begin with this number, and these are the types of the `edit` and `share` nodes
-- so far
pub record IsTask (ds : Demands) (b : BasicTerm) (behind : ℕ) (all now : List BasicTerm) (t : Typed) : Type 0 where
  pub none : first_fault ds ≡ None
  pub type : basic_term t.basic ≡ b
  pub next : t.next ≡ behind
  pub types : now ≡ all

-- a form of a task of node number n was checked; the types of the nodes before were these, and they are those now
abbrev pub ChecksTaskForm : CallsTerm → List ParamTerm → ℕ → FullTask → List BasicTerm → List BasicTerm → Result Typed CheckStop → Type 0
ChecksTaskForm k s n t old new r =
    MatchResult r (IsTask (task_demands k s n t) (task_type k.defs s t) (n + task_nodes t) (old ++ listed_types k.defs s t) new)
    (IsStop (task_demands k s n t))

-- it was checked whole
abbrev pub ChecksTask : CallsTerm → List ParamTerm → ℕ → FullTask → List BasicTerm → List BasicTerm → Result Typed CheckStop → Type 0
ChecksTask k s n t old new r =
    let ds = whole n (task_type k.defs s t) (task_demands k s n t) in
    MatchResult r (IsTask ds (task_type k.defs s t) (n + task_nodes t) (old ++ listed_types k.defs s t) new) (IsStop ds)

-- all of this is met, the nodes behind begin with this number, and these are the types so far
pub record IsTaskPassed (ds : Demands) (behind : ℕ) (all now : List BasicTerm) (here : ℕ) : Type 0 where
  pub none : first_fault ds ≡ None
  pub next : here ≡ behind
  pub types : now ≡ all

-- and compared with the type that is wanted of it
abbrev pub ChecksTaskWanted : CallsTerm → List ParamTerm → ℕ → FullTask → BasicTerm → List BasicTerm → List BasicTerm → Result ℕ CheckStop
    → Type 0
ChecksTaskWanted k s n t want old new r =
    let ds = wanted n want (task_type k.defs s t) (task_demands k s n t) in
    MatchResult r (IsTaskPassed ds (n + task_nodes t) (old ++ listed_types k.defs s t) new) (IsStop ds)
