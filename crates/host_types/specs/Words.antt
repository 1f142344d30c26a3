-- Words for parts of the code.
use Rattle.std.specs.Prelude.{ℕ, ◌+◌, ◌==◌, List, Option}
use Rattle.task_model.specs.Terms.Basic.{BasicTerm, bool_type, int_type}
use Rattle.task_model.specs.Terms.Host.{HostTerm}
use Rattle.task_model.specs.Terms.Program.{ParamTerm}
use Rattle.task_model.specs.Checking.Names.{CallsTerm, Numbered, is_open}
use Rattle.task_model.specs.Checking.TypeParts.{first_part, second_part}
use Rattle.task_model.specs.Checking.TypeFault.{TypeKindTerm, arity, Demands, ◌⨾◌, demanded, compared, is_pair, has_length, wanted}
use Rattle.task_model.specs.Checking.NodeCounts.{nodes}
use Rattle.task_model.specs.Checking.TypeOf.{type_of}
use Rattle.task_model.specs.Checking.Demands.{demands, all_demands, function_call}
use Rattle.task_model.specs.Checking.TaskDemands.{task_call}
use Rattle.host_types.specs.declared.calls.Callee.{Callee}
use Rattle.host_types.specs.declared.calls.Callee.TheVariants as callee
use Rattle.host_types.specs.declared.operators.Unary.{Unary}
use Rattle.host_types.specs.declared.operators.Unary.TheVariants as unary

-- what is wanted of the operand, besides its size
abbrev pub unary_operand : Unary → ℕ → BasicTerm → Demands
unary_operand unary.Neg n b = compared n int_type b
unary_operand unary.Not n b = compared n bool_type b
unary_operand unary.First n b = is_pair n b
unary_operand unary.Second n b = is_pair n b
unary_operand unary.Length n b = has_length n b

abbrev pub unary_type : Unary → BasicTerm → BasicTerm
unary_type unary.Neg b = int_type
unary_type unary.Not b = bool_type
unary_type unary.First b = first_part b
unary_type unary.Second b = second_part b
unary_type unary.Length b = int_type

-- two branches, the second of the first one's type
abbrev pub branch_demands : CallsTerm → List ParamTerm → List ParamTerm → ℕ → HostTerm → HostTerm → Demands
branch_demands k s inner n a b =
    all_demands k s n a ⨾ wanted (n + nodes a) (type_of k.defs s a) (type_of k.defs inner b) (demands k inner (n + nodes a) b)

-- what is demanded of a call
abbrev pub call_of : Callee → ℕ → Option ℕ → ℕ → Option Numbered → Demands
call_of callee.Function = function_call
call_of callee.Task = task_call

-- a definition may be called, or else there is this fault, and it has so many parameters as there are arguments
abbrev pub open_with : ℕ → Option ℕ → ℕ → ℕ → ℕ → TypeKindTerm → Demands
open_with n below index params args closed = demanded (is_open below index) n closed ⨾ demanded (params == args) n (arity params args)
