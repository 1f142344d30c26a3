-- Words for what the rules take apart.
use Rattle.std.specs.Prelude.{ℕ, Bool, true, false, List, [], ◌∷◌, not, if◌then◌else◌, Option, Some, None, slice_get}
use Rattle.std.specs.Option.{option_map}
use Rattle.task_model.specs.Terms.Text.{Text, same_text}
use Rattle.task_model.specs.Syntax.Characters.{continues}
use Rattle.task_model.specs.Terms.Value.{ValueTerm, bool_value, list_value, no_values, more_values}
use Rattle.task_model.specs.Running.Operators.{same_bool, operated, negated, opposite, first_of, second_of, length_of}
use Rattle.task_model.specs.Terms.Env.{SlotTerm, plain_slot, place_slot, EnvTerm}
use Rattle.task_model.specs.Terms.Host.{HostTerm}
use Rattle.task_model.specs.Terms.Program.{ParamTerm, DefTerm}
use Rattle.task_model.specs.Running.Checked.{slot_of, param_names, Function, function_of}
use Rattle.task_model.specs.Running.Plan.{gives_value, Plan, give, ask, unit, after, known}
use Rattle.task_model.specs.Running.Rules.{branch, bare_name, slots_for}
use Rattle.task_model.specs.declared.host.Op.{Op}
use Rattle.task_model.specs.declared.host.Op.TheVariants as ops
use Rattle.host_eval.specs.declared.unary.Unary.{Unary}
use Rattle.host_eval.specs.declared.unary.Unary.TheVariants as unaries

-- what follows from what there is
abbrev pub option_then : {X Y : Type 0} → Option X → (X → Option Y) → Option Y
option_then None f = None
option_then (Some x) f = f x

-- ---- names
abbrev pub value_in : SlotTerm → Option ValueTerm
value_in (plain_slot v) = Some v
value_in (place_slot n) = None

abbrev pub place_in : SlotTerm → Option ℕ
place_in (plain_slot v) = None
place_in (place_slot n) = Some n

-- the value that a name stands for
abbrev pub value_named : EnvTerm → Text → Option ValueTerm
value_named env x = option_then (slot_of env x) value_in

-- the place that a name stands for
abbrev pub place_named : EnvTerm → Text → Option ℕ
place_named env x = option_then (slot_of env x) place_in

-- ---- choices
-- the truth value that a value is, if it is one
abbrev pub truth_of : ValueTerm → Option Bool
truth_of (bool_value b) = Some b
truth_of v = None

-- the head and the tail of a list, or none where it is empty
abbrev pub list_parts : ValueTerm → Option (Option (ValueTerm × ValueTerm))
list_parts (list_value no_values) = Some None
list_parts (list_value (more_values v vs)) = Some (Some (v, list_value vs))
list_parts v = None

-- ---- operators
-- what a form with one operand gives
abbrev pub computed : Unary → ValueTerm → Option ValueTerm
computed unaries.Neg v = negated v
computed unaries.Not v = opposite v
computed unaries.First v = first_of v
computed unaries.Second v = second_of v
computed unaries.Length v = length_of v

-- the left side that leaves nothing open, which is the result then
abbrev pub decider : Op → Option Bool
decider ops.Or = Some true
decider ops.And = Some false
decider o = None

-- ---- plans by those words
-- the value at the place that a name stands for
abbrev pub value_read : EnvTerm → Text → List ValueTerm → Option ValueTerm
value_read env x σ = option_then (place_named env x) (slice_get σ)

-- the slot of an argument at a reference's parameter
abbrev pub place_argument : EnvTerm → HostTerm → Option SlotTerm
place_argument env e = option_map place_slot (option_then (bare_name e) (place_named env))

-- an operator that its left side may decide
abbrev pub lazy_plan : Bool → HostTerm → HostTerm → EnvTerm → List ValueTerm → Plan ValueTerm
lazy_plan decided a b env σ =
    ask (gives_value a env σ)
    (λ v. known (truth_of v) (λ truth. branch (same_bool truth decided) (give (bool_value decided)) (ask (gives_value b env σ) give)))

-- an operator whose operands are both evaluated
abbrev pub strict_plan : Op → HostTerm → HostTerm → EnvTerm → List ValueTerm → Plan ValueTerm
strict_plan o a b env σ = ask (gives_value a env σ) (λ v. ask (gives_value b env σ) (λ w. known (operated o v w) give))

-- a call of a function
abbrev pub call_plan : HostTerm → List ParamTerm → List HostTerm → EnvTerm → List ValueTerm → Plan ValueTerm
call_plan body params args env σ =
    unit (after (slots_for env σ [] args params)
    (λ vs. ask (gives_value body (record { names = param_names params; slots = vs; first = 0 }) σ) give))

-- ---- definitions
-- the function of a name, where the first of these definitions of that name is one
abbrev pub function_in : List DefTerm → Text → Option Function
function_in [] f = None
function_in (d ∷ ds) f = if same_text d.name f then function_of d.params d.what else function_in ds f

-- a function of the term: its parameters and its expression
abbrev pub function_term : List ParamTerm → HostTerm → Function
function_term params body = record { params = params; expr = body }

-- ---- characters
-- whether a character begins here, or the text ends
abbrev pub starts : Text → Bool
starts [] = true
starts (byte ∷ bytes) = not (continues byte)
