-- What expressions demand, in the order in which it is looked at (docs/LANGUAGE.md, "Faults of types").
use Rattle.std.specs.Prelude.{ℕ, suc, ◌+◌, not, List, [], ◌∷◌, length, ◌==◌, Option, Some, None}
use Rattle.task_model.specs.Terms.Text.{Text, same_text}
use Rattle.task_model.specs.Terms.Basic.{BasicTerm, bool_type, int_type, text_type, list_type}
use Rattle.task_model.specs.Terms.Host.{HostTerm, HostTerms, unit_expr, bool_expr, int_expr, text_expr, name_expr, read_expr, call_expr, pair_expr, list_expr, nil_expr, neg_expr, not_expr, fst_expr, snd_expr, len_expr, op_expr, let_expr, if_expr, case_expr, no_exprs, more_exprs}
use Rattle.task_model.specs.Terms.Program.{KindTerm, plain_kind, ref_kind, ParamTerm, DefBodyTerm, fun_body, task_body}
use Rattle.task_model.specs.declared.host.Op.{Op}
use Rattle.task_model.specs.declared.host.Op.TheVariants as ops
use Rattle.task_model.specs.Checking.TypeParts.{item_part}
use Rattle.task_model.specs.Running.Rules.{bare_name}
use Rattle.task_model.specs.Checking.Names.{kind_in, bind_value, has_room, named_type, Numbered, CallsTerm, is_open, called_definition, params_of}
use Rattle.task_model.specs.Checking.TypeFault.{Demands, met, unmet, ◌⨾◌, demanded, duplicate, too_many_names, unknown_name, not_ref, arity, later_call, compared, is_pair, is_list, has_length, value_name, ref_name, whole, wanted}
use Rattle.task_model.specs.Checking.NodeCounts.{nodes, count_all}
use Rattle.task_model.specs.Checking.TypeOf.{type_of}

-- ---- names that are bound
-- there is room in scope for so many names more
abbrev pub has_place : ℕ → List ParamTerm → ℕ → Demands
has_place n s more = demanded (has_room s more) n too_many_names

-- two names that are bound side by side differ
abbrev pub two_names : ℕ → Text → Text → Demands
two_names n x y = demanded (not (same_text x y)) n duplicate

-- ---- operators
-- what is wanted of the left operand, besides its size
abbrev pub left_operand : Op → ℕ → BasicTerm → Demands
left_operand ops.Eq n a = met
left_operand ops.Ne n a = met
left_operand ops.Cons n a = met
left_operand ops.Or n a = compared n bool_type a
left_operand ops.And n a = compared n bool_type a
left_operand ops.Join n a = compared n text_type a
left_operand o n a = compared n int_type a

-- what is wanted of the right operand, besides its size, where the left one has type a
abbrev pub right_operand : Op → ℕ → BasicTerm → BasicTerm → Demands
right_operand ops.Eq n a b = compared n a b
right_operand ops.Ne n a b = compared n a b
right_operand ops.Cons n a b = is_list n b ⨾ compared n (list_type a) b
right_operand ops.Or n a b = compared n bool_type b
right_operand ops.And n a b = compared n bool_type b
right_operand ops.Join n a b = compared n text_type b
right_operand o n a b = compared n int_type b

-- ---- calls
-- A call of a function: there is one, it stands before the place of the call, and takes so many arguments.
abbrev pub function_kind : ℕ → Option ℕ → ℕ → ℕ → ℕ → DefBodyTerm → Demands
function_kind n below index params args (fun_body e) =
    demanded (is_open below index) n later_call ⨾ demanded (params == args) n (arity params args)
function_kind n below index params args (task_body t) = unmet n unknown_name

-- there is such a function, and it may be called here
abbrev pub function_call : ℕ → Option ℕ → ℕ → Option Numbered → Demands
function_call n below args None = unmet n unknown_name
function_call n below args (Some d) = function_kind n below d.index (length d.def.params) args d.def.what

-- The argument at a reference's parameter: a bare name of a reference to that type. Anything else is checked whole first.
abbrev pub reference : ℕ → List ParamTerm → BasicTerm → Option Text → Demands → Demands
reference n s b None ds = ds ⨾ unmet n not_ref
reference n s b (Some x) ds = ref_name n (kind_in s x) ⨾ compared n b (named_type (kind_in s x))

-- an argument of type t, where these are the demands on it alone
abbrev pub argument : ℕ → List ParamTerm → KindTerm → Option Text → BasicTerm → Demands → Demands
argument n s (plain_kind b) name t ds = wanted n b t ds
argument n s (ref_kind b) name t ds = reference n s b name (whole n t ds)

module _ (k : CallsTerm) where
  abbrev mutual
    -- The demands of an expression of node number n, but for the size of its own type.
    pub demands : List ParamTerm → ℕ → HostTerm → Demands
    demands s n unit_expr = met
    demands s n (bool_expr b) = met
    demands s n (int_expr i) = met
    demands s n (text_expr t) = met
    demands s n (name_expr x) = value_name n (kind_in s x)
    demands s n (read_expr x) = ref_name n (kind_in s x)
    demands s n (call_expr f es) =
        function_call n k.below (count_all es) (called_definition k f) ⨾ arguments s (suc n) es (params_of (called_definition k f))
    demands s n (pair_expr a b) =
        let m = suc n + nodes a in
        whole (suc n) (type_of k.defs s a) (demands s (suc n) a) ⨾ whole m (type_of k.defs s b) (demands s m b)
    demands s n (list_expr no_exprs) = met
    demands s n (list_expr (more_exprs e es)) =
        whole (suc n) (type_of k.defs s e) (demands s (suc n) e) ⨾ elements s (suc n + nodes e) (type_of k.defs s e) es
    demands s n (nil_expr b) = met
    demands s n (neg_expr a) = wanted (suc n) int_type (type_of k.defs s a) (demands s (suc n) a)
    demands s n (not_expr a) = wanted (suc n) bool_type (type_of k.defs s a) (demands s (suc n) a)
    demands s n (fst_expr a) = whole (suc n) (type_of k.defs s a) (demands s (suc n) a) ⨾ is_pair (suc n) (type_of k.defs s a)
    demands s n (snd_expr a) = whole (suc n) (type_of k.defs s a) (demands s (suc n) a) ⨾ is_pair (suc n) (type_of k.defs s a)
    demands s n (len_expr a) = whole (suc n) (type_of k.defs s a) (demands s (suc n) a) ⨾ has_length (suc n) (type_of k.defs s a)
    demands s n (op_expr o a b) =
        let m = suc n + nodes a in
        (whole (suc n) (type_of k.defs s a) (demands s (suc n) a) ⨾ left_operand o (suc n) (type_of k.defs s a))
        ⨾ (whole m (type_of k.defs s b) (demands s m b) ⨾ right_operand o m (type_of k.defs s a) (type_of k.defs s b))
    demands s n (let_expr x a b) =
        let m = suc n + nodes a in
        let inner = bind_value s x (type_of k.defs s a) in
        has_place n s 1 ⨾ whole (suc n) (type_of k.defs s a) (demands s (suc n) a)
        ⨾ whole m (type_of k.defs inner b) (demands inner m b)
    demands s n (if_expr c a b) =
        let m = suc n + nodes c in
        wanted (suc n) bool_type (type_of k.defs s c) (demands s (suc n) c)
        ⨾ (whole m (type_of k.defs s a) (demands s m a)
        ⨾ wanted (m + nodes a) (type_of k.defs s a) (type_of k.defs s b) (demands s (m + nodes a) b))
    demands s n (case_expr l a x y b) =
        let m = suc n + nodes l in
        let inner = bind_value (bind_value s x (item_part (type_of k.defs s l))) y (type_of k.defs s l) in
        two_names n x y ⨾ has_place n s 2
        ⨾ (whole (suc n) (type_of k.defs s l) (demands s (suc n) l) ⨾ is_list (suc n) (type_of k.defs s l))
        ⨾ (whole m (type_of k.defs s a) (demands s m a)
        ⨾ wanted (m + nodes a) (type_of k.defs s a) (type_of k.defs inner b) (demands inner (m + nodes a) b))

    -- the elements of a list behind its first one, of this type
    pub elements : List ParamTerm → ℕ → BasicTerm → HostTerms → Demands
    elements s n t no_exprs = met
    elements s n t (more_exprs e es) = wanted n t (type_of k.defs s e) (demands s n e) ⨾ elements s (n + nodes e) t es

    -- arguments at parameters
    pub arguments : List ParamTerm → ℕ → HostTerms → List ParamTerm → Demands
    arguments s n no_exprs ps = met
    arguments s n (more_exprs e es) [] = met
    arguments s n (more_exprs e es) (p ∷ ps) =
        argument n s p.kind (bare_name e) (type_of k.defs s e) (demands s n e) ⨾ arguments s (n + nodes e) es ps

  -- those of an expression with its size
  abbrev pub all_demands : List ParamTerm → ℕ → HostTerm → Demands
  all_demands s n e = whole n (type_of k.defs s e) (demands s n e)
