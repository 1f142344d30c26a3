-- The typing rules: which expressions have which types (docs/LANGUAGE.md, "Types of expressions and tasks").
use Rattle.std.specs.Prelude.{◌≡◌, true, List, [], ◌∷◌, Option, Some, None}
use Rattle.task_model.specs.Terms.Text.{Text}
use Rattle.task_model.specs.Terms.Basic.{BasicTerm, unit_type, bool_type, int_type, text_type, pair_type, list_type}
use Rattle.task_model.specs.Terms.Host.{HostTerm, HostTerms, unit_expr, bool_expr, int_expr, text_expr, name_expr, read_expr, call_expr, pair_expr, list_expr, nil_expr, neg_expr, not_expr, fst_expr, snd_expr, len_expr, op_expr, let_expr, if_expr, case_expr, no_exprs, more_exprs}
use Rattle.task_model.specs.Terms.Program.{KindTerm, plain_kind, ref_kind, ParamTerm, fun_body}
use Rattle.task_model.specs.declared.host.Op.{Op}
use Rattle.task_model.specs.declared.host.Op.TheVariants as ops
use Rattle.task_model.specs.Checking.Names.{kind_in, bind_value, Numbered, CallsTerm, is_open, called_definition}
use Rattle.task_model.specs.Running.Rules.{bare_name}
use Rattle.task_model.specs.Checking.TypeOf.{operator_type}

-- the types of two operands, and of their operation
abbrev pub Operates : Op → BasicTerm → BasicTerm → BasicTerm → Type 0
Operates ops.Eq a b c = (b ≡ a) × (c ≡ bool_type)
Operates ops.Ne a b c = (b ≡ a) × (c ≡ bool_type)
Operates ops.Cons a b c = (b ≡ list_type a) × (c ≡ list_type a)
Operates ops.Or a b c = (a ≡ bool_type) × (b ≡ bool_type) × (c ≡ bool_type)
Operates ops.And a b c = (a ≡ bool_type) × (b ≡ bool_type) × (c ≡ bool_type)
Operates ops.Join a b c = (a ≡ text_type) × (b ≡ text_type) × (c ≡ text_type)
Operates o a b c = (a ≡ int_type) × (b ≡ int_type) × (c ≡ operator_type o int_type)

-- `len` takes a list or a text
abbrev pub HasLength : BasicTerm → Type 0
HasLength (list_type b) = Unit {0}
HasLength text_type = Unit {0}
HasLength b = ⊥

-- an argument at a reference's parameter
abbrev pub IsReference : List ParamTerm → Option Text → BasicTerm → Type 0
IsReference s None b = ⊥
IsReference s (Some x) b = kind_in s x ≡ Some (ref_kind b)

-- an argument, where it has a type as this says
abbrev pub OfKind : List ParamTerm → Option Text → KindTerm → (BasicTerm → Type 0) → Type 0
OfKind s name (plain_kind b) P = P b
OfKind s name (ref_kind b) P = IsReference s name b

-- a function that may be called
pub record CallsFunction (k : CallsTerm) (f : Text) (d : Numbered) : Type 0 where
  pub first : called_definition k f ≡ Some d
  pub body : HostTerm
  pub function : d.def.what ≡ fun_body body
  pub open' : is_open k.below d.index ≡ true

module _ (k : CallsTerm) where
  abbrev mutual
    -- the type of an expression
    pub HasType : List ParamTerm → HostTerm → BasicTerm → Type 0
    HasType s unit_expr b = b ≡ unit_type
    HasType s (bool_expr v) b = b ≡ bool_type
    HasType s (int_expr i) b = b ≡ int_type
    HasType s (text_expr t) b = b ≡ text_type
    HasType s (name_expr x) b = kind_in s x ≡ Some (plain_kind b)
    HasType s (read_expr x) b = kind_in s x ≡ Some (ref_kind b)
    HasType s (call_expr f es) b = (d : Numbered) × CallsFunction k f d × (b ≡ d.def.result) × HaveTypes s es d.def.params
    HasType s (pair_expr e f) b = (a : BasicTerm) × (c : BasicTerm) × (b ≡ pair_type a c) × HasType s e a × HasType s f c
    HasType s (list_expr no_exprs) b = b ≡ list_type unit_type
    HasType s (list_expr (more_exprs e es)) b = (a : BasicTerm) × (b ≡ list_type a) × HasType s e a × AllHave s es a
    HasType s (nil_expr a) b = b ≡ list_type a
    HasType s (neg_expr e) b = (b ≡ int_type) × HasType s e int_type
    HasType s (not_expr e) b = (b ≡ bool_type) × HasType s e bool_type
    HasType s (fst_expr e) b = (c : BasicTerm) × HasType s e (pair_type b c)
    HasType s (snd_expr e) b = (c : BasicTerm) × HasType s e (pair_type c b)
    HasType s (len_expr e) b = (a : BasicTerm) × (b ≡ int_type) × HasType s e a × HasLength a
    HasType s (op_expr o e f) b = (a : BasicTerm) × (c : BasicTerm) × HasType s e a × HasType s f c × Operates o a c b
    HasType s (let_expr x e f) b = (a : BasicTerm) × HasType s e a × HasType (bind_value s x a) f b
    HasType s (if_expr c e f) b = HasType s c bool_type × HasType s e b × HasType s f b
    HasType s (case_expr l e x y f) b =
        (a : BasicTerm) × (c : BasicTerm) × (c ≡ list_type a) × HasType s l c × HasType s e b
        × HasType (bind_value (bind_value s x a) y c) f b

    -- each has this type
    pub AllHave : List ParamTerm → HostTerms → BasicTerm → Type 0
    AllHave s no_exprs b = Unit {0}
    AllHave s (more_exprs e es) b = HasType s e b × AllHave s es b

    -- arguments at parameters
    pub HaveTypes : List ParamTerm → HostTerms → List ParamTerm → Type 0
    HaveTypes s no_exprs [] = Unit {0}
    HaveTypes s no_exprs (p ∷ ps) = ⊥
    HaveTypes s (more_exprs e es) [] = ⊥
    HaveTypes s (more_exprs e es) (p ∷ ps) = OfKind s (bare_name e) p.kind (λ b. HasType s e b) × HaveTypes s es ps
