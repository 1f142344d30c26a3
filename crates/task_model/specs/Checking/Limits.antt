-- The limits of the typing rules: 64 symbols of a type, 200 names in scope, two names of a `case` (docs/LANGUAGE.md, "Types of expressions
-- and tasks").
use Rattle.std.specs.Prelude.{◌≡◌, ◌≤◌, false, List, [], ◌∷◌, length}
use Rattle.task_model.specs.Terms.Text.{same_text}
use Rattle.task_model.specs.Terms.Basic.{BasicTerm}
use Rattle.task_model.specs.Terms.Host.{HostTerm, HostTerms, call_expr, pair_expr, list_expr, neg_expr, not_expr, fst_expr, snd_expr, len_expr, op_expr, let_expr, if_expr, case_expr, no_exprs, more_exprs}
use Rattle.task_model.specs.Terms.Program.{KindTerm, plain_kind, ref_kind, ParamTerm}
use Rattle.task_model.specs.Checking.TypeParts.{symbols_of, item_part}
use Rattle.task_model.specs.Checking.Names.{bind_value, CallsTerm, called_definition, params_of}
use Rattle.task_model.specs.Checking.TypeOf.{type_of}

-- a type has at most 64 symbols
abbrev pub IsSmall : BasicTerm → Type 0
IsSmall b = symbols_of b ≤ 64

-- at a reference's parameter a name isn't measured
abbrev pub WithinKind : KindTerm → Type 0 → Type 0
WithinKind (plain_kind b) P = P
WithinKind (ref_kind b) P = Unit {0}

module _ (k : CallsTerm) where
  abbrev mutual
    -- the parts of an expression are within the limits
    pub IsWithin : List ParamTerm → HostTerm → Type 0
    IsWithin s (call_expr f es) = AreWithinKinds s es (params_of (called_definition k f))
    IsWithin s (pair_expr a b) = IsWithin s a × IsSmall (type_of k.defs s a) × IsWithin s b × IsSmall (type_of k.defs s b)
    IsWithin s (list_expr es) = AreWithin s es
    IsWithin s (neg_expr a) = IsWithin s a × IsSmall (type_of k.defs s a)
    IsWithin s (not_expr a) = IsWithin s a × IsSmall (type_of k.defs s a)
    IsWithin s (fst_expr a) = IsWithin s a × IsSmall (type_of k.defs s a)
    IsWithin s (snd_expr a) = IsWithin s a × IsSmall (type_of k.defs s a)
    IsWithin s (len_expr a) = IsWithin s a × IsSmall (type_of k.defs s a)
    IsWithin s (op_expr o a b) = IsWithin s a × IsSmall (type_of k.defs s a) × IsWithin s b × IsSmall (type_of k.defs s b)
    IsWithin s (let_expr x a b) =
        let inner = bind_value s x (type_of k.defs s a) in
        (length s ≤ 199) × IsWithin s a × IsSmall (type_of k.defs s a) × IsWithin inner b × IsSmall (type_of k.defs inner b)
    IsWithin s (if_expr c a b) =
        IsWithin s c × IsSmall (type_of k.defs s c) × IsWithin s a × IsSmall (type_of k.defs s a)
        × IsWithin s b × IsSmall (type_of k.defs s b)
    IsWithin s (case_expr l a x y b) =
        let inner = bind_value (bind_value s x (item_part (type_of k.defs s l))) y (type_of k.defs s l) in
        (same_text x y ≡ false) × (length s ≤ 198) × IsWithin s l × IsSmall (type_of k.defs s l)
        × IsWithin s a × IsSmall (type_of k.defs s a) × IsWithin inner b × IsSmall (type_of k.defs inner b)
    IsWithin s e = Unit {0}

    -- each of these and its type are within the limits
    pub AreWithin : List ParamTerm → HostTerms → Type 0
    AreWithin s no_exprs = Unit {0}
    AreWithin s (more_exprs e es) = IsWithin s e × IsSmall (type_of k.defs s e) × AreWithin s es

    -- these arguments and their types are, but for names at parameters of references
    pub AreWithinKinds : List ParamTerm → HostTerms → List ParamTerm → Type 0
    AreWithinKinds s no_exprs ps = Unit {0}
    AreWithinKinds s (more_exprs e es) [] = Unit {0}
    AreWithinKinds s (more_exprs e es) (p ∷ ps) =
        WithinKind p.kind (IsWithin s e × IsSmall (type_of k.defs s e)) × AreWithinKinds s es ps
