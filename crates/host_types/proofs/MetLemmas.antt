-- What has a type within the limits is met.
use Rattle.std.proofs.Common.{◌≡◌, ℕ, suc, ◌+◌, ◌-◌, ◌≤◌, Bool, true, false, Option, None, Some, List, [], ◌∷◌, length, cond, refl, sym, ap, ◌∙◌, subst, arith}
use Rattle.std.specs.Option.{option_or}
use Rattle.std.specs.Prelude.{◌==◌, nat_le, not}
use Rattle.std.proofs.lemmas.Bool.Decides.{nat_tests}
use Rattle.task_model.specs.Terms.Text.{Text, same_text}
use Rattle.task_model.specs.Terms.Basic.{BasicTerm, unit_type, bool_type, int_type, text_type, pair_type, list_type}
use Rattle.task_model.specs.Terms.Host.{HostTerm, HostTerms, unit_expr, bool_expr, int_expr, text_expr, name_expr, read_expr, call_expr, pair_expr, list_expr, nil_expr, neg_expr, not_expr, fst_expr, snd_expr, len_expr, op_expr, let_expr, if_expr, case_expr, no_exprs, more_exprs}
use Rattle.task_model.specs.Terms.Program.{KindTerm, plain_kind, ref_kind, ParamTerm, DefBodyTerm, fun_body, task_body}
use Rattle.task_model.specs.declared.host.Op.{Op}
use Rattle.task_model.specs.declared.host.Op.TheVariants as ops
use Rattle.task_model.specs.Checking.Names.{kind_in, bind_value, named_type, Numbered, CallsTerm, is_open, called_definition, params_of, result_of}
use Rattle.task_model.specs.Checking.TypeParts.{same_type, first_part, second_part, item_part, symbols_of}
use Rattle.task_model.specs.Checking.TypeFault.{TypeKindTerm, Demands, met, ◌⨾◌, IsMet, first_fault, demanded, compared, is_pair, is_list, has_length, value_name, ref_name, whole, wanted, sized, mismatch, later_call, arity, big_type, too_many_names, duplicate}
use Rattle.task_model.specs.Checking.NodeCounts.{nodes, count_all}
use Rattle.task_model.specs.Checking.TypeOf.{type_of, operator_type}
use Rattle.task_model.specs.Checking.Demands.{demands, elements, arguments, function_call, function_kind, argument, reference, left_operand, right_operand, has_place, two_names}
use Rattle.task_model.specs.Running.Rules.{bare_name}
use Rattle.task_model.specs.Checking.Typing.{HasType, AllHave, HaveTypes, OfKind, Operates, HasLength, IsReference, CallsFunction}
use Rattle.task_model.proofs.DemandLemmas.{both, nothing, when_true, compared_met, sized_met, whole_met, wanted_met}
use Rattle.task_model.specs.Checking.Limits.{IsSmall, WithinKind, IsWithin, AreWithin, AreWithinKinds}

-- ---- names
value_met : (n : ℕ) (o : Option KindTerm) (b : BasicTerm) → o ≡ Some (plain_kind b) → IsMet (value_name n o) × (b ≡ named_type o)
value_met n None b e = absurd cc
value_met n (Some (plain_kind a)) b e = let same : a ≡ b = cc in (nothing, sym same)
value_met n (Some (ref_kind a)) b e = absurd cc

pub ref_met : (n : ℕ) (o : Option KindTerm) (b : BasicTerm) → o ≡ Some (ref_kind b) → IsMet (ref_name n o) × (b ≡ named_type o)
ref_met n None b e = absurd cc
ref_met n (Some (plain_kind a)) b e = absurd cc
ref_met n (Some (ref_kind a)) b e = let same : a ≡ b = cc in (nothing, sym same)

pub has_place_met : (n most : ℕ) (s : List ParamTerm) (more : ℕ) → length s ≤ most → most ≡ 200 - more → IsMet (has_place n s more)
has_place_met n most s more within e = when_true (nat_le (length s) (200 - more)) n too_many_names (grind (arith, nat_tests, within, e))

pub two_names_met : (n : ℕ) (x y : Text) → same_text x y ≡ false → IsMet (two_names n x y)
two_names_met n x y e = when_true (not (same_text x y)) n duplicate (rw e refl)

-- ---- operators
operands_met : (o : Op) (n m : ℕ) (a b c : BasicTerm) → Operates o a b c
    → IsMet (left_operand o n a) × IsMet (right_operand o m a b) × (c ≡ operator_type o b)
operands_met ops.Eq n m a b c h = (nothing, compared_met m a b h.0, h.1)
operands_met ops.Ne n m a b c h = (nothing, compared_met m a b h.0, h.1)
operands_met ops.Cons n m a b c h =
    (nothing, both (subst (λ l. IsMet (is_list m l)) (sym h.0) nothing) (compared_met m (list_type a) b h.0), h.1 ∙ sym h.0)
operands_met ops.Or n m a b c h = (compared_met n bool_type a h.0, compared_met m bool_type b h.1, h.2)
operands_met ops.And n m a b c h = (compared_met n bool_type a h.0, compared_met m bool_type b h.1, h.2)
operands_met ops.Join n m a b c h = (compared_met n text_type a h.0, compared_met m text_type b h.1, h.2)
operands_met o n m a b c h = (compared_met n int_type a h.0, compared_met m int_type b h.1, h.2)

length_met : (n : ℕ) (b : BasicTerm) → HasLength b → IsMet (has_length n b)
length_met n (list_type b) h = nothing
length_met n text_type h = nothing
length_met n b h = absurd h

-- ---- calls
call_met : (k : CallsTerm) (f : Text) (n args : ℕ) (d : Numbered) (w : DefBodyTerm) (e : HostTerm) → d.def.what ≡ w → w ≡ fun_body e
    → is_open k.below d.index ≡ true → length d.def.params ≡ args
    → IsMet (function_kind n k.below d.index (length d.def.params) args w)
call_met k f n args d (fun_body b) e is fun opens many =
    both (when_true (is_open k.below d.index) n later_call opens)
    (when_true (length d.def.params == args) n (arity (length d.def.params) args) (grind (arith, nat_tests, many)))
call_met k f n args d (task_body t) e is fun opens many = absurd cc

function_met : (k : CallsTerm) (f : Text) (n args : ℕ) (d : Numbered) → CallsFunction k f d → length d.def.params ≡ args
    → IsMet (function_call n k.below args (called_definition k f))
function_met k f n args d c many =
    subst (λ o. IsMet (function_call n k.below args o)) (sym c.first) (call_met k f n args d d.def.what c.body refl c.function c.open' many)

-- ---- arguments
reference_met : (n : ℕ) (s : List ParamTerm) (b : BasicTerm) (name : Option Text) (ds : Demands) → IsReference s name b
    → IsMet (reference n s b name ds)
reference_met n s b None ds h = absurd h
reference_met n s b (Some x) ds h = let (m, e) = ref_met n (kind_in s x) b h in both m (compared_met n b (named_type (kind_in s x)) (sym e))

argument_met : (n : ℕ) (s : List ParamTerm) (kind : KindTerm) (name : Option Text) (t : BasicTerm) (ds : Demands) (P : BasicTerm → Type 0)
    (Q : Type 0)
    → ((b : BasicTerm) → P b → Q → IsMet ds × (b ≡ t)) → (Q → IsSmall t) → OfKind s name kind P → WithinKind kind Q
    → IsMet (argument n s kind name t ds)
argument_met n s (plain_kind b) name t ds P Q step small h w = let (m, e) = step b h w in wanted_met n b t ds m (small w) (sym e)
argument_met n s (ref_kind b) name t ds P Q step small h w = reference_met n s b name (whole n t ds) h

-- ---- expressions
module _ (k : CallsTerm) where
  -- all is met, and the type is this one
  abbrev Met : List ParamTerm → ℕ → HostTerm → BasicTerm → Type 0
  Met s n e b = IsMet (demands k s n e) × (b ≡ type_of k.defs s e)

  mutual
    pub met_if : (s : List ParamTerm) (n : ℕ) (e : HostTerm) (b : BasicTerm) → HasType k s e b → IsWithin k s e
        → IsMet (demands k s n e) × (b ≡ type_of k.defs s e)
    met_if s n unit_expr b h w = (nothing, h)
    met_if s n (bool_expr v) b h w = (nothing, h)
    met_if s n (int_expr i) b h w = (nothing, h)
    met_if s n (text_expr t) b h w = (nothing, h)
    met_if s n (name_expr x) b h w = value_met n (kind_in s x) b h
    met_if s n (read_expr x) b h w = ref_met n (kind_in s x) b h
    met_if s n (call_expr f es) b (d, c, e, have) w =
        let args = arguments_met s (suc n) es d.def.params have (subst (λ o. AreWithinKinds k s es (params_of o)) c.first w) in (
          both (function_met k f n (count_all es) d c args.1)
              (subst (λ o. IsMet (arguments k s (suc n) es (params_of o))) (sym c.first) args.0),
          e ∙ ap result_of (sym c.first),
        )
    met_if s n (pair_expr e f) b (a, c, is, p, q) (u, v, x, y) =
        let (m, g) = met_if s (suc n) e a p u in
        let (o, h) = met_if s (suc n + nodes e) f c q x in (
          both (whole_met (suc n) (type_of k.defs s e) _ m v) (whole_met (suc n + nodes e) (type_of k.defs s f) _ o y),
          is
              ∙ ap (λ t. pair_type t c) g ∙ ap (λ t. pair_type (type_of k.defs s e) t) h,
        )
    met_if s n (list_expr no_exprs) b h w = (nothing, h)
    met_if s n (list_expr (more_exprs e es)) b (a, is, p, ps) (u, v, us) =
        let (m, g) = met_if s (suc n) e a p u in (
          both (whole_met (suc n) (type_of k.defs s e) _ m v)
              (elements_met s (suc n + nodes e) (type_of k.defs s e) es (subst (λ t. AllHave k s es t) g ps) us),
          is ∙ ap list_type g,
        )
    met_if s n (nil_expr a) b h w = (nothing, h)
    met_if s n (neg_expr e) b (is, p) (u, v) =
        let (m, g) = met_if s (suc n) e int_type p u in (wanted_met (suc n) int_type (type_of k.defs s e) _ m v (sym g), is)
    met_if s n (not_expr e) b (is, p) (u, v) =
        let (m, g) = met_if s (suc n) e bool_type p u in (wanted_met (suc n) bool_type (type_of k.defs s e) _ m v (sym g), is)
    met_if s n (fst_expr e) b (c, p) (u, v) =
        let (m, g) = met_if s (suc n) e (pair_type b c) p u in
        (both (whole_met (suc n) (type_of k.defs s e) _ m v) (subst (λ t. IsMet (is_pair (suc n) t)) g nothing), ap first_part g)
    met_if s n (snd_expr e) b (c, p) (u, v) =
        let (m, g) = met_if s (suc n) e (pair_type c b) p u in
        (both (whole_met (suc n) (type_of k.defs s e) _ m v) (subst (λ t. IsMet (is_pair (suc n) t)) g nothing), ap second_part g)
    met_if s n (len_expr e) b (a, is, p, l) (u, v) =
        let (m, g) = met_if s (suc n) e a p u in
        (both (whole_met (suc n) (type_of k.defs s e) _ m v) (length_met (suc n) (type_of k.defs s e) (subst (λ t. HasLength t) g l)), is)
    met_if s n (op_expr o e f) b (a, c, p, q, op) (u, v, x, y) =
        let (m, g) = met_if s (suc n) e a p u in
        let (m', h) = met_if s (suc n + nodes e) f c q x in
        let (left, right, is) = operands_met o (suc n) (suc n + nodes e) (type_of k.defs s e) (type_of k.defs s f) b
        (subst (λ t. Operates o t (type_of k.defs s f) b) g (subst (λ t. Operates o a t b) h op)) in (
          both (both (whole_met (suc n) (type_of k.defs s e) _ m v) left)
              (both (whole_met (suc n + nodes e) (type_of k.defs s f) _ m' y) right),
          is,
        )
    met_if s n (let_expr x e f) b (a, p, q) (room, u, v, z, y) =
        let (m, g) = met_if s (suc n) e a p u in
        let inner = bind_value s x (type_of k.defs s e) in
        let (m', h) = met_if inner (suc n + nodes e) f b (subst (λ t. HasType k (bind_value s x t) f b) g q) z in (
          both (has_place_met n 199 s 1 room refl)
              (both (whole_met (suc n) (type_of k.defs s e) _ m v) (whole_met (suc n + nodes e) (type_of k.defs inner f) _ m' y)),
          h,
        )
    met_if s n (if_expr c e f) b (p, q, r) (u, v, x, y, z, w) =
        let (m, g) = met_if s (suc n) c bool_type p u in
        let i = suc n + nodes c in
        let (m', h) = met_if s i e b q x in
        let (o, l) = met_if s (i + nodes e) f b r z in (
          both (wanted_met (suc n) bool_type (type_of k.defs s c) _ m v (sym g))
              (both (whole_met i (type_of k.defs s e) _ m' y)
              (wanted_met (i + nodes e) (type_of k.defs s e) (type_of k.defs s f) _ o w (sym l ∙ h))),
          h,
        )
    met_if s n (case_expr l e x y f) b (a, c, is, p, q, r) (apart, room, u, v, x', y', z, w) =
        let (m, g) = met_if s (suc n) l c p u in
        let i = suc n + nodes l in
        let t = type_of k.defs s l in
        let inner = bind_value (bind_value s x (item_part t)) y t in
        let item : a ≡ item_part t = ap item_part (sym is) ∙ ap item_part g in
        let (m', h) = met_if s i e b q x' in
        let (o, j) = met_if inner (i + nodes e) f b
        (subst (λ d. HasType k (bind_value (bind_value s x (item_part t)) y d) f b) g
        (subst (λ d. HasType k (bind_value (bind_value s x d) y c) f b) item r)) z in (
          both (two_names_met n x y apart) (both (has_place_met n 198 s 2 room refl) (both
              (both (whole_met (suc n) t _ m v) (subst (λ d. IsMet (is_list (suc n) d)) (sym is ∙ g) nothing))
              (both (whole_met i (type_of k.defs s e) _ m' y')
              (wanted_met (i + nodes e) (type_of k.defs s e) (type_of k.defs inner f) _ o w (sym j ∙ h))))),
          h,
        )

    elements_met : (s : List ParamTerm) (n : ℕ) (t : BasicTerm) (es : HostTerms) → AllHave k s es t → AreWithin k s es
        → IsMet (elements k s n t es)
    elements_met s n t no_exprs h w = nothing
    elements_met s n t (more_exprs e es) (h, hs) (u, v, us) =
        let (m, g) = met_if s n e t h u in both (wanted_met n t (type_of k.defs s e) _ m v (sym g))
        (elements_met s (n + nodes e) t es hs us)

    pub arguments_met : (s : List ParamTerm) (n : ℕ) (es : HostTerms) (ps : List ParamTerm) → HaveTypes k s es ps
        → AreWithinKinds k s es ps → IsMet (arguments k s n es ps) × (length ps ≡ count_all es)
    arguments_met s n no_exprs [] h w = (nothing, refl)
    arguments_met s n no_exprs (p ∷ ps) h w = absurd h
    arguments_met s n (more_exprs e es) [] h w = absurd h
    arguments_met s n (more_exprs e es) (p ∷ ps) (h, hs) (w, ws) =
        let (m, many) = arguments_met s (n + nodes e) es ps hs ws in (
          both (argument_met n s p.kind (bare_name e) (type_of k.defs s e) (demands k s n e) (λ b. HasType k s e b)
              (IsWithin k s e × IsSmall (type_of k.defs s e)) (λ b g u. met_if s n e b g u.0) (λ u. u.1) h w) m,
          ap suc many,
        )
