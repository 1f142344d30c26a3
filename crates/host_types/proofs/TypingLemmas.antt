-- What is met has its type.
use Rattle.std.proofs.Common.{◌≡◌, ℕ, suc, ◌+◌, Bool, true, false, Option, None, Some, List, [], ◌∷◌, length, cond, refl, sym, ap, ◌∙◌, subst, arith}
use Rattle.std.specs.Option.{option_or}
use Rattle.std.specs.Prelude.{◌==◌}
use Rattle.std.proofs.lemmas.Bool.Decides.{nat_tests}
use Rattle.task_model.specs.Terms.Text.{Text}
use Rattle.task_model.specs.Terms.Basic.{BasicTerm, unit_type, bool_type, int_type, text_type, pair_type, list_type}
use Rattle.task_model.specs.Terms.Host.{HostTerm, HostTerms, unit_expr, bool_expr, int_expr, text_expr, name_expr, read_expr, call_expr, pair_expr, list_expr, nil_expr, neg_expr, not_expr, fst_expr, snd_expr, len_expr, op_expr, let_expr, if_expr, case_expr, no_exprs, more_exprs}
use Rattle.task_model.specs.Terms.Program.{KindTerm, plain_kind, ref_kind, ParamTerm, DefBodyTerm, fun_body, task_body}
use Rattle.task_model.specs.declared.host.Op.{Op}
use Rattle.task_model.specs.declared.host.Op.TheVariants as ops
use Rattle.task_model.specs.Checking.Names.{kind_in, bind_value, named_type, Numbered, CallsTerm, is_open, called_definition, params_of, result_of}
use Rattle.task_model.specs.Checking.TypeParts.{same_type, first_part, second_part, item_part}
use Rattle.task_model.specs.Checking.TypeFault.{TypeKindTerm, Demands, unmet, ◌⨾◌, IsMet, first_fault, demanded, compared, is_pair, is_list, has_length, value_name, ref_name, whole, mismatch, later_call, arity}
use Rattle.task_model.specs.Checking.NodeCounts.{nodes, count_all}
use Rattle.task_model.specs.Checking.TypeOf.{type_of, operator_type}
use Rattle.task_model.specs.Checking.Demands.{demands, elements, arguments, function_call, function_kind, argument, reference, left_operand, right_operand}
use Rattle.task_model.specs.Running.Rules.{bare_name}
use Rattle.task_model.specs.Checking.Typing.{HasType, AllHave, HaveTypes, OfKind, Operates, HasLength, IsReference, CallsFunction}

-- ---- what is met
none_first : {A : Type 0} (o q : Option A) → option_or o q ≡ None → o ≡ None
none_first None q e = refl
none_first (Some x) q e = cc

none_second : {A : Type 0} (o q : Option A) → option_or o q ≡ None → q ≡ None
none_second None q e = e
none_second (Some x) q e = absurd cc

pub first : {ds es : Demands} → IsMet (ds ⨾ es) → IsMet ds
first {ds} {es} m = record { none = none_first (first_fault ds) (first_fault es) m.none }

pub second : {ds es : Demands} → IsMet (ds ⨾ es) → IsMet es
second {ds} {es} m = record { none = none_second (first_fault ds) (first_fault es) m.none }

-- no demand is met that isn't
pub no_unmet : {n : ℕ} {k : TypeKindTerm} → IsMet (unmet n k) → ⊥
no_unmet m = let e = m.none in absurd cc

pub demanded_true : (b : Bool) (n : ℕ) (k : TypeKindTerm) → IsMet (demanded b n k) → b ≡ true
demanded_true true n k m = refl
demanded_true false n k m = absurd (no_unmet m)

same_parts : (b c : Bool) → cond b c false ≡ true → (b ≡ true) × (c ≡ true)
same_parts true c e = (refl, e)
same_parts false c e = absurd cc

pub same_is : (a b : BasicTerm) → same_type a b ≡ true → a ≡ b
same_is unit_type unit_type e = refl
same_is bool_type bool_type e = refl
same_is int_type int_type e = refl
same_is text_type text_type e = refl
same_is (pair_type a b) (pair_type c d) e =
    let p = same_parts (same_type a c) (same_type b d) e in let x = same_is a c p.0 in let y = same_is b d p.1 in cc
same_is (list_type a) (list_type b) e = let x = same_is a b e in cc
same_is a b e = absurd cc

-- the type that is wanted is the part's
pub compared_is : (n : ℕ) (want got : BasicTerm) → IsMet (compared n want got) → got ≡ want
compared_is n want got m = sym (same_is want got (demanded_true (same_type want got) n (mismatch want got) m))

-- ---- names
pub value_is : (n : ℕ) (o : Option KindTerm) → IsMet (value_name n o) → o ≡ Some (plain_kind (named_type o))
value_is n None m = absurd (no_unmet m)
value_is n (Some (plain_kind b)) m = refl
value_is n (Some (ref_kind b)) m = absurd (no_unmet m)

pub ref_is : (n : ℕ) (o : Option KindTerm) → IsMet (ref_name n o) → o ≡ Some (ref_kind (named_type o))
ref_is n None m = absurd (no_unmet m)
ref_is n (Some (plain_kind b)) m = absurd (no_unmet m)
ref_is n (Some (ref_kind b)) m = refl

-- ---- operators
pub pair_is : (n : ℕ) (b : BasicTerm) → IsMet (is_pair n b) → b ≡ pair_type (first_part b) (second_part b)
pair_is n (pair_type a b) m = refl
pair_is n b m = absurd (no_unmet m)

pub list_is : (n : ℕ) (b : BasicTerm) → IsMet (is_list n b) → b ≡ list_type (item_part b)
list_is n (list_type b) m = refl
list_is n b m = absurd (no_unmet m)

pub length_is : (n : ℕ) (b : BasicTerm) → IsMet (has_length n b) → HasLength b
length_is n (list_type b) m = tt
length_is n text_type m = tt
length_is n b m = absurd (no_unmet m)

pub operates : (o : Op) (n m : ℕ) (a b : BasicTerm) → IsMet (left_operand o n a) → IsMet (right_operand o m a b)
    → Operates o a b (operator_type o b)
operates ops.Eq n m a b p q = (compared_is m a b q, refl)
operates ops.Ne n m a b p q = (compared_is m a b q, refl)
operates ops.Cons n m a b p q = let e = compared_is m (list_type a) b (second q) in (e, e)
operates ops.Or n m a b p q = (compared_is n bool_type a p, compared_is m bool_type b q, refl)
operates ops.And n m a b p q = (compared_is n bool_type a p, compared_is m bool_type b q, refl)
operates ops.Join n m a b p q = (compared_is n text_type a p, compared_is m text_type b q, refl)
operates o n m a b p q = (compared_is n int_type a p, compared_is m int_type b q, refl)

-- ---- calls
kind_is : (k : CallsTerm) (f : Text) (n args : ℕ) (d : Numbered) (w : DefBodyTerm) → called_definition k f ≡ Some d → d.def.what ≡ w
    → IsMet (function_kind n k.below d.index (length d.def.params) args w)
    → CallsFunction k f d × (length d.def.params ≡ args)
kind_is k f n args d (fun_body b) is w m =
    let many = demanded_true (length d.def.params == args) n (arity (length d.def.params) args) (second m) in
    let same : length d.def.params ≡ args = grind (arith, nat_tests, many) in
    (record { first = is; body = b; function = w; open' = demanded_true (is_open k.below d.index) n later_call (first m) }, same)
kind_is k f n args d (task_body t) is w m = absurd (no_unmet m)

pub function_is : (k : CallsTerm) (f : Text) (n args : ℕ) (o : Option Numbered) → called_definition k f ≡ o
    → IsMet (function_call n k.below args o)
    → (d : Numbered) × (o ≡ Some d) × CallsFunction k f d × (length d.def.params ≡ args)
function_is k f n args None is m = absurd (no_unmet m)
function_is k f n args (Some d) is m = let h = kind_is k f n args d d.def.what is refl m in (d, refl, h.0, h.1)

-- ---- arguments
ref_argument : (n : ℕ) (s : List ParamTerm) (b : BasicTerm) (name : Option Text) (ds : Demands) → IsMet (reference n s b name ds)
    → IsReference s name b
ref_argument n s b None ds m = no_unmet (second m)
ref_argument n s b (Some x) ds m =
    ref_is n (kind_in s x) (first m) ∙ ap (λ a. Some (ref_kind a)) (compared_is n b (named_type (kind_in s x)) (second m))

of_kind : (n : ℕ) (s : List ParamTerm) (kind : KindTerm) (name : Option Text) (t : BasicTerm) (ds : Demands) (P : BasicTerm → Type 0)
    → (IsMet ds → P t) → IsMet (argument n s kind name t ds) → OfKind s name kind P
of_kind n s (plain_kind b) name t ds P has m = subst P (compared_is n b t (second m)) (has (first (first m)))
of_kind n s (ref_kind b) name t ds P has m = ref_argument n s b name (whole n t ds) m

-- ---- expressions
module _ (k : CallsTerm) where
  -- at another type that is the same
  at_type : (s : List ParamTerm) (e : HostTerm) (a b : BasicTerm) → a ≡ b → HasType k s e a → HasType k s e b
  at_type s e a b is h = subst (λ t. HasType k s e t) is h

  mutual
    pub typed : (s : List ParamTerm) (n : ℕ) (e : HostTerm) → IsMet (demands k s n e) → HasType k s e (type_of k.defs s e)
    typed s n unit_expr m = refl
    typed s n (bool_expr b) m = refl
    typed s n (int_expr i) m = refl
    typed s n (text_expr t) m = refl
    typed s n (name_expr x) m = value_is n (kind_in s x) m
    typed s n (read_expr x) m = ref_is n (kind_in s x) m
    typed s n (call_expr f es) m =
        let (d, is, calls, many) = function_is k f n (count_all es) (called_definition k f) refl (first m) in (
          d,
          calls,
          ap result_of is,
          all_of s (suc n) es d.def.params many
              (subst (λ o. IsMet (arguments k s (suc n) es (params_of o))) is (second m)),
        )
    typed s n (pair_expr a b) m = (_, _, refl, typed s (suc n) a (first (first m)), typed s (suc n + nodes a) b (first (second m)))
    typed s n (list_expr no_exprs) m = refl
    typed s n (list_expr (more_exprs e es)) m =
        (_, refl, typed s (suc n) e (first (first m)), each s (suc n + nodes e) (type_of k.defs s e) es (second m))
    typed s n (nil_expr b) m = refl
    typed s n (neg_expr a) m = (
      refl,
      at_type s a (type_of k.defs s a) int_type (compared_is (suc n) int_type (type_of k.defs s a) (second m))
          (typed s (suc n) a (first (first m))),
    )
    typed s n (not_expr a) m = (
      refl,
      at_type s a (type_of k.defs s a) bool_type (compared_is (suc n) bool_type (type_of k.defs s a) (second m))
          (typed s (suc n) a (first (first m))),
    )
    typed s n (fst_expr a) m =
        (_, at_type s a (type_of k.defs s a) _ (pair_is (suc n) (type_of k.defs s a) (second m)) (typed s (suc n) a (first (first m))))
    typed s n (snd_expr a) m =
        (_, at_type s a (type_of k.defs s a) _ (pair_is (suc n) (type_of k.defs s a) (second m)) (typed s (suc n) a (first (first m))))
    typed s n (len_expr a) m = (_, refl, typed s (suc n) a (first (first m)), length_is (suc n) (type_of k.defs s a) (second m))
    typed s n (op_expr o a b) m =
        let i = suc n + nodes a in (
          _,
          _,
          typed s (suc n) a (first (first (first m))),
          typed s i b (first (first (second m))),
          operates o (suc n) i
              (type_of k.defs s a) (type_of k.defs s b) (second (first m)) (second (second m)),
        )
    typed s n (let_expr x a b) m = (
      _,
      typed s (suc n) a (first (first (second m))),
      typed (bind_value s x (type_of k.defs s a)) (suc n + nodes a) b
          (first (second (second m))),
    )
    typed s n (if_expr c a b) m =
        let i = suc n + nodes c in (
          at_type s c (type_of k.defs s c) bool_type (compared_is (suc n) bool_type (type_of k.defs s c) (second (first m)))
              (typed s (suc n) c (first (first (first m)))),
          typed s i a (first (first (second m))),
          at_type s b (type_of k.defs s b) (type_of k.defs s a)
              (compared_is (i + nodes a) (type_of k.defs s a) (type_of k.defs s b) (second (second (second m))))
              (typed s (i + nodes a) b (first (first (second (second m))))),
        )
    typed s n (case_expr l a x y b) m =
        let i = suc n + nodes l in
        let t = type_of k.defs s l in
        let inner = bind_value (bind_value s x (item_part t)) y t in
        let rest = second (second m) in
        let branches = second rest in (
          item_part t,
          t,
          list_is (suc n) t (second (first rest)),
          typed s (suc n) l (first (first (first rest))),
          typed s i a (first (first branches)),
          at_type inner b (type_of k.defs inner b) (type_of k.defs s a)
              (compared_is (i + nodes a) (type_of k.defs s a) (type_of k.defs inner b) (second (second branches)))
              (typed inner (i + nodes a) b (first (first (second branches)))),
        )

    each : (s : List ParamTerm) (n : ℕ) (t : BasicTerm) (es : HostTerms) → IsMet (elements k s n t es) → AllHave k s es t
    each s n t no_exprs m = tt
    each s n t (more_exprs e es) m = (
      at_type s e (type_of k.defs s e) t (compared_is n t (type_of k.defs s e) (second (first m)))
          (typed s n e (first (first (first m)))),
      each s (n + nodes e) t es (second m),
    )

    pub all_of : (s : List ParamTerm) (n : ℕ) (es : HostTerms) (ps : List ParamTerm) → length ps ≡ count_all es
        → IsMet (arguments k s n es ps) → HaveTypes k s es ps
    all_of s n no_exprs [] many m = tt
    all_of s n no_exprs (p ∷ ps) many m = absurd cc
    all_of s n (more_exprs e es) [] many m = absurd cc
    all_of s n (more_exprs e es) (p ∷ ps) many m =
        let fewer : length ps ≡ count_all es = cc in (
          of_kind n s p.kind (bare_name e) (type_of k.defs s e) (demands k s n e) (λ b. HasType k s e b) (λ h. typed s n e h) (first m),
          all_of s (n + nodes e) es ps fewer (second m),
        )
