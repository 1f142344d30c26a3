-- What evaluating expressions costs.
use Rattle.std.proofs.Common.{◌≡◌, ℕ, zero, suc, ◌≤◌, List, [], ◌∷◌, ◌++◌, true, false, Option, Some, None, slice_get, refl, sym, ap, subst, arith}
use Rattle.task_model.specs.Terms.Text.{Text}
use Rattle.task_model.specs.Terms.Value.{ValueTerm, bool_value}
use Rattle.task_model.specs.Terms.Env.{SlotTerm, plain_slot, place_slot, EnvTerm}
use Rattle.task_model.specs.Terms.Host.{HostTerm, unit_expr, bool_expr, int_expr, text_expr, name_expr, read_expr, call_expr, pair_expr, list_expr, nil_expr, neg_expr, not_expr, fst_expr, snd_expr, len_expr, op_expr, let_expr, if_expr, case_expr, HostTerms, no_exprs, more_exprs, as_exprs}
use Rattle.task_model.specs.Terms.Program.{KindTerm, plain_kind, ref_kind, ParamTerm}
use Rattle.task_model.specs.Running.Checked.{CheckedTerm, slot_of, fun_named, param_names}
use Rattle.task_model.specs.Running.Work.{rule}
use Rattle.task_model.specs.Running.Operators.{operated}
use Rattle.task_model.specs.Running.Plan.{gives_value, Plan, give, ask, plan_work, Parts, known, after, derives_at}
use Rattle.task_model.specs.Running.Rules.{as_place, exprs_of, bare_name, slot_for, slots_for, values_for, op_rule, value_rule, rule_of}
use Rattle.task_model.specs.declared.host.Op.{Op}
use Rattle.task_model.specs.declared.host.Op.TheVariants as ops
use Rattle.task_model.specs.Checking.Accepted.{IsAccepted}
use Rattle.typing_laws.specs.Well.{MayAsk, Well}
use Rattle.typing_laws.proofs.CallLemmas.{well_rule}
use Rattle.stride_bound.specs.declared.bounds.Bound.{Bound}
use Rattle.stride_bound.specs.Sums.{naught, beside, either, over_parts}
use Rattle.stride_bound.specs.Figures.{Tables, expression_bound, expressions_bound}
use Rattle.bound_laws.proofs.CutLemmas.{Under, under_self, under_beside, naught_under, beside_second, beside_regroups, beside_naught, no_more_under}
use Rattle.bound_laws.proofs.Does.{Does, Anything, does_more, does_never, does_rule, does_give, asks, asks_last, pays, knows, takes_value, takes_place, chooses, matches}
use Rattle.bound_laws.proofs.Holds.{Holds}

-- every expression is at least one rule high
pub expression_tall : (T : Tables) (e : HostTerm) → 1 ≤ (expression_bound T e).height
expression_tall T unit_expr = omega arith
expression_tall T (bool_expr b) = omega arith
expression_tall T (int_expr i) = omega arith
expression_tall T (text_expr t) = omega arith
expression_tall T (name_expr x) = omega arith
expression_tall T (read_expr x) = omega arith
expression_tall T (call_expr f es) = omega arith
expression_tall T (pair_expr a b) = omega arith
expression_tall T (list_expr es) = omega arith
expression_tall T (nil_expr b) = omega arith
expression_tall T (neg_expr a) = omega arith
expression_tall T (not_expr a) = omega arith
expression_tall T (fst_expr a) = omega arith
expression_tall T (snd_expr a) = omega arith
expression_tall T (len_expr a) = omega arith
expression_tall T (op_expr o a b) = omega arith
expression_tall T (let_expr x a b) = omega arith
expression_tall T (if_expr e a b) = omega arith
expression_tall T (case_expr e a x y b) = omega arith

-- arguments as they are in an expression
pub same_exprs : (es : HostTerms) → as_exprs (exprs_of es) ≡ es
same_exprs no_exprs = refl
same_exprs (more_exprs e es) = ap (more_exprs e) (same_exprs es)

module _ (c : CheckedTerm) (accepted : IsAccepted c) (T : Tables) (G : Bound) where
  abbrev pub ValuesDo : ℕ → Type 0
  ValuesDo k = (e : HostTerm) (env : EnvTerm) (σ : List ValueTerm) → MayAsk c (gives_value e env σ)
      → Does k (derives_at (rule_of c) k (gives_value e env σ)) Anything (expression_bound T e)

  module _ (k : ℕ) (ih : ValuesDo k) (env : EnvTerm) (σ : List ValueTerm) where
    abbrev part : Parts
    part = derives_at (rule_of c) k

    listed_does : {A : Type 0} (es : HostTerms) (done : List ValueTerm) (f : List ValueTerm → Plan A) (Q : A → Type 0) (b : Bound)
        → Well c (after (values_for env σ done es) f) → ((vs : List ValueTerm) → Well c (f vs) → Does k (plan_work part (f vs)) Q b)
        → Does k (plan_work part (after (values_for env σ done es) f)) Q (beside (expressions_bound T es) b)
    listed_does no_exprs done f Q b w s = does_more _ (s done w) (beside_second b naught b (under_self b))
    listed_does (more_exprs e es) done f Q b w s =
        does_more _ (asks c accepted k Q (expression_bound T e) (beside (expressions_bound T es) b) w (ih e env σ)
        (λ v _ w'. listed_does es (done ++ v ∷ []) f Q b w' s)) (beside_regroups _ _ b)

    -- ---- arguments
    named_place : {A B : Type 0} (o : Option Text) (F : SlotTerm → Plan A) (f : A → Plan B) (Q : B → Type 0) (b : Bound)
        → Well c (after (known o (λ x. known (slot_of env x) (λ s. as_place s (λ n. F (place_slot n))))) f)
        → ((s : SlotTerm) → Well c (after (F s) f) → Does k (plan_work part (after (F s) f)) Q b)
        → Does k (plan_work part (after (known o (λ x. known (slot_of env x) (λ s. as_place s (λ n. F (place_slot n))))) f)) Q b
    named_place None F f Q b w r = absurd w.good
    named_place (Some x) F f Q b w r = by_slot (slot_of env x) w
      where
        by_slot : (o : Option SlotTerm) → Well c (after (known o (λ s. as_place s (λ n. F (place_slot n)))) f)
            → Does k (plan_work part (after (known o (λ s. as_place s (λ n. F (place_slot n)))) f)) Q b
        by_slot None w = absurd w.good
        by_slot (Some (plain_slot v)) w = absurd w.good
        by_slot (Some (place_slot n)) w = r (place_slot n) w

    argument_does : {A B : Type 0} (e : HostTerm) (q : KindTerm) (F : SlotTerm → Plan A) (f : A → Plan B) (Q : B → Type 0) (b : Bound)
        → Well c (after (slot_for env σ e q F) f) → ((s : SlotTerm) → Well c (after (F s) f) → Does k (plan_work part (after (F s) f)) Q b)
        → Does k (plan_work part (after (slot_for env σ e q F) f)) Q (beside (expression_bound T e) b)
    argument_does e (plain_kind t) F f Q b w r = asks c accepted k Q (expression_bound T e) b w (ih e env σ) (λ v _ w'. r (plain_slot v) w')
    argument_does e (ref_kind t) F f Q b w r = does_more _ (named_place (bare_name e) F f Q b w r) (beside_second b (expression_bound T e) b (under_self b))

    pub arguments_do : {A : Type 0} (es : List HostTerm) (qs : List ParamTerm) (done : List SlotTerm) (f : List SlotTerm → Plan A) (Q : A → Type 0)
        (b : Bound) → Well c (after (slots_for env σ done es qs) f)
        → ((vs : List SlotTerm) → Well c (f vs) → Does k (plan_work part (f vs)) Q b)
        → Does k (plan_work part (after (slots_for env σ done es qs) f)) Q (beside (expressions_bound T (as_exprs es)) b)
    arguments_do [] [] done f Q b w r = does_more _ (r done w) (beside_second b naught b (under_self b))
    arguments_do [] (q ∷ qs) done f Q b w r = absurd w.good
    arguments_do (e ∷ es) [] done f Q b w r = absurd w.good
    arguments_do (e ∷ es) (q ∷ qs) done f Q b w r =
        does_more _ (argument_does e q.kind (λ s. slots_for env σ (done ++ s ∷ []) es qs) f Q (beside (expressions_bound T (as_exprs es)) b) w
        (λ s w'. arguments_do es qs (done ++ s ∷ []) f Q b w' r)) (beside_regroups _ _ b)

    -- ---- forms
    one_part : (e : HostTerm) (f : ValueTerm → Option ValueTerm) → Well c (ask (gives_value e env σ) (λ v. known (f v) give))
        → Does (suc k) (rule (plan_work part (ask (gives_value e env σ) (λ v. known (f v) give)))) Anything (over_parts (expression_bound T e))
    one_part e f w = does_rule (does_more _ (asks c accepted k Anything (expression_bound T e) naught w (ih e env σ)
        (λ v _ w'. knows c accepted k (f v) give Anything naught w' (λ x _ _. does_give x Anything tt))) (beside_naught _))

    strict : (o : Op) (a b : HostTerm)
        → Well c (ask (gives_value a env σ) (λ v. ask (gives_value b env σ) (λ w. known (operated o v w) give)))
        → Does (suc k) (rule (plan_work part (ask (gives_value a env σ) (λ v. ask (gives_value b env σ) (λ w. known (operated o v w) give))))) Anything
        (over_parts (beside (expression_bound T a) (expression_bound T b)))
    strict o a b w = does_rule (asks c accepted k Anything (expression_bound T a) (expression_bound T b) w (ih a env σ) (λ v _ w'.
        does_more _ (asks c accepted k Anything (expression_bound T b) naught w' (ih b env σ)
        (λ u _ w''. knows c accepted k (operated o v u) give Anything naught w'' (λ x _ _. does_give x Anything tt))) (beside_naught _)))

    -- where the left decides, the right isn't evaluated
    given : (v : ValueTerm) (b : Bound) → Does k (plan_work part (give v)) Anything b
    given v b = does_more b (does_give v Anything tt) (naught_under b)

    last : (e : HostTerm) (env' : EnvTerm) → Well c (ask (gives_value e env' σ) give)
        → Does k (plan_work part (ask (gives_value e env' σ) give)) Anything (expression_bound T e)
    last e env' w = asks_last c accepted k (λ x. x) Anything (expression_bound T e) w (ih e env' σ) (λ v _. tt)

    same_either : (b : Bound) → Under (either b b) b
    same_either b = record { units = omega arith; height = omega arith }

    op_does : (o : Op) (a b : HostTerm) → Well c (op_rule c o a b env σ)
        → Does (suc k) (rule (plan_work part (op_rule c o a b env σ))) Anything (over_parts (beside (expression_bound T a) (expression_bound T b)))
    op_does ops.Or a b w = does_rule (asks c accepted k Anything (expression_bound T a) (expression_bound T b) w (ih a env σ) (λ v _ w'.
        does_more _ (chooses c accepted k v _ _ Anything (expression_bound T b) (expression_bound T b) w' (λ _. given (bool_value true) _) (last b env)) (same_either _)))
    op_does ops.And a b w = does_rule (asks c accepted k Anything (expression_bound T a) (expression_bound T b) w (ih a env σ) (λ v _ w'.
        does_more _ (chooses c accepted k v _ _ Anything (expression_bound T b) (expression_bound T b) w' (last b env) (λ _. given (bool_value false) _)) (same_either _)))
    op_does ops.Eq a b w = strict ops.Eq a b w
    op_does ops.Ne a b w = strict ops.Ne a b w
    op_does ops.Lt a b w = strict ops.Lt a b w
    op_does ops.Le a b w = strict ops.Le a b w
    op_does ops.Gt a b w = strict ops.Gt a b w
    op_does ops.Ge a b w = strict ops.Ge a b w
    op_does ops.Cons a b w = strict ops.Cons a b w
    op_does ops.Add a b w = strict ops.Add a b w
    op_does ops.Sub a b w = strict ops.Sub a b w
    op_does ops.Join a b w = strict ops.Join a b w
    op_does ops.Mul a b w = strict ops.Mul a b w
    op_does ops.Quot a b w = strict ops.Quot a b w
    op_does ops.Rem a b w = strict ops.Rem a b w

    module _ (holds : Holds c T G) where
      call_does : (f : Text) (es : HostTerms) → Well c (value_rule c (call_expr f es) env σ)
          → Does (suc k) (rule (plan_work part (value_rule c (call_expr f es) env σ))) Anything (expression_bound T (call_expr f es))
      call_does f es w = does_rule (knows c accepted k (fun_named c.program f) _ Anything _ w (λ d is w'.
          pays c accepted k Anything (beside (expressions_bound T es) ((T.definition f).evaluating)) w' (λ w''.
          does_more _ (arguments_do (exprs_of es) d.params [] _ Anything (expression_bound T d.expr) w'' (λ vs. last d.expr (record { names = param_names d.params; slots = vs; first = 0 })))
          (subst (λ z. Under (beside (expressions_bound T z) (expression_bound T d.expr)) (beside (expressions_bound T es) ((T.definition f).evaluating)))
          (sym (same_exprs es)) (under_beside _ _ _ _ (under_self _) (no_more_under _ _ (holds.function f d is)))))))

      value_does : (e : HostTerm) → Well c (value_rule c e env σ)
          → Does (suc k) (rule (plan_work part (value_rule c e env σ))) Anything (expression_bound T e)
      value_does unit_expr w = does_rule (does_give _ Anything tt)
      value_does (bool_expr b) w = does_rule (does_give _ Anything tt)
      value_does (int_expr i) w = does_rule (does_give _ Anything tt)
      value_does (text_expr t) w = does_rule (does_give _ Anything tt)
      value_does (name_expr x) w = does_rule (knows c accepted k (slot_of env x) _ Anything naught w
          (λ s _ w'. takes_value c accepted k s give Anything naught w' (λ v _. does_give v Anything tt)))
      value_does (read_expr x) w = does_rule (knows c accepted k (slot_of env x) _ Anything naught w
          (λ s _ w'. takes_place c accepted k s _ Anything naught w' (λ n w''. knows c accepted k (slice_get σ n) give Anything naught w''
          (λ v _ _. does_give v Anything tt))))
      value_does (call_expr f es) w = call_does f es w
      value_does (pair_expr a b) w = does_rule (asks c accepted k Anything (expression_bound T a) (expression_bound T b) w (ih a env σ)
          (λ v _ w'. asks_last c accepted k _ Anything (expression_bound T b) w' (ih b env σ) (λ u _. tt)))
      value_does (list_expr es) w = does_rule (does_more _ (listed_does es [] _ Anything naught w (λ vs _. does_give _ Anything tt)) (beside_naught _))
      value_does (nil_expr b) w = does_rule (does_give _ Anything tt)
      value_does (neg_expr a) w = one_part a _ w
      value_does (not_expr a) w = one_part a _ w
      value_does (fst_expr a) w = one_part a _ w
      value_does (snd_expr a) w = one_part a _ w
      value_does (len_expr a) w = one_part a _ w
      value_does (op_expr o a b) w = op_does o a b w
      value_does (let_expr x a b) w = does_rule (asks c accepted k Anything (expression_bound T a) (expression_bound T b) w (ih a env σ)
          (λ v _ w'. last b _ w'))
      value_does (if_expr e a b) w = does_rule (asks c accepted k Anything (expression_bound T e) (either (expression_bound T a) (expression_bound T b)) w (ih e env σ)
          (λ v _ w'. chooses c accepted k v _ _ Anything (expression_bound T a) (expression_bound T b) w' (last a env) (last b env)))
      value_does (case_expr e a x y b) w = does_rule (asks c accepted k Anything (expression_bound T e) (either (expression_bound T a) (expression_bound T b)) w (ih e env σ)
          (λ v _ w'. matches c accepted k v _ _ Anything (expression_bound T a) (expression_bound T b) w' (last a env) (λ head tail. last b _)))

  pub values_do : Holds c T G → (k : ℕ) → ValuesDo k
  values_do holds zero e env σ m = does_never _ _ (expression_tall T e)
  values_do holds (suc k) e env σ m = value_does k (values_do holds k) env σ holds e (well_rule accepted m)
