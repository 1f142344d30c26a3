-- What tests for failing, strides, settling and normalising cost, by the figures of trees.
use Rattle.std.proofs.Common.{◌≡◌, ◌⊎◌, inl, inr, ℕ, zero, suc, ◌+◌, ◌<◌, ◌≤◌, Bool, true, false, List, [], ◌∷◌, ◌++◌, Option, Some, None, slice_get, refl, ap, ◌∙◌, arith}
use Rattle.task_model.specs.Terms.Value.{ValueTerm}
use Rattle.task_model.specs.Terms.Env.{SlotTerm, plain_slot, EnvTerm}
use Rattle.task_model.specs.Terms.Task.{TaskTerm}
use Rattle.task_model.specs.Terms.Tree.{LaterTerm, TreeTerm, edit_tree, enter_tree, share_tree, then_tree, next_tree, fail_tree, and_tree, or_tree, xor_tree, State, at}
use Rattle.task_model.specs.Running.Checked.{CheckedTerm}
use Rattle.task_model.specs.Running.Work.{rule}
use Rattle.task_model.specs.Running.Plan.{fails, strides, settles, normal, Plan, give, ask, stride_on, plan_work, Parts, StrideList, derives_at}
use Rattle.task_model.specs.Running.Rules.{value_of, with_value, or_of, opened_env, tested, side, fail_rule, fired, stride_rule, rule_of}
use Rattle.task_model.specs.Checking.Accepted.{IsAccepted}
use Rattle.typing_laws.specs.Well.{MayAsk, Well}
use Rattle.typing_laws.proofs.CallLemmas.{well_rule, well_stride}
use Rattle.typing_laws.proofs.RuleLemmas.{derives_typed}
use Rattle.stride_bound.specs.declared.bounds.Bound.{Bound}
use Rattle.stride_bound.specs.declared.figures.Figures.{Figures}
use Rattle.stride_bound.specs.Sums.{naught, beside, over_parts, test_bound}
use Rattle.stride_bound.specs.Sums as sums
use Rattle.stride_bound.specs.Figures.{Tables, task_figures, task_tests}
use Rattle.bound_laws.proofs.CutLemmas.{cut_chain, Under, under_self, naught_under, either_first, beside_naught, no_more_under, under_normal, calm_self, calm_chain, at_most_calm, calm_pair, calm_choice, calm_then, calm_next, choice_first, choice_second, then_second}
use Rattle.bound_laws.proofs.Does.{Does, Anything, does_more, does_never, does_rule, does_give, does_last, asks, asks_last, knows, branches, goes_on}
use Rattle.bound_laws.proofs.Holds.{Holds}
use Rattle.bound_laws.proofs.TaskCosts.{tree_figures, TestsUnder, Stays, stays_in, tasks_do}
use Rattle.bound_laws.proofs.StrideCosts.{strides_do}

module _ (T : Tables) where
  -- how many things may still fire in a tree without an input: what the body of a user step may fire isn't among them
  abbrev pub left_to_fire : TreeTerm → ℕ
  left_to_fire (edit_tree b v) = 0
  left_to_fire (enter_tree b) = 0
  left_to_fire (share_tree b n) = 0
  left_to_fire fail_tree = 0
  left_to_fire (then_tree t k) = suc (left_to_fire t + (T.body k.body).fires)
  left_to_fire (next_tree t k) = left_to_fire t
  left_to_fire (and_tree t u) = left_to_fire t + left_to_fire u
  left_to_fire (or_tree t u) = suc (left_to_fire t + left_to_fire u)
  left_to_fire (xor_tree j k) = 0

  -- it is no more than what may fire in all
  pub no_more_left : (t : TreeTerm) → sums.cut (left_to_fire t) ≤ (tree_figures T t).fires
  no_more_left (edit_tree b v) = omega arith
  no_more_left (enter_tree b) = omega arith
  no_more_left (share_tree b n) = omega arith
  no_more_left fail_tree = omega arith
  no_more_left (then_tree t k) = let a = no_more_left t in omega (arith, a)
  no_more_left (next_tree t k) = let a = no_more_left t in omega (arith, a)
  no_more_left (and_tree t u) = let a = no_more_left t in let b = no_more_left u in omega (arith, a, b)
  no_more_left (or_tree t u) = let a = no_more_left t in let b = no_more_left u in omega (arith, a, b)
  no_more_left (xor_tree j k) = omega arith

failing_tall : (T : Tables) (t : TreeTerm) → 1 ≤ ((tree_figures T t).failing).height
failing_tall T (edit_tree b v) = omega arith
failing_tall T (enter_tree b) = omega arith
failing_tall T (share_tree b n) = omega arith
failing_tall T fail_tree = omega arith
failing_tall T (then_tree t k) = omega arith
failing_tall T (next_tree t k) = omega arith
failing_tall T (and_tree t u) = omega arith
failing_tall T (or_tree t u) = omega arith
failing_tall T (xor_tree j k) = omega arith

striding_tall : (T : Tables) (t : TreeTerm) → 1 ≤ ((tree_figures T t).striding).height
striding_tall T (edit_tree b v) = omega arith
striding_tall T (enter_tree b) = omega arith
striding_tall T (share_tree b n) = omega arith
striding_tall T fail_tree = omega arith
striding_tall T (then_tree t k) = omega arith
striding_tall T (next_tree t k) = omega arith
striding_tall T (and_tree t u) = omega arith
striding_tall T (or_tree t u) = omega arith
striding_tall T (xor_tree j k) = omega arith

module _ (T : Tables) (G : Bound) where
  -- What a stride makes of a tree. Where the figures tell how much may fire, nothing has changed or less of it is left than before.
  pub record Stridden (t : TreeTerm) (σ : List ValueTerm) (s : State) : Type 0 where
    pub stays : Stays T G (tree_figures T t) s
    pub moved : (tree_figures T t).fires ≤ 1000000 → (s ≡ at t σ) ⊎ (left_to_fire T s.tree < left_to_fire T t)

  unmoved : (t : TreeTerm) (σ : List ValueTerm) → TestsUnder T G t → Stridden t σ (at t σ)
  unmoved t σ g = record { stays = record { figures = calm_self _; tests = g }; moved = λ f. inl refl }

  no_more_than : (t : TreeTerm) (σ : List ValueTerm) (s : State) → Stridden t σ s → (tree_figures T t).fires ≤ 1000000
      → left_to_fire T s.tree ≤ left_to_fire T t
  no_more_than t σ s p f = by_moved (p.moved f)
    where
      by_moved : (s ≡ at t σ) ⊎ (left_to_fire T s.tree < left_to_fire T t) → left_to_fire T s.tree ≤ left_to_fire T t
      by_moved (inl e) = let same = ap (λ (z : State). left_to_fire T z.tree) e in omega (arith, same)
      by_moved (inr l) = omega (arith, l)

  -- ---- user steps
  next_moved : (t : TreeTerm) (k : LaterTerm) (σ : List ValueTerm) (s : State) → Under (test_bound (T.body k.body)) G → Stridden t σ s
      → Stridden (next_tree t k) σ (at (next_tree s.tree k) s.store)
  next_moved t k σ s g p = record {
    stays = record { figures = calm_next _ _ (T.body k.body) p.stays.figures; tests = (g, p.stays.tests) };
    moved = λ f. by_left (p.moved (omega (arith, f)));
  }
    where
      by_left : (s ≡ at t σ) ⊎ (left_to_fire T s.tree < left_to_fire T t)
          → (at (next_tree s.tree k) s.store ≡ at (next_tree t k) σ) ⊎ (left_to_fire T (next_tree s.tree k) < left_to_fire T (next_tree t k))
      by_left (inl e) = inl (ap (λ (z : State). at (next_tree z.tree k) z.store) e)
      by_left (inr l) = inr l

  -- ---- internal steps
  then_moved : (t : TreeTerm) (k : LaterTerm) (σ : List ValueTerm) (s : State) → Stridden t σ s
      → Stridden (then_tree t k) σ (at (then_tree s.tree k) s.store)
  then_moved t k σ s p = record {
    stays = record { figures = calm_then _ _ _ p.stays.figures; tests = p.stays.tests };
    moved = λ f. by_left (p.moved (omega (arith, f)));
  }
    where
      by_left : (s ≡ at t σ) ⊎ (left_to_fire T s.tree < left_to_fire T t)
          → (at (then_tree s.tree k) s.store ≡ at (then_tree t k) σ) ⊎ (left_to_fire T (then_tree s.tree k) < left_to_fire T (then_tree t k))
      by_left (inl e) = inl (ap (λ (z : State). at (then_tree z.tree k) z.store) e)
      by_left (inr l) = inr (omega (arith, l))

  fired_moved : (t : TreeTerm) (k : LaterTerm) (σ : List ValueTerm) (z : State) → Stays T G (T.body k.body) z → Stridden (then_tree t k) σ z
  fired_moved t k σ z r =
      let a = no_more_left T z.tree in
      let b = r.figures.fires in
      record { stays = stays_in T G _ _ z (then_second _ _ _ (calm_self _)) r; moved = λ f. inr (omega (arith, f, a, b)) }

  -- ---- pairs and internal choices
  -- what is left of two parts
  left_of_both : (t u : TreeTerm) (σ : List ValueTerm) (s s' : State) → Stridden t σ s → Stridden u s.store s' → (tree_figures T t).fires ≤ 1000000
      → (tree_figures T u).fires ≤ 1000000
      → ((s ≡ at t σ) × (s' ≡ at u s.store)) ⊎ (left_to_fire T s.tree + left_to_fire T s'.tree < left_to_fire T t + left_to_fire T u)
  left_of_both t u σ s s' p q f g = by_parts (p.moved f) (q.moved g)
    where
      left_same : {t : TreeTerm} {σ : List ValueTerm} {s : State} → s ≡ at t σ → left_to_fire T s.tree ≡ left_to_fire T t
      left_same e = ap (λ (z : State). left_to_fire T z.tree) e

      by_parts : (s ≡ at t σ) ⊎ (left_to_fire T s.tree < left_to_fire T t) → (s' ≡ at u s.store) ⊎ (left_to_fire T s'.tree < left_to_fire T u)
          → ((s ≡ at t σ) × (s' ≡ at u s.store)) ⊎ (left_to_fire T s.tree + left_to_fire T s'.tree < left_to_fire T t + left_to_fire T u)
      by_parts (inl e) (inl d) = inl (e, d)
      by_parts (inl e) (inr l) = let same = left_same e in inr (omega (arith, same, l))
      by_parts (inr l) (inl d) = let same = left_same d in inr (omega (arith, same, l))
      by_parts (inr l) (inr m) = inr (omega (arith, l, m))

  and_moved : (t u : TreeTerm) (σ : List ValueTerm) (s s' : State) → Stridden t σ s → Stridden u s.store s'
      → Stridden (and_tree t u) σ (at (and_tree s.tree s'.tree) s'.store)
  and_moved t u σ s s' p q = record {
    stays = record { figures = calm_pair _ _ _ _ p.stays.figures q.stays.figures; tests = (p.stays.tests, q.stays.tests) };
    moved = λ f. by_both (left_of_both t u σ s s' p q (omega (arith, f)) (omega (arith, f)));
  }
    where
      by_both : ((s ≡ at t σ) × (s' ≡ at u s.store)) ⊎ (left_to_fire T s.tree + left_to_fire T s'.tree < left_to_fire T t + left_to_fire T u)
          → (at (and_tree s.tree s'.tree) s'.store ≡ at (and_tree t u) σ)
          ⊎ (left_to_fire T (and_tree s.tree s'.tree) < left_to_fire T (and_tree t u))
      by_both (inl e) = inl (ap (λ (z : State). at (and_tree s.tree z.tree) z.store) e.1 ∙ ap (λ (z : State). at (and_tree z.tree u) z.store) e.0)
      by_both (inr l) = inr l

  -- where the second part has a value it stands alone
  or_moved : (o : Option ValueTerm) (t u : TreeTerm) (σ : List ValueTerm) (s s' : State) → Stridden t σ s → Stridden u s.store s'
      → Stridden (or_tree t u) σ (at (or_of o s.tree s'.tree) s'.store)
  or_moved None t u σ s s' p q = record {
    stays = record { figures = calm_choice _ _ _ _ p.stays.figures q.stays.figures; tests = (p.stays.tests, q.stays.tests) };
    moved = λ f. by_both (left_of_both t u σ s s' p q (omega (arith, f)) (omega (arith, f)));
  }
    where
      by_both : ((s ≡ at t σ) × (s' ≡ at u s.store)) ⊎ (left_to_fire T s.tree + left_to_fire T s'.tree < left_to_fire T t + left_to_fire T u)
          → (at (or_tree s.tree s'.tree) s'.store ≡ at (or_tree t u) σ) ⊎ (left_to_fire T (or_tree s.tree s'.tree) < left_to_fire T (or_tree t u))
      by_both (inl e) = inl (ap (λ (z : State). at (or_tree s.tree z.tree) z.store) e.1 ∙ ap (λ (z : State). at (or_tree z.tree u) z.store) e.0)
      by_both (inr l) = inr (omega (arith, l))
  or_moved (Some v) t u σ s s' p q = record {
    stays = record { figures = choice_second _ _ _ q.stays.figures; tests = q.stays.tests };
    moved = λ f. let l = no_more_than u s.store s' q (omega (arith, f)) in inr (omega (arith, l));
  }

  first_moved : (t u : TreeTerm) (σ : List ValueTerm) (s : State) → Stridden t σ s → Stridden (or_tree t u) σ s
  first_moved t u σ s p = record {
    stays = record { figures = choice_first _ _ _ p.stays.figures; tests = p.stays.tests };
    moved = λ f. let l = no_more_than t σ s p (omega (arith, f)) in inr (omega (arith, l));
  }

module _ (c : CheckedTerm) (accepted : IsAccepted c) (T : Tables) (G : Bound) (holds : Holds c T G) where
  abbrev pub FailsDo : ℕ → Type 0
  FailsDo k = (s : State) → MayAsk c (fails s) → Does k (derives_at (rule_of c) k (fails s)) Anything ((tree_figures T s.tree).failing)

  abbrev pub StridesDo : ℕ → Type 0
  StridesDo k = (t : TreeTerm) (σ : List ValueTerm) → TestsUnder T G t → MayAsk c (strides (at t σ))
      → Does k (derives_at (rule_of c) k (strides (at t σ))) (Stridden T G t σ) ((tree_figures T t).striding)

  abbrev pub NormalsDo : ℕ → Type 0
  NormalsDo k = (t : TaskTerm) (env : EnvTerm) (σ : List ValueTerm) → Under (task_tests T t) G → MayAsk c (normal t env σ)
      → Does k (derives_at (rule_of c) k (normal t env σ)) (Stays T G (task_figures T t)) (sums.normal (task_figures T t))

  module _ (k : ℕ) (fl : FailsDo k) (nm : NormalsDo k) where
    abbrev part : Parts
    part = derives_at (rule_of c) k

    -- a body, normalised and tested for failing, and what follows at once
    pub tested_does : {A : Type 0} (i : ℕ) (vs : List SlotTerm) (σ : List ValueTerm) (f : State → Bool → Plan A) (Q : A → Type 0)
        → Well c (tested c i vs σ f)
        → ((s : State) (no : Bool) → Stays T G (T.body i) s → Well c (f s no) → Does k (plan_work part (f s no)) Q naught)
        → Does k (plan_work part (tested c i vs σ f)) Q (test_bound (T.body i))
    tested_does i vs σ f Q w r = knows c accepted k (slice_get c.program.bodies i) _ Q (test_bound (T.body i)) w (λ b is w'.
        let at_most = holds.body i b is in
        let calm = at_most_calm _ _ at_most in
        asks c accepted k Q (sums.normal (T.body i)) ((T.body i).failing) w'
        (λ m. does_more (sums.normal (T.body i)) (nm b.task (opened_env c i b vs) σ (holds.body_within i b is) m)
        (under_normal _ _ (no_more_under _ _ at_most.evaluating) calm))
        (λ s l w''. does_more _ (asks c accepted k Q ((T.body i).failing) naught w''
        (λ m. does_more ((T.body i).failing) (fl s m) ((calm_chain _ _ _ l.figures calm).failing))
        (λ no _ w3. r s no (stays_in T G _ _ s calm l) w3)) (beside_naught _)))

    pub side_does : (j : LaterTerm) (vs : List SlotTerm) (σ : List ValueTerm) → Well c (tested c j.body vs σ (λ s no. give no))
        → Does k (plan_work part (tested c j.body vs σ (λ s no. give no))) Anything (test_bound (T.body j.body))
    side_does j vs σ w = tested_does j.body vs σ (λ s no. give no) Anything w (λ s no _ _. does_give no Anything tt)

    -- ---- failing
    one_fails : (t : TreeTerm) (σ : List ValueTerm) → Well c (ask (fails (at t σ)) give)
        → Does k (plan_work part (ask (fails (at t σ)) give)) Anything ((tree_figures T t).failing)
    one_fails t σ w = asks_last c accepted k (λ x. x) Anything ((tree_figures T t).failing) w (fl (at t σ)) (λ no _. tt)

    not_failing : (b : Bound) → Does k (plan_work part (give false)) Anything b
    not_failing b = does_more b (does_give false Anything tt) (naught_under b)

    fail_does : (t : TreeTerm) (σ : List ValueTerm) → Well c (fail_rule c t σ)
        → Does (suc k) (rule (plan_work part (fail_rule c t σ))) Anything ((tree_figures T t).failing)
    fail_does (edit_tree b v) σ w = does_rule (does_give false Anything tt)
    fail_does (enter_tree b) σ w = does_rule (does_give false Anything tt)
    fail_does (share_tree b n) σ w = does_rule (does_give false Anything tt)
    fail_does fail_tree σ w = does_rule (does_give true Anything tt)
    fail_does (then_tree t j) σ w = does_more _ (does_rule (one_fails t σ w)) (either_first _ _ ((T.body j.body).failing) (under_self _))
    fail_does (next_tree t j) σ w = does_more _ (does_rule (one_fails t σ w)) (either_first _ _ ((T.body j.body).failing) (under_self _))
    fail_does (and_tree t u) σ w = does_rule (asks c accepted k Anything ((tree_figures T t).failing) ((tree_figures T u).failing) w (fl (at t σ))
        (λ no _ w'. branches c accepted k no _ _ Anything _ w' (one_fails u σ) (λ _. not_failing _)))
    fail_does (or_tree t u) σ w = does_rule (asks c accepted k Anything ((tree_figures T t).failing) ((tree_figures T u).failing) w (fl (at t σ))
        (λ no _ w'. branches c accepted k no _ _ Anything _ w' (one_fails u σ) (λ _. not_failing _)))
    fail_does (xor_tree i j) σ w = does_rule (goes_on c accepted k (side c i σ) _ Anything Anything (test_bound (T.body i.body)) (test_bound (T.body j.body)) w
        (side_does i i.slots σ)
        (λ no _ w'. branches c accepted k no _ _ Anything _ w' (side_does j j.slots σ) (λ _. not_failing _)))

    -- ---- strides
    module _ (st : StridesDo k) where
      or_rest : (o : Option ValueTerm) (t u : TreeTerm) (σ : List ValueTerm) (s : State) → TestsUnder T G u → Stridden T G t σ s
          → Well c (with_value o (give s) (ask (strides (at u s.store)) (λ s'. give (at (or_of (value_of s'.tree s'.store) s.tree s'.tree) s'.store))))
          → Does k (plan_work part (with_value o (give s) (ask (strides (at u s.store))
          (λ s'. give (at (or_of (value_of s'.tree s'.store) s.tree s'.tree) s'.store))))) (Stridden T G (or_tree t u) σ) ((tree_figures T u).striding)
      or_rest (Some v) t u σ s g p w = does_more _ (does_give s (Stridden T G (or_tree t u) σ) (first_moved T G t u σ s p)) (naught_under _)
      or_rest None t u σ s g p w = asks_last c accepted k _ (Stridden T G (or_tree t u) σ) ((tree_figures T u).striding) w (st u s.store g)
          (λ s' q. or_moved T G (value_of s'.tree s'.store) t u σ s s' p q)

      fired_does : (o : Option ValueTerm) (t : TreeTerm) (j : LaterTerm) (σ : List ValueTerm) (s : State) → Stridden T G t σ s
          → Well c (fired c o j s)
          → Does k (plan_work part (fired c o j s)) (Stridden T G (then_tree t j) σ) (beside ((T.body j.body).evaluating) ((T.body j.body).failing))
      fired_does None t j σ s p w = does_more _ (does_give _ (Stridden T G (then_tree t j) σ) (then_moved T G t j σ s p)) (naught_under _)
      fired_does (Some v) t j σ s p w = knows c accepted k (slice_get c.program.bodies j.body) _ (Stridden T G (then_tree t j) σ) _ w (λ b is w'.
          let at_most = holds.body j.body b is in
          let calm = at_most_calm _ _ at_most in
          asks c accepted k (Stridden T G (then_tree t j) σ) ((T.body j.body).evaluating) ((T.body j.body).failing) w'
          (λ m. does_more ((T.body j.body).evaluating)
          (tasks_do c accepted T G holds k b.task (opened_env c j.body b (j.slots ++ plain_slot v ∷ [])) s.store (holds.body_within j.body b is) m)
          (no_more_under _ _ at_most.evaluating))
          (λ z l w''. does_more _ (asks c accepted k (Stridden T G (then_tree t j) σ) ((T.body j.body).failing) naught w''
          (λ m. does_more ((T.body j.body).failing) (fl z m) ((calm_chain _ _ _ l.figures calm).failing))
          (λ no _ w3. branches c accepted k no _ _ (Stridden T G (then_tree t j) σ) naught w3
          (λ _. does_give _ (Stridden T G (then_tree t j) σ) (then_moved T G t j σ s p))
          (λ _. does_give z (Stridden T G (then_tree t j) σ) (fired_moved T G t j σ z (stays_in T G _ _ z calm l))))) (beside_naught _)))

      stride_does : (t : TreeTerm) (σ : List ValueTerm) → TestsUnder T G t → Well c (stride_rule c t σ)
          → Does (suc k) (rule (plan_work part (stride_rule c t σ))) (Stridden T G t σ) ((tree_figures T t).striding)
      stride_does (edit_tree b v) σ g w = does_rule (does_give _ (Stridden T G (edit_tree b v) σ) (unmoved T G _ σ g))
      stride_does (enter_tree b) σ g w = does_rule (does_give _ (Stridden T G (enter_tree b) σ) (unmoved T G _ σ g))
      stride_does (share_tree b n) σ g w = does_rule (does_give _ (Stridden T G (share_tree b n) σ) (unmoved T G _ σ g))
      stride_does fail_tree σ g w = does_rule (does_give _ (Stridden T G fail_tree σ) (unmoved T G _ σ g))
      stride_does (xor_tree i j) σ g w = does_more _ (does_rule (does_give _ (Stridden T G (xor_tree i j) σ) (unmoved T G _ σ g)))
          (either_first _ _ _ (under_self _))
      stride_does (next_tree t j) σ g w = does_more _ (does_rule (asks_last c accepted k _ (Stridden T G (next_tree t j) σ) ((tree_figures T t).striding) w
          (st t σ g.1) (λ s p. next_moved T G t j σ s g.0 p))) (either_first _ _ ((T.body j.body).striding) (under_self _))
      stride_does (then_tree t j) σ g w = does_more _ (does_rule (asks c accepted k (Stridden T G (then_tree t j) σ) ((tree_figures T t).striding)
          (beside ((T.body j.body).evaluating) ((T.body j.body).failing)) w (st t σ g)
          (λ s p w'. fired_does (value_of s.tree s.store) t j σ s p w'))) (either_first _ _ ((T.body j.body).striding) (under_self _))
      stride_does (and_tree t u) σ g w = does_rule (asks c accepted k (Stridden T G (and_tree t u) σ) ((tree_figures T t).striding) ((tree_figures T u).striding) w
          (st t σ g.0) (λ s p w'. asks_last c accepted k _ (Stridden T G (and_tree t u) σ) ((tree_figures T u).striding) w' (st u s.store g.1)
          (λ s' q. and_moved T G t u σ s s' p q)))
      stride_does (or_tree t u) σ g w = does_rule (asks c accepted k (Stridden T G (or_tree t u) σ) ((tree_figures T t).striding) ((tree_figures T u).striding) w
          (st t σ g.0) (λ s p w'. or_rest (value_of s.tree s.store) t u σ s g.1 p w'))

      -- ---- settling
      module _ (F : Figures) where
        abbrev Inside : State → Type 0
        Inside s = MayAsk c (strides s) × Stays T G F s

        one_does : (s : State) → Inside s → Does k (part (strides s)) Inside F.striding
        one_does s i =
            let d = st s.tree s.store i.1.tests i.0 in
            let more = does_more F.striding d i.1.figures.striding in
            record {
              result = λ t n h e.
                  let kept = derives_typed c accepted k i.0.typing (strides s) i.0.assumed t n h e in (
                    record { typing = record { places = kept.0; type = i.0.typing.type }; assumed = kept.2 },
                    stays_in T G _ _ t i.1.figures ((d.result t n h e).stays),
                  );
              cheap = more.cheap;
              low = more.low;
              made = more.made;
            }

        all_do : (s : State) → Inside s → Does k (StrideList (λ t. part (strides t)) s) Inside (sums.strides F)
        all_do = strides_do k (λ t. part (strides t)) Inside (λ s. left_to_fire T s.tree) F (record {
          does = one_does;
          within = λ s i. cut_chain _ _ _ (no_more_left T s.tree) i.1.figures.fires;
          falls = λ s t n h i d f. ((st s.tree s.store i.1.tests i.0).result t n h d).moved (let a = i.1.figures.fires in omega (arith, a, f));
        })

        settled_does : (s : State) → Stays T G F s → Well c (stride_on s give)
            → Does k (plan_work part (stride_on s give)) (Stays T G F) (sums.strides F)
        settled_does s l w = does_last (λ t. t) (Stays T G F) (sums.strides F) (all_do s (well_stride w, l)) (λ t i. i.1)

      normal_does : (t : TaskTerm) (env : EnvTerm) (σ : List ValueTerm) → Under (task_tests T t) G → Well c (rule_of c (normal t env σ))
          → Does (suc k) (rule (plan_work part (rule_of c (normal t env σ)))) (Stays T G (task_figures T t)) (sums.normal (task_figures T t))
      normal_does t env σ g w = does_rule (asks c accepted k (Stays T G (task_figures T t)) ((task_figures T t).evaluating) (sums.strides (task_figures T t)) w
          (tasks_do c accepted T G holds k t env σ g) (λ s l w'. settled_does (task_figures T t) s l w'))

      settle_does : (s : State) → TestsUnder T G s.tree → Well c (rule_of c (settles s))
          → Does (suc k) (rule (plan_work part (rule_of c (settles s)))) (Stays T G (tree_figures T s.tree)) (over_parts (sums.strides (tree_figures T s.tree)))
      settle_does s g w = does_rule (settled_does (tree_figures T s.tree) s (record { figures = calm_self _; tests = g }) w)

  -- ---- at every level
  record AllDo (k : ℕ) : Type 0 where
    failing : FailsDo k
    striding : StridesDo k
    normalising : NormalsDo k

  all_at : (k : ℕ) → AllDo k
  all_at zero = record {
    failing = λ s m. does_never _ _ (failing_tall T s.tree);
    striding = λ t σ g m. does_never _ _ (striding_tall T t);
    normalising = λ t env σ g m. does_never _ _ (omega arith);
  }
  all_at (suc k) =
      let below = all_at k in
      record {
        failing = λ s m. fail_does k below.failing below.normalising s.tree s.store (well_rule accepted m);
        striding = λ t σ g m. stride_does k below.failing below.normalising below.striding t σ g (well_rule accepted m);
        normalising = λ t env σ g m. normal_does k below.failing below.normalising below.striding t env σ g (well_rule accepted m);
      }

  pub fails_do : (k : ℕ) → FailsDo k
  fails_do k = (all_at k).failing

  pub normals_do : (k : ℕ) → NormalsDo k
  normals_do k = (all_at k).normalising

  pub settles_do : (k : ℕ) (s : State) → TestsUnder T G s.tree → MayAsk c (settles s)
      → Does k (derives_at (rule_of c) k (settles s)) (Stays T G (tree_figures T s.tree)) (over_parts (sums.strides (tree_figures T s.tree)))
  settles_do zero s g m = does_never _ _ (omega arith)
  settles_do (suc k) s g m = let below = all_at k in settle_does k below.failing below.normalising below.striding s g (well_rule accepted m)
