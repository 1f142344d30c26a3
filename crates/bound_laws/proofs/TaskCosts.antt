-- What evaluating tasks costs, and the figures of what they lead to.
use Rattle.std.proofs.Common.{ℕ, zero, suc, ◌≤◌, List, [], slice_get, arith}
use Rattle.task_model.specs.Terms.Text.{Text}
use Rattle.task_model.specs.Terms.Value.{ValueTerm}
use Rattle.task_model.specs.Terms.Env.{EnvTerm}
use Rattle.task_model.specs.Terms.Host.{HostTerm, as_exprs}
use Rattle.task_model.specs.Terms.Task.{TaskTerm, edit, enter, share, fail, call_task, then_task, next_task, and_task, or_task, xor_task, let_task, if_task, case_task, new_task, put_task}
use Rattle.task_model.specs.Terms.Tree.{TreeTerm, edit_tree, enter_tree, share_tree, then_tree, next_tree, fail_tree, and_tree, or_tree, xor_tree, State}
use Rattle.task_model.specs.Running.Checked.{CheckedTerm, slot_of, task_named, param_names}
use Rattle.task_model.specs.Running.Work.{rule}
use Rattle.task_model.specs.Running.Plan.{evaluates, give, ask, plan_work, Parts, derives_at}
use Rattle.task_model.specs.Running.Rules.{evaluate_rule, rule_of}
use Rattle.task_model.specs.Checking.Accepted.{IsAccepted}
use Rattle.typing_laws.specs.Well.{MayAsk, Well}
use Rattle.typing_laws.proofs.CallLemmas.{well_rule}
use Rattle.stride_bound.specs.declared.bounds.Bound.{Bound}
use Rattle.stride_bound.specs.declared.figures.Figures.{Figures}
use Rattle.stride_bound.specs.Sums.{naught, beside, either, still, after_first, pair, choice, then, next, sides, test_bound}
use Rattle.stride_bound.specs.Figures.{Tables, expression_bound, expressions_bound, task_figures, task_tests}
use Rattle.bound_laws.proofs.CutLemmas.{Under, under_self, under_beside, no_more_under, first_under, second_under, Calm, calm_self, calm_chain, at_most_calm, calm_pair, calm_choice, calm_then, calm_next, greater_first, greater_second}
use Rattle.bound_laws.proofs.Does.{Does, does_more, does_never, does_rule, does_give, asks, asks_last, pays, knows, takes_place, chooses, matches}
use Rattle.bound_laws.proofs.Holds.{Holds}
use Rattle.bound_laws.proofs.ValueCosts.{ValuesDo, arguments_do, values_do}

-- ---- trees
module _ (T : Tables) where
  -- the figures of a tree, a line for each form
  abbrev pub tree_figures : TreeTerm → Figures
  tree_figures (edit_tree b v) = still naught
  tree_figures (enter_tree b) = still naught
  tree_figures (share_tree b n) = still naught
  tree_figures fail_tree = still naught
  tree_figures (then_tree t k) = then (tree_figures t) (T.body k.body)
  tree_figures (next_tree t k) = next (tree_figures t) (T.body k.body)
  tree_figures (and_tree t u) = pair (tree_figures t) (tree_figures u)
  tree_figures (or_tree t u) = choice (tree_figures t) (tree_figures u)
  tree_figures (xor_tree j k) = sides (T.body j.body) (T.body k.body)

  -- no test of a tree's user steps and external choices is above a bound
  abbrev pub TestsUnder : Bound → TreeTerm → Type 0
  TestsUnder G (edit_tree b v) = Unit {0}
  TestsUnder G (enter_tree b) = Unit {0}
  TestsUnder G (share_tree b n) = Unit {0}
  TestsUnder G fail_tree = Unit {0}
  TestsUnder G (then_tree t k) = TestsUnder G t
  TestsUnder G (next_tree t k) = Under (test_bound (T.body k.body)) G × TestsUnder G t
  TestsUnder G (and_tree t u) = TestsUnder G t × TestsUnder G u
  TestsUnder G (or_tree t u) = TestsUnder G t × TestsUnder G u
  TestsUnder G (xor_tree j k) = Under (test_bound (T.body j.body)) G × Under (test_bound (T.body k.body)) G

  -- a state whose tree has at most these figures
  pub record Stays (G : Bound) (F : Figures) (s : State) : Type 0 where
    pub figures : Calm (tree_figures s.tree) F
    pub tests : TestsUnder G s.tree

  pub stays_in : (G : Bound) (E F : Figures) (s : State) → Calm E F → Stays G E s → Stays G F s
  stays_in G E F s h l = record { figures = calm_chain _ _ _ l.figures h; tests = l.tests }

-- an editor's figures, and those of a task behind an expression, but for evaluating
still_calm : (b : Bound) → Calm (still naught) (still b)
still_calm b = record { fires = omega arith; striding = under_self _; failing = under_self _ }

calm_after : (e : Bound) (t u : Figures) → Calm t u → Calm t (after_first e u)
calm_after e t u h = record { fires = h.fires; striding = h.striding; failing = h.failing }

pub task_tall : (T : Tables) (t : TaskTerm) → 1 ≤ ((task_figures T t).evaluating).height
task_tall T (edit e) = omega arith
task_tall T (enter b) = omega arith
task_tall T (share x) = omega arith
task_tall T (fail b) = omega arith
task_tall T (call_task f es) = omega arith
task_tall T (then_task t i) = omega arith
task_tall T (next_task t i) = omega arith
task_tall T (and_task t u) = omega arith
task_tall T (or_task t u) = omega arith
task_tall T (xor_task i j) = omega arith
task_tall T (let_task x e t) = omega arith
task_tall T (if_task e t u) = omega arith
task_tall T (case_task e t x y u) = omega arith
task_tall T (new_task x e t) = omega arith
task_tall T (put_task x e t) = omega arith

module _ (c : CheckedTerm) (accepted : IsAccepted c) (T : Tables) (G : Bound) (holds : Holds c T G) where
  abbrev pub TasksDo : ℕ → Type 0
  TasksDo k = (t : TaskTerm) (env : EnvTerm) (σ : List ValueTerm) → Under (task_tests T t) G → MayAsk c (evaluates t env σ)
      → Does k (derives_at (rule_of c) k (evaluates t env σ)) (Stays T G (task_figures T t)) ((task_figures T t).evaluating)

  module _ (k : ℕ) (ih : TasksDo k) (env : EnvTerm) (σ : List ValueTerm) where
    abbrev part : Parts
    part = derives_at (rule_of c) k

    values : ValuesDo c accepted T G k
    values = values_do c accepted T G holds k

    abbrev Ev : TaskTerm → Bound
    Ev t = (task_figures T t).evaluating

    -- the last thing: a task that is evaluated in another environment and store
    last : (t : TaskTerm) (env' : EnvTerm) (σ' : List ValueTerm) (F : Figures) → Under (task_tests T t) G → Calm (task_figures T t) F
        → Well c (ask (evaluates t env' σ') give) → Does k (plan_work part (ask (evaluates t env' σ') give)) (Stays T G F) (Ev t)
    last t env' σ' F g h w = asks_last c accepted k (λ s. s) (Stays T G F) (Ev t) w (ih t env' σ' g) (λ s l. stays_in T G _ _ s h l)

    call_does : (f : Text) (es : List HostTerm) → Well c (evaluate_rule c (call_task f es) env σ)
        → Does (suc k) (rule (plan_work part (evaluate_rule c (call_task f es) env σ))) (Stays T G (task_figures T (call_task f es))) (Ev (call_task f es))
    call_does f es w = does_rule (knows c accepted k (task_named c.program f) _ (Stays T G (task_figures T (call_task f es))) _ w (λ d is w'.
        pays c accepted k (Stays T G (task_figures T (call_task f es))) (beside (expressions_bound T (as_exprs es)) ((T.definition f).evaluating)) w' (λ w''.
        does_more _ (arguments_do c accepted T G k values env σ es d.params [] _ (Stays T G (task_figures T (call_task f es))) (Ev d.task) w''
        (λ vs. last d.task (record { names = param_names d.params; slots = vs; first = d.first }) σ (task_figures T (call_task f es))
        (holds.task_within f d is) (called_calm d.task (at_most_calm _ _ (holds.task f d is)))))
        (under_beside _ _ _ _ (under_self _) (no_more_under _ _ ((holds.task f d is).evaluating))))))
      where
        called_calm : (t : TaskTerm) → Calm (task_figures T t) (T.definition f) → Calm (task_figures T t) (task_figures T (call_task f es))
        called_calm t h = record { fires = h.fires; striding = h.striding; failing = h.failing }

    task_does : (t : TaskTerm) → Under (task_tests T t) G → Well c (evaluate_rule c t env σ)
        → Does (suc k) (rule (plan_work part (evaluate_rule c t env σ))) (Stays T G (task_figures T t)) (Ev t)
    task_does (edit e) g w = does_rule (knows c accepted k (slice_get c.types env.first) _ (Stays T G (task_figures T (edit e))) (expression_bound T e) w
        (λ b _ w'. asks_last c accepted k _ (Stays T G (task_figures T (edit e))) (expression_bound T e) w' (values e env σ)
        (λ v _. record { figures = still_calm _; tests = tt })))
    task_does (enter b) g w = does_rule (does_give _ (Stays T G (task_figures T (enter b))) (record { figures = still_calm _; tests = tt }))
    task_does (share x) g w = does_rule (knows c accepted k (slice_get c.types env.first) _ (Stays T G (task_figures T (share x))) naught w
        (λ b _ w'. knows c accepted k (slot_of env x) _ (Stays T G (task_figures T (share x))) naught w'
        (λ s _ w''. takes_place c accepted k s _ (Stays T G (task_figures T (share x))) naught w''
        (λ n _. does_give _ (Stays T G (task_figures T (share x))) (record { figures = still_calm _; tests = tt })))))
    task_does (fail b) g w = does_rule (does_give _ (Stays T G (task_figures T (fail b))) (record { figures = still_calm _; tests = tt }))
    task_does (call_task f es) g w = call_does f es w
    task_does (then_task t i) g w = does_rule (asks_last c accepted k _ (Stays T G (task_figures T (then_task t i))) (Ev t) w (ih t env σ g)
        (λ s l. record { figures = calm_then _ _ _ l.figures; tests = l.tests }))
    task_does (next_task t i) g w = does_rule (asks_last c accepted k _ (Stays T G (task_figures T (next_task t i))) (Ev t) w
        (ih t env σ (first_under (task_tests T t) (test_bound (T.body i)) G g))
        (λ s l. record { figures = calm_next _ _ (T.body i) l.figures; tests = (second_under (task_tests T t) (test_bound (T.body i)) G g, l.tests) }))
    task_does (and_task t u) g w = does_rule (asks c accepted k (Stays T G (task_figures T (and_task t u))) (Ev t) (Ev u) w
        (ih t env σ (first_under (task_tests T t) (task_tests T u) G g))
        (λ s l w'. asks_last c accepted k _ (Stays T G (task_figures T (and_task t u))) (Ev u) w' (ih u _ s.store (second_under (task_tests T t) (task_tests T u) G g))
        (λ s' l'. record { figures = calm_pair _ _ _ _ l.figures l'.figures; tests = (l.tests, l'.tests) })))
    task_does (or_task t u) g w = does_rule (asks c accepted k (Stays T G (task_figures T (or_task t u))) (Ev t) (Ev u) w
        (ih t env σ (first_under (task_tests T t) (task_tests T u) G g))
        (λ s l w'. asks_last c accepted k _ (Stays T G (task_figures T (or_task t u))) (Ev u) w' (ih u _ s.store (second_under (task_tests T t) (task_tests T u) G g))
        (λ s' l'. record { figures = calm_choice _ _ _ _ l.figures l'.figures; tests = (l.tests, l'.tests) })))
    task_does (xor_task i j) g w = does_rule (does_give _ (Stays T G (task_figures T (xor_task i j)))
        (record { figures = calm_self _; tests = (first_under (test_bound (T.body i)) (test_bound (T.body j)) G g, second_under (test_bound (T.body i)) (test_bound (T.body j)) G g) }))
    task_does (let_task x e t) g w = does_rule (asks c accepted k (Stays T G (task_figures T (let_task x e t))) (expression_bound T e) (Ev t) w
        (values e env σ) (λ v _ w'. last t _ σ (task_figures T (let_task x e t)) g (calm_after _ _ _ (calm_self _)) w'))
    task_does (if_task e t u) g w = does_rule (asks c accepted k (Stays T G (task_figures T (if_task e t u))) (expression_bound T e) (either (Ev t) (Ev u)) w
        (values e env σ) (λ v _ w'. chooses c accepted k v _ _ (Stays T G (task_figures T (if_task e t u))) (Ev t) (Ev u) w'
        (last t env σ (task_figures T (if_task e t u)) (first_under (task_tests T t) (task_tests T u) G g) (calm_after _ _ _ (greater_first _ _ _ (calm_self _))))
        (last u _ σ (task_figures T (if_task e t u)) (second_under (task_tests T t) (task_tests T u) G g) (calm_after _ _ _ (greater_second _ _ _ (calm_self _))))))
    task_does (case_task e t x y u) g w = does_rule (asks c accepted k (Stays T G (task_figures T (case_task e t x y u))) (expression_bound T e) (either (Ev t) (Ev u)) w
        (values e env σ) (λ v _ w'. matches c accepted k v _ _ (Stays T G (task_figures T (case_task e t x y u))) (Ev t) (Ev u) w'
        (last t env σ (task_figures T (case_task e t x y u)) (first_under (task_tests T t) (task_tests T u) G g) (calm_after _ _ _ (greater_first _ _ _ (calm_self _))))
        (λ head tail. last u _ σ (task_figures T (case_task e t x y u)) (second_under (task_tests T t) (task_tests T u) G g) (calm_after _ _ _ (greater_second _ _ _ (calm_self _))))))
    task_does (new_task x e t) g w = does_rule (asks c accepted k (Stays T G (task_figures T (new_task x e t))) (expression_bound T e) (Ev t) w
        (values e env σ) (λ v _ w'. last t _ _ (task_figures T (new_task x e t)) g (calm_after _ _ _ (calm_self _)) w'))
    task_does (put_task x e t) g w = does_rule (knows c accepted k (slot_of env x) _ (Stays T G (task_figures T (put_task x e t))) _ w
        (λ s _ w'. takes_place c accepted k s _ (Stays T G (task_figures T (put_task x e t))) (beside (expression_bound T e) (Ev t)) w'
        (λ n w''. asks c accepted k (Stays T G (task_figures T (put_task x e t))) (expression_bound T e) (Ev t) w'' (values e env σ)
        (λ v _ w3. last t env _ (task_figures T (put_task x e t)) g (calm_after _ _ _ (calm_self _)) w3))))

  pub tasks_do : (k : ℕ) → TasksDo k
  tasks_do zero t env σ g m = does_never _ _ (task_tall T t)
  tasks_do (suc k) t env σ g m = task_does k (tasks_do k) env σ t g (well_rule accepted m)
