-- What is asked of a program costs no more than its bound: at its opening, and at the state of each history.
use Rattle.std.proofs.Common.{ℕ, List, [], ◌∷◌, Option, None, Some, sym, subst, arith}
use Rattle.task_model.specs.Terms.Basic.{BasicTerm}
use Rattle.task_model.specs.Terms.Value.{ValueTerm}
use Rattle.task_model.specs.Terms.Env.{empty_env}
use Rattle.task_model.specs.Terms.Task.{call_task}
use Rattle.task_model.specs.Terms.Tree.{LaterTerm, TreeTerm, edit_tree, enter_tree, share_tree, then_tree, next_tree, fail_tree, and_tree, or_tree, xor_tree, State}
use Rattle.task_model.specs.Terms.Program.{ProgramTerm, main_name}
use Rattle.task_model.specs.Terms.Input.{InputTerm}
use Rattle.task_model.specs.Terms.Item.{ItemTerm, opened, took}
use Rattle.task_model.specs.Running.Checked.{CheckedTerm}
use Rattle.task_model.specs.Running.Plan.{evaluates, settles, normal, plan_work, derives_at}
use Rattle.task_model.specs.Running.Rules.{value_of, side, trial, rule_of}
use Rattle.task_model.specs.Running.Handling.{handles, interacts}
use Rattle.task_model.specs.Running.Sign.{Test}
use Rattle.task_model.specs.Running.State.{IsOpening, LeadTo, IsReached}
use Rattle.task_model.specs.Checking.Accepted.{IsAccepted, typed_program}
use Rattle.task_model.specs.Checking.Fits.{StoreHas, LaterHas, TreeHas, StateHas}
use Rattle.typing_laws.specs.Assumed.{Assumed, Guaranteed, main_type}
use Rattle.typing_laws.specs.Well.{MayAsk, Well}
use Rattle.typing_laws.proofs.GoodLemmas.{good_any}
use Rattle.typing_laws.proofs.TreeLemmas.{IfHas, value_has_type, good_trial, good_side}
use Rattle.typing_laws.proofs.HandlingLemmas.{handled_good, interacts_good, interacts_typed}
use Rattle.typing_laws.proofs.HistoryLemmas.{main_fits, opening_kept}
use Rattle.typing_laws.proofs.ProgramLemmas.{facts_of}
use Rattle.stride_bound.specs.declared.bounds.Bound.{Bound}
use Rattle.stride_bound.specs.declared.figures.Figures.{Figures}
use Rattle.stride_bound.specs.Sums.{beside, over_parts, strides}
use Rattle.stride_bound.specs.Sums as sums
use Rattle.stride_bound.specs.Figures.{Tables, tables_of, texts_of, task_figures, greatest_test, main_call, whole_bound, program_bound, IsAmple}
use Rattle.stride_bound.specs.Bounds.{HasBound}
use Rattle.bound_laws.specs.Costs.{CostsNoMore, StepCostsNoMore, TestsCostNoMore}
use Rattle.bound_laws.specs.Promises.{StateCostsNoMore, NothingCostsMore}
use Rattle.bound_laws.proofs.CutLemmas.{Under, under_self, under_chain, under_beside, under_over, under_strides, naught_under, Calm, calm_self}
use Rattle.bound_laws.proofs.Does.{Does, Anything, does_more, does_so, results, costs, judgement_costs}
use Rattle.bound_laws.proofs.Holds.{Holds}
use Rattle.bound_laws.proofs.TaskCosts.{tree_figures, TestsUnder, Stays, stays_in, tasks_do}
use Rattle.bound_laws.proofs.TreeCosts.{side_does, fails_do, normals_do, settles_do}
use Rattle.bound_laws.proofs.TableLemmas.{table_holds}
use Rattle.bound_laws.proofs.HandlingCosts.{StaysIf, handled_does, interacts_does}

module _ (c : CheckedTerm) (accepted : IsAccepted c) (T : Tables) (G : Bound) (holds : Holds c T G) where
  abbrev M : Figures
  M = T.definition main_name

  abbrev whole : Bound
  whole = whole_bound M G

  -- ---- the parts of the bound
  call_under : Under (main_call M).evaluating whole
  call_under = record { units = omega arith; height = omega arith }

  opening_under : Under (sums.normal (main_call M)) whole
  opening_under = record { units = omega arith; height = omega arith }

  tests_under : Under G whole
  tests_under = record { units = omega arith; height = omega arith }

  settling_under : Under (over_parts (strides M)) whole
  settling_under = record { units = omega arith; height = omega arith }

  input_under : Under (beside G (over_parts (strides M))) whole
  input_under = record { units = omega arith; height = omega arith }

  -- ---- the opening
  call_calm : Calm (task_figures T (call_task main_name [])) M
  call_calm = record { fires = (calm_self M).fires; striding = (calm_self M).striding; failing = (calm_self M).failing }

  call_may : MayAsk c (evaluates (call_task main_name []) empty_env [])
  call_may = record { typing = record { places = []; type = main_type c.program }; assumed = main_fits c accepted }

  normal_may : MayAsk c (normal (call_task main_name []) empty_env [])
  normal_may = record { typing = record { places = []; type = main_type c.program }; assumed = main_fits c accepted }

  call_does : (k : ℕ) → Does k (derives_at (rule_of c) k (evaluates (call_task main_name []) empty_env []))
      (Stays T G (task_figures T (call_task main_name []))) whole
  call_does k = does_more whole (tasks_do c accepted T G holds k (call_task main_name []) empty_env [] (naught_under G) call_may) call_under

  opening_does : (k : ℕ) → Does k (derives_at (rule_of c) k (normal (call_task main_name []) empty_env [])) (Stays T G M) whole
  opening_does k =
      does_more whole (does_so (Stays T G M) (normals_do c accepted T G holds k (call_task main_name []) empty_env [] (naught_under G) normal_may)
      (λ s l. stays_in T G _ _ s call_calm l)) opening_under

  -- ---- a state that fits and stays within the figures of `main`
  record Held (s : State) : Type 0 where
    stays : Stays T G M s
    places : List BasicTerm
    type : BasicTerm
    fits : StateHas c places s type

  handles_well : (s : State) (i : InputTerm) → Held s → Well c (handles c s i)
  handles_well s i h = record {
    good = good_any (Assumed c) (Guaranteed c) (handles c s i) _
        (handled_good c (facts_of c accepted) s.tree s.store i.path i.act h.places h.type h.fits.store h.fits.tree);
  }

  interacts_well : (s : State) (i : InputTerm) → Held s → Well c (interacts c s i)
  interacts_well s i h = record {
    good = good_any (Assumed c) (Guaranteed c) (interacts c s i) _ (interacts_good c (facts_of c accepted) h.places h.type s i h.fits);
  }

  input_does : (s : State) (i : InputTerm) → Held s → (k : ℕ)
      → Does k (plan_work (derives_at (rule_of c) k) (interacts c s i)) (StaysIf c accepted T G holds (tree_figures T s.tree)) (beside G (over_parts (strides (tree_figures T s.tree))))
  input_does s i h k = interacts_does c accepted T G holds k s i h.stays.tests (interacts_well s i h)

  -- ---- tests
  module _ (Σ : List BasicTerm) (σ : List ValueTerm) (store : StoreHas σ Σ) where
    step_costs : (o : Option ValueTerm) (k : LaterTerm) (a b : BasicTerm) → Under (sums.test_bound (T.body k.body)) G → IfHas o a
        → LaterHas c Σ k (Some a) b → StepCostsNoMore c whole o k σ
    step_costs None k a b g h l = tt
    step_costs (Some v) k a b g h l = costs c (trial c k v σ) Anything whole (λ level. does_more whole
        (side_does c accepted T G holds level (fails_do c accepted T G holds level) (normals_do c accepted T G holds level) k _ σ
        (record { good = good_trial c (facts_of c accepted) Σ k v σ a b _ (λ x. Unit {0}) l h store (λ s no q. tt) }))
        (under_chain _ _ _ g tests_under))

    side_costs : (k : LaterTerm) (b : BasicTerm) → Under (sums.test_bound (T.body k.body)) G → LaterHas c Σ k None b
        → CostsNoMore (Test c (side c k σ)) whole
    side_costs k b g l = costs c (side c k σ) Anything whole (λ level. does_more whole
        (side_does c accepted T G holds level (fails_do c accepted T G holds level) (normals_do c accepted T G holds level) k k.slots σ
        (record { good = good_side c (facts_of c accepted) Σ k σ b _ (λ x. Unit {0}) l store (λ s no q. tt) }))
        (under_chain _ _ _ g tests_under))

    tests_cost : (t : TreeTerm) (b : BasicTerm) → TestsUnder T G t → TreeHas c Σ t b → TestsCostNoMore c whole t σ
    tests_cost (edit_tree a v) b g h = tt
    tests_cost (enter_tree a) b g h = tt
    tests_cost (share_tree a n) b g h = tt
    tests_cost fail_tree b g h = tt
    tests_cost (then_tree t k) b g h = tests_cost t h.0 g h.1
    tests_cost (next_tree t k) b g h =
        (step_costs (value_of t σ) k h.0 b g.0 (value_has_type c Σ t σ h.0 store h.1) h.2, tests_cost t h.0 g.1 h.1)
    tests_cost (and_tree t u) b g h = (tests_cost t h.0 g.0 h.3, tests_cost u h.1 g.1 h.4)
    tests_cost (or_tree t u) b g h = (tests_cost t b g.0 h.0, tests_cost u b g.1 h.1)
    tests_cost (xor_tree j k) b g h = (side_costs j b g.0 h.0, side_costs k b g.1 h.1)

  -- ---- histories
  module _ (budget : ℕ) where
    opening_held : (s : State) → IsOpening c budget s → Held s
    opening_held s o =
        let kept = opening_kept c accepted budget s o in
        record { stays = (opening_does o.2.0).result s o.0 o.1 o.2.1; places = kept.0; type = main_type c.program; fits = kept.2 }

    led_held : (items : List ItemTerm) (s t : State) → Held s → LeadTo c budget s items t → Held t
    led_held [] s t h e = subst Held (sym e) h
    led_held (opened p b ∷ items) s t h e = absurd e
    led_held (took e ∷ items) s t h d =
        let n = d.1.0 in
        let g = d.1.1 in
        let derived = d.1.2 in
        let kept = interacts_typed c accepted h.places h.type s e.input h.fits d.0 n g derived in
        led_held items d.0 t (record {
          stays = stays_in T G _ _ d.0 h.stays.figures
              (results c (interacts c s e.input) (StaysIf c accepted T G holds (tree_figures T s.tree)) _ (input_does s e.input h) (Some d.0) n g derived);
          places = kept.0;
          type = h.type;
          fits = kept.2;
        }) d.2

    reached_held : (items : List ItemTerm) (t : State) → IsReached c budget items t → Held t
    reached_held items t r = led_held items r.0 t (opening_held r.0 r.1) r.2

module _ (p : ProgramTerm) (table : ℕ → Figures) (accepted : IsAccepted (typed_program p)) (ample : IsAmple p table) where
  abbrev c : CheckedTerm
  c = typed_program p

  abbrev T : Tables
  T = tables_of p table

  abbrev G : Bound
  G = greatest_test T (texts_of p)

  holds : Holds c T G
  holds = table_holds p table ample

  state_costs : (s : State) → Held c accepted T G holds s → StateCostsNoMore p (program_bound p table) s
  state_costs s h = record {
    handling = λ i. costs c (handles c s i) (StaysIf c accepted T G holds (tree_figures T s.tree)) (program_bound p table) (λ k. does_more _
        (handled_does c accepted T G holds k s.tree s.store i.path i.act h.stays.tests (handles_well c accepted T G holds s i h))
        (tests_under c accepted T G holds));
    inputs = λ i. costs c (interacts c s i) (StaysIf c accepted T G holds (tree_figures T s.tree)) (program_bound p table) (λ k. does_more _
        (input_does c accepted T G holds s i h k)
        (under_chain _ _ _ (under_beside _ _ _ _ (under_self G) (under_over _ _ (under_strides _ _ h.stays.figures))) (input_under c accepted T G holds)));
    settling = judgement_costs c (settles s) (Stays T G (tree_figures T s.tree)) (program_bound p table) (λ k. does_more _
        (settles_do c accepted T G holds k s h.stays.tests
        (record { typing = record { places = h.places; type = h.type }; assumed = h.fits }))
        (under_chain _ _ _ (under_over _ _ (under_strides _ _ h.stays.figures)) (settling_under c accepted T G holds)));
    offers = tests_cost c accepted T G holds h.places s.store h.fits.store s.tree h.type h.stays.tests h.fits.tree;
  }

  program_costs : NothingCostsMore p (program_bound p table)
  program_costs = record {
    evaluating = judgement_costs c (evaluates (call_task main_name []) empty_env []) _ _ (call_does c accepted T G holds);
    opening = judgement_costs c (normal (call_task main_name []) empty_env []) _ _ (opening_does c accepted T G holds);
    states = λ budget items s is. state_costs s (reached_held c accepted T G holds budget items s is.1);
  }

pub nothing_costs : (p : ProgramTerm) (b : Bound) → IsAccepted (typed_program p) → HasBound p b → NothingCostsMore p b
nothing_costs p b accepted h = subst (NothingCostsMore p) (sym h.is) (program_costs p h.table accepted h.least.holds)
