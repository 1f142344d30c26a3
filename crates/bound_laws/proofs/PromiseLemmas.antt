-- Where nothing costs more than the budget, no outcome and no offer is over it.
use Rattle.std.proofs.Common.{◌≡◌, ◌≢◌, ℕ, ◌≤◌, Bool, List, [], ◌∷◌, map, Option, None, Some, refl, sym, ◌∙◌, subst, arith}
use Rattle.std.proofs.lemmas.List.Elements.{All-nil, All-cons, All-append, All-map}
use Rattle.task_model.specs.Terms.Value.{ValueTerm}
use Rattle.task_model.specs.Terms.Tree.{LaterTerm, TreeTerm, edit_tree, enter_tree, share_tree, then_tree, next_tree, fail_tree, and_tree, or_tree, xor_tree, State}
use Rattle.task_model.specs.Terms.Program.{ProgramTerm}
use Rattle.task_model.specs.Terms.Input.{InputTerm}
use Rattle.task_model.specs.Running.Checked.{CheckedTerm}
use Rattle.task_model.specs.Running.Work.{Work}
use Rattle.task_model.specs.Running.Plan.{Plan}
use Rattle.task_model.specs.Running.Rules.{value_of, side, trial}
use Rattle.task_model.specs.Running.Judgements.{IsWithinBudget}
use Rattle.task_model.specs.Running.Handling.{Interacts}
use Rattle.task_model.specs.Running.Outcome.{IsOutcome, over_budget}
use Rattle.task_model.specs.Running.Sign.{IsSign, Test, IsStepSign}
use Rattle.task_model.specs.Running.Offer.{OfferKindTerm, OfferTerm, offered, turned, both_offers, AreOffers}
use Rattle.task_model.specs.Running.State.{IsBudget}
use Rattle.task_model.specs.Checking.Accepted.{typed_program}
use Rattle.task_model.specs.Showing.Widget.{ShapeTerm, step_shape, pick_shape, WidgetTerm, here, shifted, both_widgets, AreWidgets}
use Rattle.task_model.specs.declared.input.Turn.TheVariants as turns
use Rattle.task_model.specs.declared.widget.Sign.{Sign}
use Rattle.task_model.specs.declared.widget.Sign.TheVariants as signs
use Rattle.task_model.specs.declared.offer.Answer.TheVariants as answers
use Rattle.task_laws.proofs.OutcomeLemmas.{none_lacks}
use Rattle.stride_bound.specs.declared.bounds.Bound.{Bound}
use Rattle.bound_laws.specs.Costs.{CostsNoMore, StepCostsNoMore, TestsCostNoMore}
use Rattle.bound_laws.specs.Promises.{NothingCostsMore, NoneIsOver, IsKnown, AllAreKnown, IsAlwaysWithin}

abbrev IsNotOver : OfferTerm → Type 0
IsNotOver o = o.answer ≢ answers.Over

both_not_over : (os us : List OfferTerm) → NoneIsOver os → NoneIsOver us → NoneIsOver (both_offers os us)
both_not_over os us h k =
    All-append IsNotOver (map (turned turns.First) os) (map (turned turns.Second) us)
    (All-map IsNotOver (turned turns.First) os h) (All-map IsNotOver (turned turns.Second) us k)

abbrev IsKnownWidget : WidgetTerm → Type 0
IsKnownWidget w = IsKnown w.shape

both_known : (xs ys : List WidgetTerm) → AllAreKnown xs → AllAreKnown ys → AllAreKnown (both_widgets xs ys)
both_known xs ys h k =
    All-append IsKnownWidget (map (shifted turns.First) xs) (map (shifted turns.Second) ys)
    (All-map IsKnownWidget (shifted turns.First) xs h) (All-map IsKnownWidget (shifted turns.Second) ys k)

known_first : (shape : ShapeTerm) (ws us : List WidgetTerm) → IsKnown shape → AllAreKnown us → ws ≡ here shape ∷ us → AllAreKnown ws
known_first shape ws us h k e = subst AllAreKnown (sym e) (All-cons IsKnownWidget (here shape) us h k)

-- what a sign offers, where it isn't Over
offered_not_over : (k : OfferKindTerm) (s : Sign) → s ≢ signs.Over → NoneIsOver (offered k s)
offered_not_over k signs.No h = All-nil IsNotOver
offered_not_over k signs.Yes h = All-cons IsNotOver _ [] (λ e. absurd (cc)) (All-nil IsNotOver)
offered_not_over k signs.Over h = absurd (h refl)

module _ (b : Bound) (budget : ℕ) (is : IsBudget budget) (units : b.units ≤ budget) (height : b.height ≤ 1000) where
  within : {A : Type 0} {w : Work A} → CostsNoMore w b → (v : A) (n h : ℕ) → w v n h → IsWithinBudget budget n h
  within r v n h d =
      let most = is.1 in
      let u = r.units v n h d (omega (arith, units, most)) in
      let g = r.height v n h d (omega (arith, height)) in
      record { units = omega (arith, u, units); height = omega (arith, g, height) }

  ended : {A : Type 0} {w : Work A} → CostsNoMore w b → (v : A) × (n : ℕ) × (h : ℕ) × w v n h
  ended r = let most = is.1 in r.ends (omega (arith, units, most)) (omega (arith, height))

  module _ (c : CheckedTerm) where
    sign_not_over : (test : Plan Bool) (s : Sign) → CostsNoMore (Test c test) b → IsSign budget (Test c test) s → s ≢ signs.Over
    sign_not_over test signs.No r h e = absurd (cc)
    sign_not_over test signs.Yes r h e = absurd (cc)
    sign_not_over test signs.Over r h e = let d = ended r in h d.0 d.1 d.2 d.3 (within r d.0 d.1 d.2 d.3)

    step_not_over : (o : Option ValueTerm) (k : LaterTerm) (σ : List ValueTerm) (s : Sign) → StepCostsNoMore c b o k σ → IsStepSign c budget o k σ s
        → s ≢ signs.Over
    step_not_over None k σ s r h e = let off = sym h ∙ e in absurd (cc)
    step_not_over (Some v) k σ s r h e = sign_not_over (trial c k v σ) s r h e

    offers_not_over : (t : TreeTerm) (σ : List ValueTerm) (os : List OfferTerm) → TestsCostNoMore c b t σ → AreOffers c budget t σ os → NoneIsOver os
    offers_not_over (edit_tree a v) σ os r h = subst NoneIsOver (sym h) (offered_not_over _ signs.Yes (λ e. absurd (cc)))
    offers_not_over (enter_tree a) σ os r h = subst NoneIsOver (sym h) (offered_not_over _ signs.Yes (λ e. absurd (cc)))
    offers_not_over (share_tree a n) σ os r h = subst NoneIsOver (sym h) (offered_not_over _ signs.Yes (λ e. absurd (cc)))
    offers_not_over (then_tree t k) σ os r h = offers_not_over t σ os r h
    offers_not_over (next_tree t k) σ os r h =
        subst NoneIsOver (sym h.4) (All-append IsNotOver (offered _ h.0) h.1 (offered_not_over _ h.0 (step_not_over (value_of t σ) k σ h.0 r.0 h.2))
        (offers_not_over t σ h.1 r.1 h.3))
    offers_not_over fail_tree σ os r h = subst NoneIsOver (sym h) (All-nil IsNotOver)
    offers_not_over (and_tree t u) σ os r h =
        subst NoneIsOver (sym h.4) (both_not_over h.0 h.1 (offers_not_over t σ h.0 r.0 h.2) (offers_not_over u σ h.1 r.1 h.3))
    offers_not_over (or_tree t u) σ os r h =
        subst NoneIsOver (sym h.4) (both_not_over h.0 h.1 (offers_not_over t σ h.0 r.0 h.2) (offers_not_over u σ h.1 r.1 h.3))
    offers_not_over (xor_tree j k) σ os r h =
        subst NoneIsOver (sym h.4) (All-append IsNotOver (offered _ h.0) (offered _ h.1)
        (offered_not_over _ h.0 (sign_not_over (side c j σ) h.0 r.0 h.2)) (offered_not_over _ h.1 (sign_not_over (side c k σ) h.1 r.1 h.3)))

    widgets_known : (t : TreeTerm) (σ : List ValueTerm) (ws : List WidgetTerm) → TestsCostNoMore c b t σ → AreWidgets c budget t σ ws → AllAreKnown ws
    widgets_known (edit_tree a v) σ ws r h = known_first _ ws [] tt (All-nil IsKnownWidget) h
    widgets_known (enter_tree a) σ ws r h = known_first _ ws [] tt (All-nil IsKnownWidget) h
    widgets_known (share_tree a n) σ ws r h = known_first _ ws [] tt (All-nil IsKnownWidget) h
    widgets_known (then_tree t k) σ ws r h = known_first _ ws h.0 tt (widgets_known t σ h.0 r h.1) h.2
    widgets_known (next_tree t k) σ ws r h =
        known_first (step_shape h.0) ws h.1 (step_not_over (value_of t σ) k σ h.0 r.0 h.2) (widgets_known t σ h.1 r.1 h.3) h.4
    widgets_known fail_tree σ ws r h = known_first _ ws [] tt (All-nil IsKnownWidget) h
    widgets_known (and_tree t u) σ ws r h =
        known_first _ ws _ tt (both_known h.0 h.1 (widgets_known t σ h.0 r.0 h.2) (widgets_known u σ h.1 r.1 h.3)) h.4
    widgets_known (or_tree t u) σ ws r h =
        known_first _ ws _ tt (both_known h.0 h.1 (widgets_known t σ h.0 r.0 h.2) (widgets_known u σ h.1 r.1 h.3)) h.4
    widgets_known (xor_tree j k) σ ws r h =
        known_first (pick_shape h.0 h.1) ws [] (sign_not_over (side c j σ) h.0 r.0 h.2, sign_not_over (side c k σ) h.1 r.1 h.3)
        (All-nil IsKnownWidget) h.4

    outcome_not_over : (s : State) (i : InputTerm) → CostsNoMore (Interacts c s i) b → IsOutcome c budget s i over_budget → ⊥
    outcome_not_over s i r o = let d = ended r in by_result d.0 d.1 d.2 d.3 (within r d.0 d.1 d.2 d.3)
      where
        by_result : (t : Option State) (n h : ℕ) → Interacts c s i t n h → IsWithinBudget budget n h → ⊥
        by_result None n h d l = o.1 (none_lacks c budget s i n h d l)
        by_result (Some t) n h d l = o.0 t (n, h, d, l)

  pub always_within : (p : ProgramTerm) → NothingCostsMore p b → IsAlwaysWithin p budget
  always_within p r = record {
    opening = let d = ended r.opening in (d.0, (d.1, d.2, d.3, within r.opening d.0 d.1 d.2 d.3));
    outcomes = λ items s h i. outcome_not_over (typed_program p) s i ((r.states budget items s h).inputs i);
    offers = λ items s h os. offers_not_over (typed_program p) s.tree s.store os (r.states budget items s h).offers;
    widgets = λ items s h ws. widgets_known (typed_program p) s.tree s.store ws (r.states budget items s h).offers;
  }
