-- What is shown of trees whose places have one number in two stores: values, failing, tests, offers and widgets go one way.
use Rattle.std.proofs.Common.{◌≡◌, ℕ, Bool, true, false, List, [], ◌∷◌, ◌++◌, Option, Some, None, sym, ap, ◌∙◌, subst}
use Rattle.std.specs.Prelude.{slice_get, unwrap_or}
use Rattle.task_model.specs.Terms.Value.{ValueTerm, unit_value}
use Rattle.task_model.specs.Terms.Env.{SlotTerm, plain_slot, place_slot}
use Rattle.task_model.specs.Terms.Tree.{LaterTerm, TreeTerm, edit_tree, enter_tree, share_tree, then_tree, next_tree, fail_tree, and_tree, or_tree, xor_tree, at}
use Rattle.task_model.specs.Running.Checked.{CheckedTerm}
use Rattle.task_model.specs.Running.Work.{Work}
use Rattle.task_model.specs.Running.Plan.{fails, Derives}
use Rattle.task_model.specs.Running.Rules.{value_of, rule_of}
use Rattle.task_model.specs.Running.Judgements.{Fails}
use Rattle.task_model.specs.Running.Sign.{IsSign, Test, IsStepSign}
use Rattle.task_model.specs.Running.Offer.{OfferTerm, AreOffers}
use Rattle.task_model.specs.Showing.Widget.{WidgetTerm, share_shape, here, AreWidgets}
use Rattle.task_model.specs.declared.widget.Sign.{Sign}
use Rattle.task_model.specs.declared.widget.Sign.TheVariants as signs
use Rattle.task_laws.proofs.LikeLemmas.{work_alike}
use Rattle.task_laws.proofs.RenumberLemmas.{SlotsIn, TreeIn, slots_in_push, slots_to, tree_to, slots_stay, tree_stays}
use Rattle.task_laws.proofs.TwinLemmas.{Frame, Twins, turned, twins_turned, value_alike}
use Rattle.task_laws.proofs.AlikeLemmas.{Pre, Post, steady, SameBool}
use Rattle.task_laws.proofs.FrameLemmas.{like_test, all_alike}
use Rattle.task_laws.proofs.FailingLemmas.{test_of}

-- ---- what holds of tests over both stores
module _ (c : CheckedTerm) (f : Frame) where
  -- a test over the one store is one over the other
  test_alike : (i : ℕ) (ss us : List SlotTerm) (σ τ : List ValueTerm) → SlotsIn f.in_left ss → us ≡ slots_to f.to_right ss → Twins f σ τ
      → (b : Bool) (n h : ℕ) → Test c (test_of c i ss σ) b n h → Test c (test_of c i us τ) b n h
  test_alike i ss us σ τ q e t b n h d =
      let w = work_alike f.to_right (Pre f) (Post f) (steady f) (Derives (rule_of c))
      (λ k vs τ' a r m g e. let z = all_alike f c e.0 k vs τ' a r m g e.1 in (z.0, (e.0, z.1), z.2))
      (SameBool f) (test_of c i ss σ) (test_of c i us τ) (like_test f c i ss us σ τ q e t) b n h d in
      subst (λ z. Test c (test_of c i us τ) z n h) w.2.1 w.1

  fails_alike : (t : TreeTerm) (σ τ : List ValueTerm) → TreeIn f.in_left t → Twins f σ τ → (b : Bool) (n h : ℕ)
      → Derives (rule_of c) (fails (at t σ)) b n h → Derives (rule_of c) (fails (at (tree_to f.to_right t) τ)) b n h
  fails_alike t σ τ i q b n h d =
      let z = all_alike f c d.0 (fails (at t σ)) [] τ (record { tree = i; stores = q }) b n h d.1 in
      (d.0, z.1)

sign_same : (budget : ℕ) (w w' : Work Bool) (s : Sign) → ((b : Bool) (n h : ℕ) → w b n h → w' b n h)
    → ((b : Bool) (n h : ℕ) → w' b n h → w b n h) → IsSign budget w s → IsSign budget w' s
sign_same budget w w' signs.No p q h = (h.0, h.1, p true h.0 h.1 h.2, h.3)
sign_same budget w w' signs.Yes p q h = (h.0, h.1, p false h.0 h.1 h.2, h.3)
sign_same budget w w' signs.Over p q h = λ b n g d i. h b n g (q b n g d) i

-- ---- places that have one number in both stores
-- these places are inside, and have the same numbers in the other store
pub record Stay (f : Frame) (stay : ℕ → Bool) : Type 0 where
  pub inside : (n : ℕ) → stay n ≡ true → f.in_left n ≡ true
  pub same : (n : ℕ) → stay n ≡ true → f.to_right n ≡ n

pub stay_turned : (f : Frame) (stay : ℕ → Bool) → Stay f stay → Stay (turned f) stay
stay_turned f stay h = record {
  inside = λ n e. ap f.in_right (sym (h.same n e)) ∙ (f.there n (h.inside n e)).0;
  same = λ n e. ap f.to_left (sym (h.same n e)) ∙ (f.there n (h.inside n e)).1;
}

slots_more : (p q : ℕ → Bool) → ((n : ℕ) → p n ≡ true → q n ≡ true) → (ss : List SlotTerm) → SlotsIn p ss → SlotsIn q ss
slots_more p q e [] h = tt
slots_more p q e (plain_slot v ∷ ss) h = (tt, slots_more p q e ss h.1)
slots_more p q e (place_slot n ∷ ss) h = (e n h.0, slots_more p q e ss h.1)

pub tree_more : (p q : ℕ → Bool) → ((n : ℕ) → p n ≡ true → q n ≡ true) → (t : TreeTerm) → TreeIn p t → TreeIn q t
tree_more p q e (edit_tree b v) h = tt
tree_more p q e (enter_tree b) h = tt
tree_more p q e (share_tree b n) h = e n h
tree_more p q e (then_tree t k) h = (tree_more p q e t h.0, slots_more p q e k.slots h.1)
tree_more p q e (next_tree t k) h = (tree_more p q e t h.0, slots_more p q e k.slots h.1)
tree_more p q e fail_tree h = tt
tree_more p q e (and_tree t u) h = (tree_more p q e t h.0, tree_more p q e u h.1)
tree_more p q e (or_tree t u) h = (tree_more p q e t h.0, tree_more p q e u h.1)
tree_more p q e (xor_tree j k) h = (slots_more p q e j.slots h.0, slots_more p q e k.slots h.1)

-- ---- values, failing, tests, offers and widgets, one way
pub value_goes : (stay : ℕ → Bool) (f : Frame) (σ τ : List ValueTerm) → Twins f σ τ → Stay f stay → (t : TreeTerm) → TreeIn stay t
    → value_of t σ ≡ value_of t τ
value_goes stay f σ τ there h t i =
    value_alike f t σ τ (tree_more stay f.in_left h.inside t i) there ∙ ap (λ z. value_of z τ) (tree_stays stay f.to_right h.same t i)

module _ (c : CheckedTerm) (stay : ℕ → Bool) where
  pub test_goes : (f : Frame) (σ τ : List ValueTerm) → Twins f σ τ → Stay f stay → (i : ℕ) (ss : List SlotTerm) → SlotsIn stay ss
      → (b : Bool) (n h : ℕ) → Test c (test_of c i ss σ) b n h → Test c (test_of c i ss τ) b n h
  test_goes f σ τ there h i ss q =
      test_alike c f i ss ss σ τ (slots_more stay f.in_left h.inside ss q) (sym (slots_stay stay f.to_right h.same ss q)) there

  pub fails_goes : (f : Frame) (σ τ : List ValueTerm) → Twins f σ τ → Stay f stay → (t : TreeTerm) → TreeIn stay t → (b : Bool) (n h : ℕ)
      → Fails c (at t σ) b n h → Fails c (at t τ) b n h
  fails_goes f σ τ there s t i b n h d =
      subst (λ z. Fails c (at z τ) b n h) (tree_stays stay f.to_right s.same t i)
      (fails_alike c f t σ τ (tree_more stay f.in_left s.inside t i) there b n h d)

module _ (c : CheckedTerm) (budget : ℕ) (stay : ℕ → Bool) (f : Frame) (σ τ : List ValueTerm) (there : Twins f σ τ) (h : Stay f stay) where
  test_sign : (i : ℕ) (ss : List SlotTerm) (s : Sign) → SlotsIn stay ss → IsSign budget (Test c (test_of c i ss σ)) s
      → IsSign budget (Test c (test_of c i ss τ)) s
  test_sign i ss s q d =
      sign_same budget (Test c (test_of c i ss σ)) (Test c (test_of c i ss τ)) s (test_goes c stay f σ τ there h i ss q)
      (test_goes c stay (turned f) τ σ (twins_turned f σ τ there) (stay_turned f stay h) i ss q) d

  step_sign : (o : Option ValueTerm) (k : LaterTerm) (s : Sign) → SlotsIn stay k.slots → IsStepSign c budget o k σ s
      → IsStepSign c budget o k τ s
  step_sign None k s q d = d
  step_sign (Some v) k s q d = test_sign k.body (k.slots ++ plain_slot v ∷ []) s (slots_in_push stay k.slots (plain_slot v) q tt) d

  -- a user step's sign, at the value of its left part
  next_sign : (t : TreeTerm) (k : LaterTerm) (s : Sign) → TreeIn stay t → SlotsIn stay k.slots
      → IsStepSign c budget (value_of t σ) k σ s → IsStepSign c budget (value_of t τ) k τ s
  next_sign t k s i q d = subst (λ z. IsStepSign c budget z k τ s) (value_goes stay f σ τ there h t i) (step_sign (value_of t σ) k s q d)

  pub offers_alike : (t : TreeTerm) (os : List OfferTerm) → TreeIn stay t → AreOffers c budget t σ os → AreOffers c budget t τ os
  offers_alike (edit_tree b v) os i d = d
  offers_alike (enter_tree b) os i d = d
  offers_alike (share_tree b n) os i d = d
  offers_alike (then_tree t k) os i d = offers_alike t os i.0 d
  offers_alike (next_tree t k) os i d = (d.0, d.1, next_sign t k d.0 i.0 i.1 d.2, offers_alike t d.1 i.0 d.3, d.4)
  offers_alike fail_tree os i d = d
  offers_alike (and_tree t u) os i d = (d.0, d.1, offers_alike t d.0 i.0 d.2, offers_alike u d.1 i.1 d.3, d.4)
  offers_alike (or_tree t u) os i d = (d.0, d.1, offers_alike t d.0 i.0 d.2, offers_alike u d.1 i.1 d.3, d.4)
  offers_alike (xor_tree j k) os i d = (d.0, d.1, test_sign j.body j.slots d.0 i.0 d.2, test_sign k.body k.slots d.1 i.1 d.3, d.4)

  pub widgets_alike : (t : TreeTerm) (ws : List WidgetTerm) → TreeIn stay t → AreWidgets c budget t σ ws → AreWidgets c budget t τ ws
  widgets_alike (edit_tree b v) ws i d = d
  widgets_alike (enter_tree b) ws i d = d
  widgets_alike (share_tree b n) ws i d = d ∙ ap (λ z. here (share_shape b (unwrap_or z unit_value)) ∷ [])
      (there.within n (h.inside n i) ∙ ap (slice_get τ) (h.same n i))
  widgets_alike (then_tree t k) ws i d = (d.0, widgets_alike t d.0 i.0 d.1, d.2)
  widgets_alike (next_tree t k) ws i d = (d.0, d.1, next_sign t k d.0 i.0 i.1 d.2, widgets_alike t d.1 i.0 d.3, d.4)
  widgets_alike fail_tree ws i d = d
  widgets_alike (and_tree t u) ws i d = (d.0, d.1, widgets_alike t d.0 i.0 d.2, widgets_alike u d.1 i.1 d.3, d.4)
  widgets_alike (or_tree t u) ws i d = (d.0, d.1, widgets_alike t d.0 i.0 d.2, widgets_alike u d.1 i.1 d.3, d.4)
  widgets_alike (xor_tree j k) ws i d = (d.0, d.1, test_sign j.body j.slots d.0 i.0 d.2, test_sign k.body k.slots d.1 i.1 d.3, d.4)
