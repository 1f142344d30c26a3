-- Two stores that agree on a tree's foot, or that have it alike: its value, failing, tests, offers and widgets agree.
use Rattle.std.proofs.Common.{◌≡◌, ◌↔◌, ◌<◌, ℕ, Bool, true, List, [], ◌∷◌, ◌++◌, length, refl, sym, ap, ◌∙◌, subst, arith}
use Rattle.std.specs.Prelude.{nat_le, slice_get, slice_index_or}
use Rattle.std.specs.List.{All, Contains}
use Rattle.std.proofs.lemmas.Bool.{leb-true, leb-false}
use Rattle.std.proofs.lemmas.List.Elements.{All-contains, All-contains_itself}
use Rattle.std.proofs.lemmas.Option.{slice_get_past}
use Rattle.task_model.specs.Terms.Value.{ValueTerm}
use Rattle.task_model.specs.Terms.Env.{SlotTerm, plain_slot, place_slot}
use Rattle.task_model.specs.Terms.Tree.{LaterTerm, TreeTerm, State, at}
use Rattle.task_model.specs.Running.Checked.{CheckedTerm}
use Rattle.task_model.specs.Running.Plan.{strides, settles}
use Rattle.task_model.specs.Running.Rules.{value_of, trial, side}
use Rattle.task_model.specs.Running.Foot.{with_places, foot, among, AgreeOn}
use Rattle.task_model.specs.Running.Judgements.{Fails, Strides, Settles}
use Rattle.task_model.specs.Running.Sign.{Test}
use Rattle.task_model.specs.Running.Offer.{OfferTerm, AreOffers}
use Rattle.task_model.specs.Showing.Widget.{WidgetTerm, AreWidgets}
use Rattle.task_laws.specs.TreePlaces.{slot_places, places_in}
use Rattle.task_laws.specs.StoresGo.{StoresGo}
use Rattle.task_laws.specs.HaveAlike.{HaveAlike}
use Rattle.task_laws.proofs.StoreLemmas.{past_end}
use Rattle.task_laws.proofs.RenumberLemmas.{TreeIn, tree_to, tree_stays}
use Rattle.task_laws.proofs.TwinLemmas.{by_cases, Frame, Twins, turned, twins_turned}
use Rattle.task_laws.proofs.AlikeLemmas.{Alike}
use Rattle.task_laws.proofs.FrameLemmas.{all_alike}
use Rattle.task_laws.proofs.StayLemmas.{Stay, stay_turned, tree_more, test_goes, value_goes, fails_goes, offers_alike, widgets_alike}
use Rattle.task_laws.proofs.ReachLemmas.{slots_within, tree_within, tree_reach, reached, reached-among, reached-new, reached-not, renumbered, renumbered-old, renumbered-same, frame, start, stay}
use Rattle.task_laws.proofs.FailingLemmas.{test_of}
use Rattle.task_laws.proofs.PlaceLemmas.{among-foot, among-slots, contains-among, among-contains}

-- these places have the same values in both stores, and the same numbers on the way from the one to the other and back
record Meet (ns : List ℕ) (σ τ : List ValueTerm) : Type 0 where
  values : (n : ℕ) → among ns n ≡ true → slice_get σ n ≡ slice_get τ n
  onward : (n : ℕ) → among ns n ≡ true → renumbered (length σ) (length τ) n ≡ n
  homeward : (n : ℕ) → among ns n ≡ true → renumbered (length τ) (length σ) n ≡ n

module _ (ns : List ℕ) (σ τ : List ValueTerm) (m : Meet ns σ τ) where
  abbrev forth : Frame
  forth = frame ns σ τ m.values m.onward m.homeward

  there : Twins forth σ τ
  there = start ns σ τ m.values m.onward m.homeward

  stays : Stay forth (among ns)
  stays = stay ns σ τ m.values m.onward m.homeward

  abbrev home : Frame
  home = turned forth

  back : Twins home τ σ
  back = twins_turned forth σ τ there

  stays_back : Stay home (among ns)
  stays_back = stay_turned forth (among ns) stays

  test_frame : (c : CheckedTerm) (i : ℕ) (ss : List SlotTerm) → ((n : ℕ) → among (slot_places ss) n ≡ true → among ns n ≡ true)
      → (b : Bool) (n h : ℕ) → Test c (test_of c i ss σ) b n h ↔ Test c (test_of c i ss τ) b n h
  test_frame c i ss e b n h =
      let q = slots_within (among ns) ss e in
      (test_goes c (among ns) forth σ τ there stays i ss q b n h, test_goes c (among ns) home τ σ back stays_back i ss q b n h)

  module _ (t : TreeTerm) (e : (n : ℕ) → among (places_in t) n ≡ true → among ns n ≡ true) where
    held : TreeIn (among ns) t
    held = tree_within (among ns) t e

    value_frame : value_of t σ ≡ value_of t τ
    value_frame = value_goes (among ns) forth σ τ there stays t held

    fails_frame : (c : CheckedTerm) (b : Bool) (n h : ℕ) → Fails c (at t σ) b n h ↔ Fails c (at t τ) b n h
    fails_frame c b n h = (
      fails_goes c (among ns) forth σ τ there stays t held b n h,
      fails_goes c (among ns) home τ σ back stays_back t held b n h,
    )

    offers_frame : (c : CheckedTerm) (budget : ℕ) (os : List OfferTerm) → AreOffers c budget t σ os ↔ AreOffers c budget t τ os
    offers_frame c budget os = (
      offers_alike c budget (among ns) forth σ τ there stays t os held,
      offers_alike c budget (among ns) home τ σ back stays_back t os held,
    )

    widgets_frame : (c : CheckedTerm) (budget : ℕ) (ws : List WidgetTerm) → AreWidgets c budget t σ ws ↔ AreWidgets c budget t τ ws
    widgets_frame c budget ws = (
      widgets_alike c budget (among ns) forth σ τ there stays t ws held,
      widgets_alike c budget (among ns) home τ σ back stays_back t ws held,
    )

    -- what a stride, or settling, leaves in stores of one length
    module _ (lengths : length σ ≡ length τ) where
      one_number : (n : ℕ) → renumbered (length σ) (length τ) n ≡ n
      one_number n = renumbered-same (length σ) (length τ) n lengths

      left_alike : (s : State) (τ' : List ValueTerm) → Alike forth s τ' → StoresGo ns σ τ s.store τ' × AgreeOn (foot s.tree) s.store τ'
      left_alike s τ' h =
          let g = h.stores in
          let l = g.left_long in
          let r = g.right_long in
          let same : (n : ℕ) → reached ns (length σ) n ≡ true → slice_get s.store n ≡ slice_get τ' n =
          λ n q. g.within n q ∙ ap (slice_get τ') (one_number n) in (
            record {
              lengths = omega arith;
              grown = omega arith;
              agreeing = λ n q. same n (reached-among ns (length σ) n q);
              new = λ n le. same n (reached-new ns (length σ) n le);
              left = λ n lt q. g.left n (reached-not ns (length σ) n lt q);
              right = λ n lt q. g.right n (reached-not ns (length τ) n (omega arith) q);
            },
            record {
              lengths = omega arith;
              values = λ n q. same n (tree_reach (reached ns (length σ)) s.tree h.tree n (sym (among-foot s.tree n) ∙ q));
            },
          )

      same_there : (u : TreeTerm) → TreeIn (reached ns (length σ)) u → tree_to (renumbered (length σ) (length τ)) u ≡ u
      same_there u h = tree_stays (reached ns (length σ)) (renumbered (length σ) (length τ)) (λ n q. one_number n) u h

      held_there : TreeIn (reached ns (length σ)) t
      held_there = tree_more (among ns) (reached ns (length σ)) (reached-among ns (length σ)) t held

      strides_frame : (c : CheckedTerm) (s : State) (n h : ℕ) → Strides c (at t σ) s n h
          → (τ' : List ValueTerm) × Strides c (at t τ) (at s.tree τ') n h × StoresGo ns σ τ s.store τ' × AgreeOn (foot s.tree) s.store τ'
      strides_frame c s n h d =
          let z = all_alike forth c d.0 (strides (at t σ)) [] τ (record { tree = held_there; stores = there }) s n h d.1 in
          let w = left_alike s z.0 z.2 in
          let led = subst (λ u. Strides c (at u τ) (at (tree_to forth.to_right s.tree) z.0) n h) (same_there t held_there) (d.0, z.1) in
          (z.0, subst (λ u. Strides c (at t τ) (at u z.0) n h) (same_there s.tree z.2.tree) led, w.0, w.1)

      settles_frame : (c : CheckedTerm) (s : State) (n h : ℕ) → Settles c (at t σ) s n h
          → (τ' : List ValueTerm) × Settles c (at t τ) (at s.tree τ') n h × StoresGo ns σ τ s.store τ' × AgreeOn (foot s.tree) s.store τ'
      settles_frame c s n h d =
          let z = all_alike forth c d.0 (settles (at t σ)) [] τ (record { tree = held_there; stores = there }) s n h d.1 in
          let w = left_alike s z.0 z.2 in
          let led = subst (λ u. Settles c (at u τ) (at (tree_to forth.to_right s.tree) z.0) n h) (same_there t held_there) (d.0, z.1) in
          (z.0, subst (λ u. Settles c (at t τ) (at u z.0) n h) (same_there s.tree z.2.tree) led, w.0, w.1)

-- stores of one length that agree on these places
agree_meet : (ns : List ℕ) (σ τ : List ValueTerm) → AgreeOn ns σ τ → Meet ns σ τ
agree_meet ns σ τ a = record {
  values = a.values;
  onward = λ n e. renumbered-same (length σ) (length τ) n a.lengths;
  homeward = λ n e. renumbered-same (length τ) (length σ) n (sym a.lengths);
}

-- stores that have these places alike
alike_meet : (ns : List ℕ) (σ τ : List ValueTerm) → HaveAlike ns σ τ → Meet ns σ τ
alike_meet ns σ τ a = record {
  values = a.values;
  onward = λ n e. renumbered-old (length σ) (length τ) n (a.there n e);
  homeward = λ n e. renumbered-old (length τ) (length σ) n (by_cases (nat_le (length τ) n)
      (λ q. let past = past_end σ n (a.values n e ∙ slice_get_past τ n (leb-true (length τ) n q)) in
      let lt = a.there n e in
      absurd (omega arith))
      (λ q. leb-false (length τ) n q));
}

foot_of : (t : TreeTerm) (n : ℕ) → among (places_in t) n ≡ true → among (foot t) n ≡ true
foot_of t n e = among-foot t n ∙ e

-- ---- from a foot, and from the places of slots
module _ (t : TreeTerm) (σ τ : List ValueTerm) (a : AgreeOn (foot t) σ τ) where
  abbrev meet : Meet (foot t) σ τ
  meet = agree_meet (foot t) σ τ a

  pub foot_value : value_of t σ ≡ value_of t τ
  foot_value = value_frame (foot t) σ τ meet t (foot_of t)

  pub foot_fails : (c : CheckedTerm) (b : Bool) (n h : ℕ) → Fails c (at t σ) b n h ↔ Fails c (at t τ) b n h
  foot_fails c b n h = fails_frame (foot t) σ τ meet t (foot_of t) c b n h

  pub foot_strides : (c : CheckedTerm) (s : State) (n h : ℕ) → Strides c (at t σ) s n h
      → (τ' : List ValueTerm) × Strides c (at t τ) (at s.tree τ') n h × StoresGo (foot t) σ τ s.store τ' × AgreeOn (foot s.tree) s.store τ'
  foot_strides c s n h d = strides_frame (foot t) σ τ meet t (foot_of t) a.lengths c s n h d

  pub foot_settles : (c : CheckedTerm) (s : State) (n h : ℕ) → Settles c (at t σ) s n h
      → (τ' : List ValueTerm) × Settles c (at t τ) (at s.tree τ') n h × StoresGo (foot t) σ τ s.store τ' × AgreeOn (foot s.tree) s.store τ'
  foot_settles c s n h d = settles_frame (foot t) σ τ meet t (foot_of t) a.lengths c s n h d

  pub foot_offers : (c : CheckedTerm) (budget : ℕ) (os : List OfferTerm) → AreOffers c budget t σ os ↔ AreOffers c budget t τ os
  foot_offers c budget os = offers_frame (foot t) σ τ meet t (foot_of t) c budget os

  pub foot_widgets : (c : CheckedTerm) (budget : ℕ) (ws : List WidgetTerm) → AreWidgets c budget t σ ws ↔ AreWidgets c budget t τ ws
  foot_widgets c budget ws = widgets_frame (foot t) σ τ meet t (foot_of t) c budget ws

module _ (t : TreeTerm) (σ τ : List ValueTerm) (a : HaveAlike (foot t) σ τ) where
  abbrev meeting : Meet (foot t) σ τ
  meeting = alike_meet (foot t) σ τ a

  pub alike_value : value_of t σ ≡ value_of t τ
  alike_value = value_frame (foot t) σ τ meeting t (foot_of t)

  pub alike_fails : (c : CheckedTerm) (b : Bool) (n h : ℕ) → Fails c (at t σ) b n h ↔ Fails c (at t τ) b n h
  alike_fails c b n h = fails_frame (foot t) σ τ meeting t (foot_of t) c b n h

  pub alike_offers : (c : CheckedTerm) (budget : ℕ) (os : List OfferTerm) → AreOffers c budget t σ os ↔ AreOffers c budget t τ os
  alike_offers c budget os = offers_frame (foot t) σ τ meeting t (foot_of t) c budget os

  pub alike_widgets : (c : CheckedTerm) (budget : ℕ) (ws : List WidgetTerm) → AreWidgets c budget t σ ws ↔ AreWidgets c budget t τ ws
  alike_widgets c budget ws = widgets_frame (foot t) σ τ meeting t (foot_of t) c budget ws

-- a value more among the slots is no place more
places-value : (ss : List SlotTerm) (v : ValueTerm) → slot_places (ss ++ plain_slot v ∷ []) ≡ slot_places ss
places-value [] v = refl
places-value (plain_slot w ∷ ss) v = places-value ss v
places-value (place_slot n ∷ ss) v = ap (λ z. n ∷ z) (places-value ss v)

module _ (c : CheckedTerm) (k : LaterTerm) (σ τ : List ValueTerm) where
  side_frame : Meet (with_places k.slots []) σ τ → (b : Bool) (n h : ℕ) → Test c (side c k σ) b n h ↔ Test c (side c k τ) b n h
  side_frame m b n h = test_frame (with_places k.slots []) σ τ m c k.body k.slots (λ n e. among-slots k.slots n ∙ e) b n h

  trial_frame : Meet (with_places k.slots []) σ τ → (v : ValueTerm) (b : Bool) (n h : ℕ)
      → Test c (trial c k v σ) b n h ↔ Test c (trial c k v τ) b n h
  trial_frame m v b n h =
      test_frame (with_places k.slots []) σ τ m c k.body (k.slots ++ plain_slot v ∷ [])
      (λ n e. among-slots k.slots n ∙ subst (λ z. among z n ≡ true) (places-value k.slots v) e) b n h

  module _ (a : AgreeOn (with_places k.slots []) σ τ) where
    pub foot_side : (b : Bool) (n h : ℕ) → Test c (side c k σ) b n h ↔ Test c (side c k τ) b n h
    foot_side b n h = side_frame (agree_meet (with_places k.slots []) σ τ a) b n h

    pub foot_trial : (v : ValueTerm) (b : Bool) (n h : ℕ) → Test c (trial c k v σ) b n h ↔ Test c (trial c k v τ) b n h
    foot_trial v b n h = trial_frame (agree_meet (with_places k.slots []) σ τ a) v b n h

  module _ (a : HaveAlike (with_places k.slots []) σ τ) where
    pub alike_side : (b : Bool) (n h : ℕ) → Test c (side c k σ) b n h ↔ Test c (side c k τ) b n h
    alike_side b n h = side_frame (alike_meet (with_places k.slots []) σ τ a) b n h

    pub alike_trial : (v : ValueTerm) (b : Bool) (n h : ℕ) → Test c (trial c k v σ) b n h ↔ Test c (trial c k v τ) b n h
    alike_trial v b n h = trial_frame (alike_meet (with_places k.slots []) σ τ a) v b n h

-- ---- what it is to agree on a foot, and to have it alike
-- what holds of each place of a foot holds of all in the tree
module _ (t : TreeTerm) (P : ℕ → Type 0) where
  foot_all : ((n : ℕ) → among (foot t) n ≡ true → P n) → All P (places_in t)
  foot_all h k d lt =
      let n = slice_index_or (places_in t) k d in
      let c : Contains (places_in t) n = All-contains_itself (places_in t) k d lt in
      h n (among-foot t n ∙ contains-among (places_in t) n c)

  foot_each : All P (places_in t) → (n : ℕ) → among (foot t) n ≡ true → P n
  foot_each h n e = All-contains P (places_in t) n h (among-contains (places_in t) n (sym (among-foot t n) ∙ e))

module _ (t : TreeTerm) (σ τ : List ValueTerm) where
  abbrev AgreeAt : ℕ → Type 0
  AgreeAt n = slice_get σ n ≡ slice_get τ n

  abbrev AlikeAt : ℕ → Type 0
  AlikeAt n = (n < length σ) × (slice_get σ n ≡ slice_get τ n)

  pub agree_places : AgreeOn (foot t) σ τ ↔ ((length σ ≡ length τ) × All AgreeAt (places_in t))
  agree_places = (
    (λ a. (a.lengths, foot_all t AgreeAt a.values)),
    (λ a. record { lengths = a.0; values = foot_each t AgreeAt a.1 }),
  )

  pub alike_places : HaveAlike (foot t) σ τ ↔ All AlikeAt (places_in t)
  alike_places = (
    (λ a. foot_all t AlikeAt (λ n e. (a.there n e, a.values n e))),
    (λ a. record { there = λ n e. (foot_each t AlikeAt a n e).0; values = λ n e. (foot_each t AlikeAt a n e).1 }),
  )

pub foot_contains : (t : TreeTerm) (n : ℕ) → Contains (foot t) n ↔ Contains (places_in t) n
foot_contains t n = (
  (λ h. among-contains (places_in t) n (sym (among-foot t n) ∙ contains-among (foot t) n h)),
  (λ h. among-contains (foot t) n (among-foot t n ∙ contains-among (places_in t) n h)),
)
