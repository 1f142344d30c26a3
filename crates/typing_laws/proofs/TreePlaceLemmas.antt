-- The store of a state that fits a program has each place of its tree.
use Rattle.std.proofs.Common.{◌≡◌, ◌<◌, ℕ, suc, List, [], ◌∷◌, length, Option, None, Some, refl, ap, arith}
use Rattle.std.specs.Prelude.{slice_get}
use Rattle.std.specs.List.{All}
use Rattle.std.proofs.lemmas.List.Elements.{All-nil, All-cons, All-append}
use Rattle.std.proofs.lemmas.Option.{slice_get_within}
use Rattle.task_model.specs.Terms.Basic.{BasicTerm}
use Rattle.task_model.specs.Terms.Value.{ValueTerm}
use Rattle.task_model.specs.Terms.Env.{SlotTerm, plain_slot, place_slot}
use Rattle.task_model.specs.Terms.Tree.{LaterTerm, TreeTerm, edit_tree, enter_tree, share_tree, then_tree, next_tree, fail_tree, and_tree, or_tree, xor_tree, State}
use Rattle.task_model.specs.Terms.Program.{KindTerm, plain_kind, ref_kind, ParamTerm}
use Rattle.task_model.specs.Running.Checked.{CheckedTerm}
use Rattle.task_model.specs.Checking.Fits.{StoreHas, SlotHas, SlotsHave, LaterHas, TreeHas, Fits}
use Rattle.task_laws.specs.TreePlaces.{slot_places, places_in, HasPlaces}

store_long : (σ : List ValueTerm) (Σ : List BasicTerm) → StoreHas σ Σ → length σ ≡ length Σ
store_long [] [] h = refl
store_long [] (b ∷ Σ) h = absurd h
store_long (v ∷ σ) [] h = absurd h
store_long (v ∷ σ) (b ∷ Σ) h = ap suc (store_long σ Σ h.1)

module _ (c : CheckedTerm) (Σ : List BasicTerm) (σ : List ValueTerm) (long : length σ ≡ length Σ) where
  abbrev There : ℕ → Type 0
  There n = n < length σ

  typed_there : (n : ℕ) (b : BasicTerm) → slice_get Σ n ≡ Some b → n < length σ
  typed_there n b e = let lt = slice_get_within Σ n b e in omega (arith, lt, long)

  slots_there : (ss : List SlotTerm) (qs : List ParamTerm) → SlotsHave Σ ss qs → All There (slot_places ss)
  slots_there [] qs h = All-nil There
  slots_there (s ∷ ss) [] h = absurd h
  slots_there (plain_slot v ∷ ss) (q ∷ qs) h = slots_there ss qs h.1
  slots_there (place_slot n ∷ ss) (q ∷ qs) h =
      All-cons There n (slot_places ss) (by_kind q.kind h.0) (slots_there ss qs h.1)
    where
      by_kind : (k : KindTerm) → SlotHas Σ (place_slot n) k → n < length σ
      by_kind (plain_kind b) i = absurd i
      by_kind (ref_kind b) i = typed_there n b i

  later_there : (k : LaterTerm) (a : Option BasicTerm) (b : BasicTerm) → LaterHas c Σ k a b → All There (slot_places k.slots)
  later_there k a b h = slots_there k.slots h.scope h.slots

  tree_there : (t : TreeTerm) (b : BasicTerm) → TreeHas c Σ t b → HasPlaces σ t
  tree_there (edit_tree a v) b h = All-nil There
  tree_there (enter_tree a) b h = All-nil There
  tree_there (share_tree a n) b h = All-cons There n [] (typed_there n b h.1) (All-nil There)
  tree_there (then_tree t k) b h =
      All-append There (places_in t) (slot_places k.slots) (tree_there t h.0 h.1) (later_there k (Some h.0) b h.2)
  tree_there (next_tree t k) b h =
      All-append There (places_in t) (slot_places k.slots) (tree_there t h.0 h.1) (later_there k (Some h.0) b h.2)
  tree_there fail_tree b h = All-nil There
  tree_there (and_tree t u) b h = All-append There (places_in t) (places_in u) (tree_there t h.0 h.3) (tree_there u h.1 h.4)
  tree_there (or_tree t u) b h = All-append There (places_in t) (places_in u) (tree_there t b h.0) (tree_there u b h.1)
  tree_there (xor_tree j k) b h =
      All-append There (slot_places j.slots) (slot_places k.slots) (later_there j None b h.0) (later_there k None b h.1)

pub places_there : (c : CheckedTerm) (s : State) → Fits c s → HasPlaces s.store s.tree
places_there c s h = tree_there c h.0 s.store (store_long s.store h.0 h.2.store) s.tree h.1 h.2.tree
