-- Stores, slots and trees where the list of types grows, and names with their slots.
use Rattle.std.proofs.Common.{◌≡◌, ℕ, zero, suc, Bool, true, false, List, [], ◌∷◌, ◌++◌, length, Option, Some, None, refl, sym, ap, ◌∙◌, subst, cond, append-nil, append_assoc}
use Rattle.std.proofs.lemmas.List.{map-append}
use Rattle.std.specs.Prelude.{slice_get, slice_set}
use Rattle.std.specs.Option.{option_or}
use Rattle.task_model.specs.Terms.Text.{Text, same_text}
use Rattle.task_model.specs.Terms.Basic.{BasicTerm}
use Rattle.task_model.specs.Terms.Value.{ValueTerm}
use Rattle.task_model.specs.Terms.Env.{SlotTerm, plain_slot, place_slot, EnvTerm}
use Rattle.task_model.specs.Terms.Tree.{LaterTerm, TreeTerm, edit_tree, enter_tree, share_tree, then_tree, next_tree, fail_tree, and_tree, or_tree, xor_tree}
use Rattle.task_model.specs.Terms.Program.{KindTerm, plain_kind, ref_kind, ParamTerm}
use Rattle.task_model.specs.Running.Checked.{CheckedTerm, found, slot_of, param_names}
use Rattle.task_model.specs.Checking.Names.{kind_in}
use Rattle.task_model.specs.Running.Rules.{bound}
use Rattle.task_model.specs.Checking.Fits.{StoreHas, SlotHas, SlotsHave, EnvHas, LaterHas, TreeHas}
use Rattle.typing_laws.specs.Assumed.{Grows}
use Rattle.typing_laws.proofs.OperatorLemmas.{Has, SomeHas}

-- ---- the list of types
pub grows_same : (Σ : List BasicTerm) → Grows Σ Σ
grows_same Σ = ([], sym (append-nil Σ))

pub grows_on : (Σ Σ' Σ'' : List BasicTerm) → Grows Σ Σ' → Grows Σ' Σ'' → Grows Σ Σ''
grows_on Σ Σ' Σ'' g h = (g.0 ++ h.0, h.1 ∙ ap (λ z. z ++ h.0) g.1 ∙ append_assoc Σ g.0 h.0)

get_more : (Σ more : List BasicTerm) (n : ℕ) (b : BasicTerm) → slice_get Σ n ≡ Some b → slice_get (Σ ++ more) n ≡ Some b
get_more [] more n b h = absurd (cc)
get_more (a ∷ Σ) more zero b h = h
get_more (a ∷ Σ) more (suc n) b h = get_more Σ more n b h

pub get_grows : (Σ Σ' : List BasicTerm) (n : ℕ) (b : BasicTerm) → Grows Σ Σ' → slice_get Σ n ≡ Some b → slice_get Σ' n ≡ Some b
get_grows Σ Σ' n b g h = subst (λ z. slice_get z n ≡ Some b) (sym g.1) (get_more Σ g.0 n b h)

module _ (Σ Σ' : List BasicTerm) (g : Grows Σ Σ') where
  slot_grows : (s : SlotTerm) (k : KindTerm) → SlotHas Σ s k → SlotHas Σ' s k
  slot_grows (plain_slot v) (plain_kind b) h = h
  slot_grows (place_slot n) (ref_kind b) h = get_grows Σ Σ' n b g h
  slot_grows s k h = absurd h

  pub slots_grow : (ss : List SlotTerm) (qs : List ParamTerm) → SlotsHave Σ ss qs → SlotsHave Σ' ss qs
  slots_grow [] [] h = tt
  slots_grow (s ∷ ss) (q ∷ qs) h = (slot_grows s q.kind h.0, slots_grow ss qs h.1)
  slots_grow ss qs h = absurd h

  pub env_grows : (env : EnvTerm) (s : List ParamTerm) → EnvHas Σ env s → EnvHas Σ' env s
  env_grows env s h = record { names = h.names; slots = slots_grow env.slots s h.slots }

  module _ (c : CheckedTerm) where
    pub later_grows : (k : LaterTerm) (a : Option BasicTerm) (b : BasicTerm) → LaterHas c Σ k a b → LaterHas c Σ' k a b
    later_grows k a b h =
        record {
          body = h.body;
          is = h.is;
          scope = h.scope;
          part = h.part;
          names = h.names;
          slots = slots_grow k.slots h.scope h.slots;
          inner = h.inner;
          binds = h.binds;
          first = h.first;
          starts = h.starts;
          fits = h.fits;
        }

    pub tree_grows : (t : TreeTerm) (b : BasicTerm) → TreeHas c Σ t b → TreeHas c Σ' t b
    tree_grows (edit_tree a v) b h = h
    tree_grows (enter_tree a) b h = h
    tree_grows (share_tree a n) b h = (h.0, get_grows Σ Σ' n b g h.1)
    tree_grows (then_tree t k) b h = (h.0, tree_grows t h.0 h.1, later_grows k (Some h.0) b h.2)
    tree_grows (next_tree t k) b h = (h.0, tree_grows t h.0 h.1, later_grows k (Some h.0) b h.2)
    tree_grows fail_tree b h = tt
    tree_grows (and_tree t u) b h = (h.0, h.1, h.2, tree_grows t h.0 h.3, tree_grows u h.1 h.4)
    tree_grows (or_tree t u) b h = (tree_grows t b h.0, tree_grows u b h.1)
    tree_grows (xor_tree j k) b h = (later_grows j None b h.0, later_grows k None b h.1)

-- ---- the store
pub store_get : (σ : List ValueTerm) (Σ : List BasicTerm) (n : ℕ) (b : BasicTerm) → StoreHas σ Σ → slice_get Σ n ≡ Some b
    → SomeHas (slice_get σ n) b
store_get [] [] n b h e = absurd (cc)
store_get (v ∷ σ) (a ∷ Σ) zero b h e = let same : a ≡ b = cc in subst (Has v) same h.0
store_get (v ∷ σ) (a ∷ Σ) (suc n) b h e = store_get σ Σ n b h.1 e
store_get σ Σ n b h e = absurd h

pub store_set : (σ : List ValueTerm) (Σ : List BasicTerm) (n : ℕ) (b : BasicTerm) (w : ValueTerm) → StoreHas σ Σ → slice_get Σ n ≡ Some b
    → Has w b → StoreHas (slice_set σ n w) Σ
store_set [] Σ n b w h e q = h
store_set (v ∷ σ) (a ∷ Σ) zero b w h e q = let same : b ≡ a = cc in (subst (Has w) same q, h.1)
store_set (v ∷ σ) (a ∷ Σ) (suc n) b w h e q = (h.0, store_set σ Σ n b w h.1 e q)
store_set (v ∷ σ) [] n b w h e q = absurd h

pub store_push : (σ : List ValueTerm) (Σ : List BasicTerm) (v : ValueTerm) (b : BasicTerm) → StoreHas σ Σ → Has v b
    → StoreHas (σ ++ v ∷ []) (Σ ++ b ∷ [])
store_push [] [] v b h q = (q, tt)
store_push (w ∷ σ) (a ∷ Σ) v b h q = (h.0, store_push σ Σ v b h.1 q)
store_push σ Σ v b h q = absurd h

pub new_place : (σ : List ValueTerm) (Σ : List BasicTerm) (b : BasicTerm) → StoreHas σ Σ → slice_get (Σ ++ b ∷ []) (length σ) ≡ Some b
new_place [] [] b h = refl
new_place (v ∷ σ) (a ∷ Σ) b h = new_place σ Σ b h.1
new_place σ Σ b h = absurd h

-- ---- names and slots
abbrev pub Matches : List BasicTerm → Option SlotTerm → Option KindTerm → Type 0
Matches Σ None None = Unit {0}
Matches Σ (Some s) (Some k) = SlotHas Σ s k
Matches Σ o q = ⊥

module _ (Σ : List BasicTerm) where
  matches_or : (o p : Option SlotTerm) (o' p' : Option KindTerm) → Matches Σ o o' → Matches Σ p p'
      → Matches Σ (option_or o p) (option_or o' p')
  matches_or None p None p' h q = q
  matches_or (Some v) p (Some k) p' h q = h
  matches_or o p o' p' h q = absurd h

  matches_if : (b : Bool) (s : SlotTerm) (k : KindTerm) → SlotHas Σ s k → Matches Σ (cond b (Some s) None) (cond b (Some k) None)
  matches_if true s k h = h
  matches_if false s k h = tt

  found_matches : (qs : List ParamTerm) (ss : List SlotTerm) (y : Text) → SlotsHave Σ ss qs
      → Matches Σ (found (param_names qs) ss y) (kind_in qs y)
  found_matches [] [] y h = tt
  found_matches (q ∷ qs) (s ∷ ss) y h =
      matches_or _ _ _ _ (found_matches qs ss y h.1) (matches_if (same_text q.name y) s q.kind h.0)
  found_matches qs ss y h = absurd h

  -- the slot of a name of that kind
  pub slot_found : (env : EnvTerm) (s : List ParamTerm) (y : Text) (k : KindTerm) → EnvHas Σ env s → kind_in s y ≡ Some k
      → Matches Σ (slot_of env y) (Some k)
  slot_found env s y k h e =
      subst (Matches Σ (slot_of env y)) e
      (subst (λ xs. Matches Σ (found xs env.slots y) (kind_in s y)) (sym h.names) (found_matches s env.slots y h.slots))

  pub slots_push : (ss : List SlotTerm) (qs : List ParamTerm) (s : SlotTerm) (q : ParamTerm) → SlotsHave Σ ss qs → SlotHas Σ s q.kind
      → SlotsHave Σ (ss ++ s ∷ []) (qs ++ q ∷ [])
  slots_push [] [] s q h g = (g, tt)
  slots_push (r ∷ ss) (j ∷ qs) s q h g = (h.0, slots_push ss qs s q h.1 g)
  slots_push ss qs s q h g = absurd h

  -- an environment with one name more
  pub env_bound : (env : EnvTerm) (qs : List ParamTerm) (s : SlotTerm) (q : ParamTerm) → EnvHas Σ env qs → SlotHas Σ s q.kind
      → EnvHas Σ (bound env q.name s) (qs ++ q ∷ [])
  env_bound env qs s q h g =
      record {
        names = ap (λ xs. xs ++ q.name ∷ []) h.names ∙ sym (map-append (λ r. r.name) qs (q ∷ []));
        slots = slots_push env.slots qs s q h.slots g;
      }
