-- Two values, two trees, two stores or two states are equal or not.
use Rattle.std.proofs.Common.{◌≡◌, ◌≢◌, ℕ, Bool, true, false, List, [], ◌∷◌, refl, ap, ◌∙◌}
use Rattle.std.specs.Prelude.{◌⊎◌}
use mathlib.Core.Logic.{inl, inr}
use Rattle.std.proofs.Math.IntN.{ℤ_discrete}
use Rattle.std.proofs.Math.Decide.{ℕ_discrete}
use Rattle.task_model.specs.Terms.Basic.{BasicTerm, unit_type, bool_type, int_type, text_type, pair_type, list_type}
use Rattle.task_model.specs.Terms.Value.{ValueTerm, unit_value, bool_value, int_value, text_value, pair_value, list_value, ValueTerms, no_values, more_values}
use Rattle.task_model.specs.Terms.Env.{SlotTerm, plain_slot, place_slot}
use Rattle.task_model.specs.Terms.Tree.{LaterTerm, TreeTerm, edit_tree, enter_tree, share_tree, then_tree, next_tree, fail_tree, and_tree, or_tree, xor_tree, State, at}

abbrev pub Same : {A : Type 0} → A → A → Type 0
Same x y = (x ≡ y) ⊎ (x ≢ y)

from_dec : {A : Type 0} (x y : A) → Dec (x ≡ y) → Same x y
from_dec x y (yes e) = inl e
from_dec x y (no d) = inr d

by_one : {A C : Type 0} (a a' : A) (x y : C) → Same a a' → (a ≡ a' → x ≡ y) → (x ≡ y → a ≡ a') → Same x y
by_one a a' x y (inl e) f g = inl (f e)
by_one a a' x y (inr d) f g = inr (λ e. d (g e))

by_two : {A B C : Type 0} (a a' : A) (b b' : B) (x y : C) → Same a a' → Same b b' → (a ≡ a' → b ≡ b' → x ≡ y) → (x ≡ y → a ≡ a')
    → (x ≡ y → b ≡ b') → Same x y
by_two a a' b b' x y (inl e) (inl q) f g h = inl (f e q)
by_two a a' b b' x y (inl e) (inr d) f g h = inr (λ z. d (h z))
by_two a a' b b' x y (inr d) q f g h = inr (λ z. d (g z))

same_bool : (b c : Bool) → Same b c
same_bool true true = inl refl
same_bool false false = inl refl
same_bool true false = inr (λ e. absurd (cc))
same_bool false true = inr (λ e. absurd (cc))

same_nat : (n m : ℕ) → Same n m
same_nat n m = from_dec n m (ℕ_discrete n m)

pub same_list : {A : Type 0} → ((x y : A) → Same x y) → (xs ys : List A) → Same xs ys
same_list same [] [] = inl refl
same_list same [] (y ∷ ys) = inr (λ e. absurd (cc))
same_list same (x ∷ xs) [] = inr (λ e. absurd (cc))
same_list same (x ∷ xs) (y ∷ ys) = by_two x y xs ys _ _ (same x y) (same_list same xs ys) (λ e q. cc) (λ e. cc) (λ e. cc)

pub same_basic : (a b : BasicTerm) → Same a b
same_basic unit_type unit_type = inl refl
same_basic bool_type bool_type = inl refl
same_basic int_type int_type = inl refl
same_basic text_type text_type = inl refl
same_basic (pair_type a b) (pair_type c d) = by_two a c b d _ _ (same_basic a c) (same_basic b d) (λ e q. cc) (λ e. cc) (λ e. cc)
same_basic (list_type a) (list_type b) = by_one a b _ _ (same_basic a b) (λ e. cc) (λ e. cc)
same_basic a b = inr (λ e. absurd (cc))

mutual
  pub same_term : (v w : ValueTerm) → Same v w
  same_term unit_value unit_value = inl refl
  same_term (bool_value b) (bool_value c) = by_one b c _ _ (same_bool b c) (λ e. cc) (λ e. cc)
  same_term (int_value i) (int_value j) = by_one i j _ _ (from_dec i j (ℤ_discrete i j)) (λ e. cc) (λ e. cc)
  same_term (text_value t) (text_value u) = by_one t u _ _ (same_list same_nat t u) (λ e. cc) (λ e. cc)
  same_term (pair_value v w) (pair_value x y) = by_two v x w y _ _ (same_term v x) (same_term w y) (λ e q. cc) (λ e. cc) (λ e. cc)
  same_term (list_value vs) (list_value ws) = by_one vs ws _ _ (same_terms vs ws) (λ e. cc) (λ e. cc)
  same_term v w = inr (λ e. absurd (cc))

  same_terms : (vs ws : ValueTerms) → Same vs ws
  same_terms no_values no_values = inl refl
  same_terms (more_values v vs) (more_values w ws) = by_two v w vs ws _ _ (same_term v w) (same_terms vs ws) (λ e q. cc) (λ e. cc) (λ e. cc)
  same_terms vs ws = inr (λ e. absurd (cc))

same_slot : (s t : SlotTerm) → Same s t
same_slot (plain_slot v) (plain_slot w) = by_one v w _ _ (same_term v w) (λ e. cc) (λ e. cc)
same_slot (place_slot n) (place_slot m) = by_one n m _ _ (same_nat n m) (λ e. cc) (λ e. cc)
same_slot s t = inr (λ e. absurd (cc))

abbrev later_term : ℕ → List SlotTerm → LaterTerm
later_term i ss = record { body = i; slots = ss }

same_later : (j k : LaterTerm) → Same j k
same_later j k =
    by_two j.body k.body j.slots k.slots j k (same_nat j.body k.body) (same_list same_slot j.slots k.slots)
    (λ e q. ap (λ z. later_term z j.slots) e ∙ ap (later_term k.body) q) (λ e. ap (λ (z : LaterTerm). z.body) e)
    (λ e. ap (λ (z : LaterTerm). z.slots) e)

same_tree : (t u : TreeTerm) → Same t u
same_tree (edit_tree a v) (edit_tree b w) = by_two a b v w _ _ (same_basic a b) (same_term v w) (λ e q. cc) (λ e. cc) (λ e. cc)
same_tree (enter_tree a) (enter_tree b) = by_one a b _ _ (same_basic a b) (λ e. cc) (λ e. cc)
same_tree (share_tree a n) (share_tree b m) = by_two a b n m _ _ (same_basic a b) (same_nat n m) (λ e q. cc) (λ e. cc) (λ e. cc)
same_tree (then_tree t k) (then_tree u j) = by_two t u k j _ _ (same_tree t u) (same_later k j) (λ e q. cc) (λ e. cc) (λ e. cc)
same_tree (next_tree t k) (next_tree u j) = by_two t u k j _ _ (same_tree t u) (same_later k j) (λ e q. cc) (λ e. cc) (λ e. cc)
same_tree fail_tree fail_tree = inl refl
same_tree (and_tree t u) (and_tree x y) = by_two t x u y _ _ (same_tree t x) (same_tree u y) (λ e q. cc) (λ e. cc) (λ e. cc)
same_tree (or_tree t u) (or_tree x y) = by_two t x u y _ _ (same_tree t x) (same_tree u y) (λ e q. cc) (λ e. cc) (λ e. cc)
same_tree (xor_tree j k) (xor_tree x y) = by_two j x k y _ _ (same_later j x) (same_later k y) (λ e q. cc) (λ e. cc) (λ e. cc)
same_tree t u = inr (λ e. absurd (cc))

pub same_state : (s t : State) → Same s t
same_state s t =
    by_two s.tree t.tree s.store t.store s t (same_tree s.tree t.tree) (same_list same_term s.store t.store)
    (λ e q. ap (λ z. at z s.store) e ∙ ap (at t.tree) q) (λ e. ap (λ (z : State). z.tree) e) (λ e. ap (λ (z : State). z.store) e)
