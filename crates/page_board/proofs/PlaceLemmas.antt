-- The steps of the board's places keep its rule.
use Rattle.std.proofs.Common.{◌<◌, length, ap, arith, ◌≡◌, ◌≢◌, ℕ, List, [], ◌∷◌, ◌++◌, set, refl, subst, ◌∙◌, ⊎_elim, inl, inr}
use mathlib.Core.Option.{some}
use mathlib.Core.List.{IsPrefix}
use lib.ListN.{get_elem?}
use Rattle.left_right.specs.Register.{Admits, TurnsAt, Forks, Merges}
use Rattle.atomic_table.proofs.Lists.{at_set, at_snoc}
use Rattle.page_board.specs.BoardLists.{BoardList}
use Rattle.page_board.specs.BoardPlaces.{IsKnownOf, AllKnow, LearnsShown, nowhere}
use Rattle.page_board.proofs.FrontLemmas.{prefix_trans, prefix_self, prefix_length}

pub follows_self : (x : BoardList) → IsKnownOf x x
follows_self x = inr (refl, prefix_self x.list)

pub follows_on : (v x y : BoardList) → IsKnownOf v x → IsKnownOf x y → IsKnownOf v y
follows_on v x y p q = ⊎_elim (λ (e : v.list ≡ []). inl e)
    (λ (a : (x.board ≡ v.board) × IsPrefix v.list x.list). ⊎_elim (λ (e : x.list ≡ []). inl (none v.list x.list a.1 e)) (λ (b : (y.board ≡ x.board) × IsPrefix x.list y.list). inr (b.0 ∙ a.0, prefix_trans v.list x.list y.list a.1 b.1)) q) p
  where
    none : {A : Type 0} (xs ys : List A) → IsPrefix xs ys → ys ≡ [] → xs ≡ []
    none [] ys p e = refl
    none (x ∷ xs) [] p e = absurd (cc (p.1))
    none (x ∷ xs) (y ∷ ys) p e = absurd (cc e)

pub grows : (v x : BoardList) → IsKnownOf v x → 0 < length v.list → (x.board ≡ v.board) × IsPrefix v.list x.list × (0 < length x.list)
grows v x p known = ⊎_elim (λ (e : v.list ≡ []). absurd (let n : length v.list ≡ 0 = ap length e in omega (arith, known)))
    (λ (a : (x.board ≡ v.board) × IsPrefix v.list x.list). (a.0, a.1, (let le = prefix_length v.list x.list a.1 in omega (arith, known)))) p

set_keeps : (x : BoardList) (views : List BoardList) (seat : ℕ) (w : BoardList) → AllKnow x views → IsKnownOf w x → AllKnow x (set views seat w)
set_keeps x views seat w keeps new j u e = ⊎_elim (λ (t : (j ≡ seat) × (w ≡ u)). subst (λ (z : BoardList). IsKnownOf z x) t.1 new) (λ (t : (j ≢ seat) × (get_elem? views j ≡ some u)). keeps j u t.1) (at_set views seat j w u e)

snoc_keeps : (x : BoardList) (views : List BoardList) (w : BoardList) → AllKnow x views → IsKnownOf w x → AllKnow x (views ++ w ∷ [])
snoc_keeps x views w keeps new j u e = ⊎_elim (keeps j u) (λ (same : w ≡ u). subst (λ (z : BoardList). IsKnownOf z x) same new) (at_snoc views w u j e)

module _ {T : Type 0} (list_of : T → BoardList) where
  pub admits : Admits (λ (x : T). AllKnow (list_of x)) nowhere
  admits x views keeps = snoc_keeps (list_of x) views nowhere keeps (inl refl)

  -- a place sees an item whose list follows the one that was shown
  pub sees : (seat : ℕ) (v : BoardList) (x y : T) → IsKnownOf (list_of x) (list_of y) → TurnsAt (λ (x : T). AllKnow (list_of x)) seat v x y (λ v x y w. LearnsShown v (list_of y) w)
  sees seat v x y on views keeps at =
      let later : AllKnow (list_of y) views = λ j u e. follows_on u (list_of x) (list_of y) (keeps j u e) on in
      (list_of y, set_keeps (list_of y) views seat (list_of y) later (follows_self (list_of y)), (refl, later seat v at))

  pub forks : (seat : ℕ) (v : BoardList) → Forks (λ (x : T). AllKnow (list_of x)) seat v v v
  forks seat v x views keeps at = snoc_keeps (list_of x) (set views seat v) v (set_keeps (list_of x) views seat v keeps (keeps seat v at)) (keeps seat v at)

  pub merges : (seat other : ℕ) (v w : BoardList) → Merges (λ (x : T). AllKnow (list_of x)) seat v other w w nowhere
  merges seat other v w x views keeps at apart there =
      let new : IsKnownOf w (list_of x) = ⊎_elim (λ (t : (other ≡ seat) × (w ≡ w)). absurd (apart t.0)) (λ (t : (other ≢ seat) × (get_elem? views other ≡ some w)). keeps other w t.1) (at_set views seat other w w there) in
      set_keeps (list_of x) (set views seat w) other nowhere (set_keeps (list_of x) views seat w keeps new) (inl refl)
