-- Two stores on their way from two others: inside they agree, number by number, and outside each is as it was.
use Rattle.std.proofs.Common.{◌≡◌, ◌↔◌, ◌<◌, ◌+◌, ℕ, suc, Bool, true, false, List, [], ◌∷◌, ◌++◌, length, refl, sym, ap, ◌∙◌, subst, arith}
use Rattle.std.specs.Prelude.{◌==◌, slice_get, slice_set}
use Rattle.std.specs.Option.{option_or}
use Rattle.std.proofs.lemmas.Bool.{eq-eqb, eqb-true}
use Rattle.std.proofs.lemmas.List.{length-set, length_push}
use Rattle.task_model.specs.Terms.Value.{ValueTerm}
use Rattle.task_model.specs.Terms.Tree.{TreeTerm, edit_tree, enter_tree, share_tree, then_tree, next_tree, fail_tree, and_tree, or_tree, xor_tree}
use Rattle.task_model.specs.Running.Rules.{paired, value_of}
use Rattle.task_laws.proofs.StoreLemmas.{list_by_places, instead, set_here, set_apart, push_here, push_other}
use Rattle.task_laws.proofs.RenumberLemmas.{TreeIn, tree_to, tree_home}

pub by_cases : {P : Type 0} (b : Bool) → (b ≡ true → P) → (b ≡ false → P) → P
by_cases true f g = f refl
by_cases false f g = g refl

-- either these numbers are the same or they aren't
by_equal : {P : Type 0} (n m : ℕ) → (n ≡ m → P) → ((n ≡ m → ⊥) → P) → P
by_equal n m f g = by_cases (n == m) (λ e. f (eqb-true n m e)) (λ e. g (λ q. let s = eq-eqb n m q in absurd (cc)))

-- ---- twins
-- Two stores at the start, the places that are inside of each, and their numbers in the other one: every place that is outside was there, and
-- the new ones stand in the same order in both.
pub record Frame : Type 0 where
  pub left : List ValueTerm
  pub right : List ValueTerm
  pub in_left : ℕ → Bool
  pub in_right : ℕ → Bool
  pub to_right : ℕ → ℕ
  pub to_left : ℕ → ℕ
  pub early_left : (n : ℕ) → in_left n ≡ false → n < length left
  pub early_right : (n : ℕ) → in_right n ≡ false → n < length right
  pub there : (n : ℕ) → in_left n ≡ true → (in_right (to_right n) ≡ true) × (to_left (to_right n) ≡ n)
  pub back : (n : ℕ) → in_right n ≡ true → (in_left (to_left n) ≡ true) × (to_right (to_left n) ≡ n)
  pub new : (k : ℕ) → to_right (length left + k) ≡ length right + k

-- two stores on the way from these, by as many new places: inside they agree, and outside each is as it was at the start
pub record Twins (f : Frame) (σ τ : List ValueTerm) : Type 0 where
  pub more : ℕ
  pub left_long : length σ ≡ length f.left + more
  pub right_long : length τ ≡ length f.right + more
  pub within : (n : ℕ) → f.in_left n ≡ true → slice_get σ n ≡ slice_get τ (f.to_right n)
  pub left : (n : ℕ) → f.in_left n ≡ false → slice_get σ n ≡ slice_get f.left n
  pub right : (n : ℕ) → f.in_right n ≡ false → slice_get τ n ≡ slice_get f.right n

module _ (f : Frame) where
  -- a new place is inside
  pub in_new : (k : ℕ) → f.in_left (length f.left + k) ≡ true
  in_new k = by_cases (f.in_left (length f.left + k)) (λ e. e) (λ e. let lt = f.early_left (length f.left + k) e in absurd (omega arith))

  pub new_in : (σ τ : List ValueTerm) → Twins f σ τ → f.in_left (length σ) ≡ true
  new_in σ τ h = ap f.in_left h.left_long ∙ in_new h.more

  -- and has its number in the other store
  pub new_to : (σ τ : List ValueTerm) → Twins f σ τ → f.to_right (length σ) ≡ length τ
  new_to σ τ h = ap f.to_right h.left_long ∙ f.new h.more ∙ sym h.right_long

  -- places inside that have one number there have one here
  one_place : (n m : ℕ) → f.in_left n ≡ true → f.in_left m ≡ true → f.to_right n ≡ f.to_right m → n ≡ m
  one_place n m i j e = sym (f.there n i).1 ∙ ap f.to_left e ∙ (f.there m j).1

  -- a place inside is no place outside
  apart : (p : ℕ → Bool) (n m : ℕ) → p n ≡ true → p m ≡ false → n ≡ m → ⊥
  apart p n m e q s = let same = ap p s in cc

  pub twins_push : (σ τ : List ValueTerm) (v : ValueTerm) → Twins f σ τ → Twins f (σ ++ v ∷ []) (τ ++ v ∷ [])
  twins_push σ τ v h =
      let l = h.left_long in
      let r = h.right_long in
      let ls = length_push σ v in
      let lt = length_push τ v in
      record {
        more = suc h.more;
        left_long = omega arith;
        right_long = omega arith;
        within = λ n i. by_equal n (length σ)
            (λ e. ap (slice_get (σ ++ v ∷ [])) e ∙ push_here σ v ∙ sym (push_here τ v)
            ∙ ap (slice_get (τ ++ v ∷ [])) (sym (ap f.to_right e ∙ new_to σ τ h)))
            (λ d. push_other σ v n d ∙ h.within n i ∙ sym (push_other τ v (f.to_right n)
            (λ e. d (one_place n (length σ) i (new_in σ τ h) (e ∙ sym (new_to σ τ h))))));
        left = λ n e. let lt = f.early_left n e in push_other σ v n (λ s. absurd (omega arith)) ∙ h.left n e;
        right = λ n e. let lt = f.early_right n e in push_other τ v n (λ s. absurd (omega arith)) ∙ h.right n e;
      }

  pub twins_set : (σ τ : List ValueTerm) (n : ℕ) (v : ValueTerm) → f.in_left n ≡ true → Twins f σ τ
      → Twins f (slice_set σ n v) (slice_set τ (f.to_right n) v)
  twins_set σ τ n v i h =
      record {
        more = h.more;
        left_long = length-set σ n v ∙ h.left_long;
        right_long = length-set τ (f.to_right n) v ∙ h.right_long;
        within = λ m j. by_equal n m
            (λ e. subst (λ z. slice_get (slice_set σ n v) z ≡ slice_get (slice_set τ (f.to_right n) v) (f.to_right z)) e
            (set_here σ n v ∙ ap (instead v) (h.within n i) ∙ sym (set_here τ (f.to_right n) v)))
            (λ d. set_apart σ n m v d ∙ h.within m j ∙ sym (set_apart τ (f.to_right n) (f.to_right m) v (λ e. d (one_place n m i j e))));
        left = λ m q. set_apart σ n m v (apart f.in_left n m i q) ∙ h.left m q;
        right = λ m q. set_apart τ (f.to_right n) m v (apart f.in_right (f.to_right n) m (f.there n i).0 q) ∙ h.right m q;
      }

  -- the one store stays where the other does
  pub stays : (σ σ' τ τ' : List ValueTerm) → Twins f σ τ → Twins f σ' τ' → (σ' ≡ σ) ↔ (τ' ≡ τ)
  stays σ σ' τ τ' h q = (
    (λ e. list_by_places τ' τ (λ n. by_cases (f.in_right n)
        (λ i. let b = f.back n i in subst (λ z. slice_get τ' z ≡ slice_get τ z) b.1
        (sym (q.within (f.to_left n) b.0) ∙ ap (λ z. slice_get z (f.to_left n)) e ∙ h.within (f.to_left n) b.0))
        (λ o. q.right n o ∙ sym (h.right n o)))),
    (λ e. list_by_places σ' σ (λ n. by_cases (f.in_left n)
        (λ i. q.within n i ∙ ap (λ z. slice_get z (f.to_right n)) e ∙ sym (h.within n i))
        (λ o. q.left n o ∙ sym (h.left n o)))),
  )

  -- a tree's value agrees
  pub value_alike : (t : TreeTerm) (σ τ : List ValueTerm) → TreeIn f.in_left t → Twins f σ τ
      → value_of t σ ≡ value_of (tree_to f.to_right t) τ
  value_alike (edit_tree b v) σ τ h q = refl
  value_alike (enter_tree b) σ τ h q = refl
  value_alike (share_tree b n) σ τ h q = q.within n h
  value_alike (then_tree t k) σ τ h q = refl
  value_alike (next_tree t k) σ τ h q = refl
  value_alike fail_tree σ τ h q = refl
  value_alike (and_tree t u) σ τ h q = ap (λ z. paired z (value_of u σ)) (value_alike t σ τ h.0 q)
      ∙ ap (paired (value_of (tree_to f.to_right t) τ)) (value_alike u σ τ h.1 q)
  value_alike (or_tree t u) σ τ h q = ap (λ z. option_or z (value_of u σ)) (value_alike t σ τ h.0 q)
      ∙ ap (option_or (value_of (tree_to f.to_right t) τ)) (value_alike u σ τ h.1 q)
  value_alike (xor_tree j k) σ τ h q = refl

  -- one tree is another where they are one over the other store
  pub same_tree : (t u : TreeTerm) → TreeIn f.in_left t → TreeIn f.in_left u → tree_to f.to_right t ≡ tree_to f.to_right u → t ≡ u
  same_tree t u h q e =
      let home : (n : ℕ) → f.in_left n ≡ true → f.to_left (f.to_right n) ≡ n = λ n i. (f.there n i).1 in
      sym (tree_home f.in_left f.to_right f.to_left home t h) ∙ ap (tree_to f.to_left) e
      ∙ tree_home f.in_left f.to_right f.to_left home u q

  -- the other way round
  abbrev pub turned : Frame
  turned = record {
    left = f.right;
    right = f.left;
    in_left = f.in_right;
    in_right = f.in_left;
    to_right = f.to_left;
    to_left = f.to_right;
    early_left = f.early_right;
    early_right = f.early_left;
    there = f.back;
    back = f.there;
    new = λ k. ap f.to_left (sym (f.new k)) ∙ (f.there (length f.left + k) (in_new k)).1;
  }

pub twins_turned : (f : Frame) (σ τ : List ValueTerm) → Twins f σ τ → Twins (turned f) τ σ
twins_turned f σ τ h =
    record {
      more = h.more;
      left_long = h.right_long;
      right_long = h.left_long;
      within = λ n i. let b = f.back n i in ap (slice_get τ) (sym b.1) ∙ sym (h.within (f.to_left n) b.0);
      left = h.right;
      right = h.left;
    }
