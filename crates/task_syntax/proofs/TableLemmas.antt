-- The first of a table that is sorted by length is the longest.
use Rattle.std.proofs.Common.{◌≡◌, ℕ, suc, ◌+◌, ◌<◌, ◌≤◌, Bool, true, false, ◌&&◌, nat_le, List, [], ◌∷◌, ◌++◌, length, map, take, drop, get_or, Option, Some, None, MatchOption, refl, sym, ap, ◌∙◌, subst, arith, eqb}
use Rattle.std.specs.Cmp.Lexicographic.{pointwise, same_text}
use Rattle.std.specs.List.{list_all, list_any}
use Rattle.std.proofs.Math.Seq.{drop-cons}
use Rattle.std.proofs.lemmas.Bool.Decides.{nat_tests}
use Rattle.std.proofs.lemmas.List.{take-append-drop, take_more, map-append}
use Rattle.task_model.specs.Terms.Text.{Text}
use Rattle.task_syntax.specs.Table.{NoneBegins}

abbrev pub descends : List Text → Bool
descends [] = true
descends (t ∷ ts) = list_all (λ u. nat_le (length u) (length t)) ts && descends ts

-- none of these is at hand
pub none_of : (text t rest : Text) (ts : List Text) → NoneBegins text ts → list_any (pointwise eqb t) ts ≡ true → text ≡ t ++ rest → ⊥
none_of text t rest [] none some e = cc
none_of text t rest (u ∷ us) none some e = go (pointwise eqb t u) refl (λ k. none_of text t rest us none.1 k e)
  where
    go : (b : Bool) → pointwise eqb t u ≡ b → (list_any (pointwise eqb t) us ≡ true → ⊥) → ⊥
    go true is later = none.0 rest (e ∙ ap (λ x. x ++ rest) (same_text t u (sym is)))
    go false is later = later (grind (arith, some, is))

no_longer : (t u : Text) (us : List Text) → list_all (λ v. nat_le (length v) (length t)) us ≡ true → list_any (pointwise eqb u) us ≡ true
    → length u ≤ length t
no_longer t u [] all some = cc
no_longer t u (v ∷ us) all some = go (pointwise eqb u v) refl (no_longer t u us (grind (arith, all)))
  where
    go : (b : Bool) → pointwise eqb u v ≡ b → (list_any (pointwise eqb u) us ≡ true → length u ≤ length t) → length u ≤ length t
    go true is later =
        let e : u ≡ v = same_text u v (sym is) in
        let here : nat_le (length v) (length t) ≡ true = grind (arith, all) in
        subst (λ x. length x ≤ length t) (sym e) (grind (arith, nat_tests, here))
    go false is later = later (grind (arith, some, is))

pub first_longest :
    (text first u rest : Text) (before after : List Text)
    → descends (before ++ first ∷ after) ≡ true
    → list_any (pointwise eqb u) (before ++ first ∷ after) ≡ true
    → NoneBegins text before
    → text ≡ u ++ rest
    → length u ≤ length first
first_longest text first u rest [] after sorted some none e = go (pointwise eqb u first) refl
  where
    go : (b : Bool) → pointwise eqb u first ≡ b → length u ≤ length first
    go true is = let same : u ≡ first = same_text u first (sym is) in rw same (omega arith)
    go false is = no_longer first u after (grind (arith, sorted)) (grind (arith, some, is))
first_longest text first u rest (t ∷ before) after sorted some none e = go (pointwise eqb u t) refl
    (λ k. first_longest text first u rest before after (grind (arith, sorted)) k none.1 e)
  where
    go : (b : Bool) → pointwise eqb u t ≡ b → (list_any (pointwise eqb u) (before ++ first ∷ after) ≡ true → length u ≤ length first)
        → length u ≤ length first
    go true is later = absurd (none.0 rest (e ∙ ap (λ x. x ++ rest) (same_text u t (sym is))))
    go false is later = later (grind (arith, some, is))

-- ---- the loop
module _ {A : Type 0} (f : A → Text) (xs : List A) (i : ℕ) (d : A) where
  pub split_here : i < length xs → map f xs ≡ map f (take i xs) ++ f (get_or xs i d) ∷ map f (drop (suc i) xs)
  split_here lt = ap (map f) (sym (take-append-drop i xs) ∙ ap (λ x. take i xs ++ x) (drop-cons xs i d lt))
      ∙ map-append f (take i xs) (get_or xs i d ∷ drop (suc i) xs)

none_push : (text : Text) (ts : List Text) (t : Text) → NoneBegins text ts → ((rest : Text) → text ≡ t ++ rest → ⊥)
    → NoneBegins text (ts ++ t ∷ [])
none_push text [] t none here = (here, tt)
none_push text (u ∷ ts) t none here = (none.0, none_push text ts t none.1 here)

pub none_more : {A : Type 0} (f : A → Text) (xs : List A) (i : ℕ) (d : A) (text : Text) → i < length xs
    → NoneBegins text (map f (take i xs)) → ((rest : Text) → text ≡ f (get_or xs i d) ++ rest → ⊥)
    → NoneBegins text (map f (take (i + 1) xs))
none_more f xs i d text lt none here =
    let e : map f (take (i + 1) xs) ≡ map f (take i xs) ++ f (get_or xs i d) ∷ [] = ap (map f) (take_more xs i d lt)
    ∙ map-append f (take i xs) (get_or xs i d ∷ []) in
    subst (NoneBegins text) (sym e) (none_push text (map f (take i xs)) (f (get_or xs i d)) none here)

-- what is said of an option's value, and of its lack
pub weaker : {A : Type 0} {P R : Type 0} {Q S : A → Type 0} (o : Option A) → (P → R) → ((x : A) → Q x → S x) → MatchOption o P Q
    → MatchOption o R S
weaker None f g h = f h
weaker (Some x) f g h = g x h
