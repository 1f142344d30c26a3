-- Lists within lists, and own entries in histories.
use Rattle.std.proofs.Common.{◌≡◌, ℕ, ◌≤◌, List, [], ◌∷◌, ◌++◌, length, refl, ap, sym, subst, ◌∙◌, arith, inl, inr, ⊎_elim}
use mathlib.Core.List.{IsPrefix}
use Rattle.task_model.specs.Terms.Input.{EntryTerm}
use Rattle.task_model.specs.Terms.Item.{ItemTerm, took}
use Rattle.task_model.specs.Running.State.{entries_of}
use Rattle.task_laws.proofs.EntryLemmas.{entries_behind, entries_own}
use Rattle.world_lock.specs.Within.{StandsWithin}

pub within_append : {A : Type 0} (xs ys zs : List A) → StandsWithin xs ys → StandsWithin xs (ys ++ zs)
within_append [] ys zs p = tt
within_append (x ∷ xs) [] zs p = absurd p
within_append (x ∷ xs) (y ∷ ys) zs p =
    ⊎_elim (λ (a : (x ≡ y) × StandsWithin xs ys). inl (a.0, within_append xs ys zs a.1))
    (λ (b : StandsWithin (x ∷ xs) ys). inr (within_append (x ∷ xs) ys zs b)) p

last_within : {A : Type 0} (ys : List A) (e : A) → StandsWithin (e ∷ []) (ys ++ e ∷ [])
last_within [] e = inl (refl, tt)
last_within (y ∷ ys) e = inr (last_within ys e)

pub within_push : {A : Type 0} (xs ys : List A) (e : A) → StandsWithin xs ys → StandsWithin (xs ++ e ∷ []) (ys ++ e ∷ [])
within_push [] ys e p = last_within ys e
within_push (x ∷ xs) [] e p = absurd p
within_push (x ∷ xs) (y ∷ ys) e p =
    ⊎_elim (λ (a : (x ≡ y) × StandsWithin xs ys). inl (a.0, within_push xs ys e a.1))
    (λ (b : StandsWithin (x ∷ xs) ys). inr (within_push (x ∷ xs) ys e b)) p

pub within_length : {A : Type 0} (xs ys : List A) → StandsWithin xs ys → length xs ≤ length ys
within_length [] ys p = omega arith
within_length (x ∷ xs) [] p = absurd p
within_length (x ∷ xs) (y ∷ ys) p =
    ⊎_elim (λ (a : (x ≡ y) × StandsWithin xs ys). (let le = within_length xs ys a.1 in omega arith))
    (λ (b : StandsWithin (x ∷ xs) ys). (let le = within_length (x ∷ xs) ys b in omega arith)) p

-- a list within one that is no longer is that list
pub within_whole : {A : Type 0} (xs ys : List A) → StandsWithin xs ys → length ys ≤ length xs → xs ≡ ys
within_whole [] [] p le = refl
within_whole [] (y ∷ ys) p le = absurd (omega arith)
within_whole (x ∷ xs) [] p le = absurd p
within_whole (x ∷ xs) (y ∷ ys) p le =
    ⊎_elim (λ (a : (x ≡ y) × StandsWithin xs ys). (let rest = within_whole xs ys a.1 (omega arith) in let head = a.0 in cc (head, rest)))
    (λ (b : StandsWithin (x ∷ xs) ys). (let less = within_length (x ∷ xs) ys b in absurd (omega arith))) p

-- what stands in a history stands in each later one
pub within_later : (own : List EntryTerm) (seen h : List ItemTerm) (seat : ℕ) → IsPrefix seen h → StandsWithin own (entries_of seen seat)
    → StandsWithin own (entries_of h seat)
within_later own seen h seat pre within =
    subst (λ (es : List EntryTerm). StandsWithin own es)
    (sym (entries_behind seen pre.0 seat) ∙ ap (λ (k : List ItemTerm). entries_of k seat) pre.1)
    (within_append own (entries_of seen seat) (entries_of pre.0 seat) within)

-- an own entry at the end of the history is one more of the own entries
pub within_own : (own : List EntryTerm) (h : List ItemTerm) (e : EntryTerm) → StandsWithin own (entries_of h e.seat)
    → StandsWithin (own ++ e ∷ []) (entries_of (h ++ took e ∷ []) e.seat)
within_own own h e within =
    subst (λ (es : List EntryTerm). StandsWithin (own ++ e ∷ []) es) (sym (entries_own h e))
    (within_push own (entries_of h e.seat) e within)
