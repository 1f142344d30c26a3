-- Lists that grow at the end, by index.
use Rattle.std.proofs.Common.{◌≡◌, ℕ, zero, suc, ◌+◌, ◌<◌, List, [], ◌∷◌, ◌++◌, All, length, slice_index, slice_index_or, refl, sym, subst, arith, length-append}

index_front : {A : Type 0} (xs ys : List A) (k : ℕ) (d : A) → k < length xs → slice_index_or (xs ++ ys) k d ≡ slice_index_or xs k d
index_front [] ys k d less = absurd (omega arith)
index_front (x ∷ xs) ys zero d less = refl
index_front (x ∷ xs) ys (suc k) d less = index_front xs ys k d (omega arith)

pub all_front : {A : Type 0} (P : A → Type 0) (xs ys : List A) → All P (xs ++ ys) → All P xs
all_front P xs ys all k d less = subst P (index_front xs ys k d less) (all k d (omega (arith, length-append xs ys)))

pub numbered_push : (P : ℕ → ℕ → Type 0) (n : ℕ) (xs : List ℕ) (x : ℕ) → ((k : ℕ) → k < length xs → P (k + n) (slice_index xs k))
    → P (length xs + n) x → (k : ℕ) → k < length (xs ++ x ∷ []) → P (k + n) (slice_index (xs ++ x ∷ []) k)
numbered_push P n [] x each is zero less = is
numbered_push P n [] x each is (suc k) less = absurd (omega arith)
numbered_push P n (y ∷ xs) x each is zero less = each 0 (omega arith)
numbered_push P n (y ∷ xs) x each is (suc k) less =
    let shift : (j : ℕ) → suc j + n ≡ j + suc n = λ j. omega arith in
    let rest = numbered_push P (suc n) xs x (λ j l. subst (λ (m : ℕ). P m (slice_index xs j)) (shift j) (each (suc j) (omega arith)))
    (subst (λ (m : ℕ). P m x) (let m : length (y ∷ xs) + n ≡ length xs + suc n = omega arith in m) is) k (omega arith) in
    subst (λ (m : ℕ). P m (slice_index (xs ++ x ∷ []) k)) (sym (shift k)) rest

pub no_items : {A : Type 0} (xs : List A) → length xs ≡ 0 → xs ≡ []
no_items [] e = refl
no_items (x ∷ xs) e = absurd (omega arith)
