-- Lists that stand in others.
use Rattle.std.proofs.Common.{◌≡◌, ◌≤◌, ◌<◌, ℕ, suc, ◌+◌, Some, List, [], ◌∷◌, ◌++◌, length, length-append, take, drop, refl, sym, ap, ◌∙◌, append_assoc, arith}
use Rattle.std.specs.Prelude.{slice_get}
use Rattle.kept_rows.specs.Follows.{StandsFrom}

module _ {A : Type 0} where
  pub stands_within : (all : List A) (from : ℕ) (part : List A) → StandsFrom all from part → from + length part ≤ length all
  stands_within all from part s =
      let long = ap length s.split in
      let one = length-append s.front (part ++ s.back) in
      let two = length-append part s.back in
      let at = s.at in
      omega (arith, long, one, two, at)

  take_front : (xs ys : List A) → take (length xs) (xs ++ ys) ≡ xs
  take_front [] ys = refl
  take_front (x ∷ xs) ys = ap (λ z. x ∷ z) (take_front xs ys)

  drop_front : (xs ys : List A) → drop (length xs) (xs ++ ys) ≡ ys
  drop_front [] ys = refl
  drop_front (x ∷ xs) ys = drop_front xs ys

  -- what stands there is taken from there
  pub stands_taken : (all : List A) (from count : ℕ) (part : List A) → StandsFrom all from part → length part ≡ count
      → take count (drop from all) ≡ part
  stands_taken all from count part s long =
      ap (λ n. take count (drop n all)) (sym s.at)
      ∙ ap (λ z. take count (drop (length s.front) z)) s.split
      ∙ ap (take count) (drop_front s.front (part ++ s.back))
      ∙ ap (λ n. take n (part ++ s.back)) (sym long)
      ∙ take_front part s.back

  -- behind the first one of it
  pub stands_rest : (all : List A) (from : ℕ) (x : A) (part : List A) → StandsFrom all from (x ∷ part) → StandsFrom all (suc from) part
  stands_rest all from x part s = record {
    front = s.front ++ x ∷ [];
    back = s.back;
    split = s.split ∙ sym (append_assoc s.front (x ∷ []) (part ++ s.back));
    at = let one = length-append s.front (x ∷ []) in let at = s.at in omega (arith, one, at);
  }

  -- its beginning, and what is behind that
  pub stands_first : (all : List A) (from : ℕ) (xs ys : List A) → StandsFrom all from (xs ++ ys) → StandsFrom all from xs
  stands_first all from xs ys s = record {
    front = s.front;
    back = ys ++ s.back;
    split = s.split ∙ ap (λ z. s.front ++ z) (append_assoc xs ys s.back);
    at = s.at;
  }

  pub stands_second : (all : List A) (from n : ℕ) (xs ys : List A) → StandsFrom all from (xs ++ ys) → length xs ≡ n
      → StandsFrom all (from + n) ys
  stands_second all from n xs ys s long = record {
    front = s.front ++ xs;
    back = s.back;
    split = s.split ∙ ap (λ z. s.front ++ z) (append_assoc xs ys s.back) ∙ sym (append_assoc s.front xs (ys ++ s.back));
    at = let one = length-append s.front xs in let at = s.at in omega (arith, one, at, long);
  }

  -- the whole list
  pub stands_whole : (all : List A) → StandsFrom all 0 all
  stands_whole all = record { front = []; back = []; split = sym (append_none all); at = refl }
    where
      append_none : (xs : List A) → xs ++ [] ≡ xs
      append_none [] = refl
      append_none (x ∷ xs) = ap (λ z. x ∷ z) (append_none xs)

  pub stands_same : (all : List A) (from : ℕ) (xs ys : List A) → xs ≡ ys → StandsFrom all from xs → StandsFrom all from ys
  stands_same all from xs ys e s = record {
    front = s.front;
    back = s.back;
    split = s.split ∙ ap (λ z. s.front ++ (z ++ s.back)) e;
    at = s.at;
  }

-- the first one, where there is one
pub first_of : {A : Type 0} (xs : List A) → 0 < length xs → (x : A) × (slice_get xs 0 ≡ Some x)
first_of [] some = absurd (omega (arith, some))
first_of (x ∷ xs) some = (x, refl)
