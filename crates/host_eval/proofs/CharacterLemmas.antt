-- Characters, counted and cut.
use Rattle.std.proofs.Common.{◌≡◌, ℕ, suc, ◌+◌, ◌≤◌, Bool, true, false, List, [], ◌∷◌, ◌++◌, length, not, cond, take, drop, subst, ◌<◌, ◌-◌, zero, refl, sym, ap, ◌∙◌, arith}
use Rattle.std.proofs.lemmas.List.{append_assoc, drop-drop, length-take-le}
use Rattle.std.proofs.Math.Seq.{take-add}
use Rattle.std.specs.Prelude.{nat_le, nat_lt, slice_index}
use Rattle.std.proofs.lemmas.Bool.Decides.{nat_tests}
use Rattle.task_model.specs.Terms.Text.{Text}
use Rattle.task_model.specs.Syntax.Characters.{continues, joined, characters_of, fitting, cut_text}
use Rattle.host_eval.proofs.ListLemmas.{slice_is}
use Rattle.host_eval.specs.ValueWords.{starts}

joined-length : (byte : ℕ) (c : Text) (cs : List Text) → length (joined byte (c ∷ cs)) ≡ suc (length cs)
joined-length byte c cs = refl

-- a byte more in front of a text with a byte
some_joined : (byte : ℕ) (cs : List Text) (n : ℕ) → length cs ≡ suc n → length (joined byte cs) ≡ length cs
some_joined byte [] n e = cc
some_joined byte (c ∷ cs) n e = refl

-- a text with a byte has a character
first_character : (next : ℕ) (bytes : Text) → (n : ℕ) × (length (characters_of (next ∷ bytes)) ≡ suc n)
first_character next [] = (0, refl)
first_character next (byte ∷ bytes) = by_case (continues byte) (first_character byte bytes)
  where
    by_case : (b : Bool) → (n : ℕ) × (length (characters_of (byte ∷ bytes)) ≡ suc n) → (n : ℕ)
        × (length (cond b (joined next (characters_of (byte ∷ bytes))) ((next ∷ []) ∷ characters_of (byte ∷ bytes))) ≡ suc n)
    by_case true r = (r.0, some_joined next (characters_of (byte ∷ bytes)) r.0 r.1 ∙ r.1)
    by_case false r = (length (characters_of (byte ∷ bytes)), refl)

pub count_first : (byte : ℕ) (rest : Text) → starts rest ≡ true → length (characters_of (byte ∷ rest)) ≡ suc (length (characters_of rest))
count_first byte [] e = refl
count_first byte (next ∷ bytes) e = by_case (continues next) e
  where
    by_case : (b : Bool) → not b ≡ true
        → length (cond b (joined byte (characters_of (next ∷ bytes))) ((byte ∷ []) ∷ characters_of (next ∷ bytes)))
        ≡ suc (length (characters_of (next ∷ bytes)))
    by_case true e = cc
    by_case false e = refl

pub count_more : (byte : ℕ) (rest : Text) → starts rest ≡ false → length (characters_of (byte ∷ rest)) ≡ length (characters_of rest)
count_more byte [] e = cc
count_more byte (next ∷ bytes) e = by_case (continues next) e
  where
    by_case : (b : Bool) → not b ≡ false
        → length (cond b (joined byte (characters_of (next ∷ bytes))) ((byte ∷ []) ∷ characters_of (next ∷ bytes)))
        ≡ length (characters_of (next ∷ bytes))
    by_case true e = let f = first_character next bytes in some_joined byte (characters_of (next ∷ bytes)) f.0 f.1
    by_case false e = cc

-- ---- the first character
more_first : (byte : ℕ) (rest : Text) (k : ℕ) → starts rest ≡ false → characters_of rest ≡ take k rest ∷ characters_of (drop k rest)
    → characters_of (byte ∷ rest) ≡ (byte ∷ take k rest) ∷ characters_of (drop k rest)
more_first byte [] k e q = absurd (cc)
more_first byte (next ∷ bytes) k e q = by_case (continues next) e
  where
    by_case : (b : Bool) → not b ≡ false → cond b (joined byte (characters_of (next ∷ bytes))) ((byte ∷ []) ∷ characters_of (next ∷ bytes))
        ≡ (byte ∷ take k (next ∷ bytes)) ∷ characters_of (drop k (next ∷ bytes))
    by_case true e = ap (joined byte) q
    by_case false e = absurd (cc)

one_first : (byte : ℕ) (rest : Text) → starts rest ≡ true → characters_of (byte ∷ rest) ≡ (byte ∷ []) ∷ characters_of rest
one_first byte [] e = refl
one_first byte (next ∷ bytes) e = by_case (continues next) e
  where
    by_case : (b : Bool) → not b ≡ true → cond b (joined byte (characters_of (next ∷ bytes))) ((byte ∷ []) ∷ characters_of (next ∷ bytes))
        ≡ (byte ∷ []) ∷ characters_of (next ∷ bytes)
    by_case true e = absurd (cc)
    by_case false e = refl

abbrev rest_of : Text → Text
rest_of bytes = take (length bytes - 1) (drop 1 bytes)

pub first_more : (bytes : Text) (k : ℕ) → 0 < length bytes → starts (rest_of bytes) ≡ false → characters_of (rest_of bytes)
    ≡ take k (rest_of bytes) ∷ characters_of (drop k (rest_of bytes)) → characters_of bytes ≡ take (1 + k) bytes
    ∷ characters_of (drop (1 + k) bytes)
first_more [] k lt e q = absurd (omega arith)
first_more (byte ∷ rest) k lt e q =
    let is = slice_is 1 (byte ∷ rest) in
    let e' = subst (λ r. starts r ≡ false) is e in
    let q' = subst (λ r. characters_of r ≡ take k r ∷ characters_of (drop k r)) is q in
    let n : 1 + k ≡ suc k = omega arith in
    more_first byte rest k e' q' ∙ ap (λ j. take j (byte ∷ rest) ∷ characters_of (drop j (byte ∷ rest))) (sym n)

pub first_one : (bytes : Text) → 0 < length bytes → starts (rest_of bytes) ≡ true → characters_of bytes ≡ take 1 bytes
    ∷ characters_of (drop 1 bytes)
first_one [] lt e = absurd (omega arith)
first_one (byte ∷ rest) lt e = one_first byte rest (subst (λ r. starts r ≡ true) (slice_is 1 (byte ∷ rest)) e)

pub next_more : (bytes : Text) (k : ℕ) → starts (drop k (rest_of bytes)) ≡ true → starts (drop (1 + k) bytes) ≡ true
next_more [] k e = let n : 1 + k ≡ suc k = omega arith in rw n refl
next_more (byte ∷ rest) k e =
    let n : 1 + k ≡ suc k = omega arith in
    rw n (subst (λ r. starts (drop k r) ≡ true) (slice_is 1 (byte ∷ rest)) e)

-- one more character fits
pub fitting_step : (bytes : Text) (end size : ℕ) → end ≤ length bytes → end ≤ 65536 → size ≤ length (drop end bytes) → size ≤ 65536 - end
    → cut_text bytes ≡ take end bytes ++ fitting (65536 - end) (take size (drop end bytes) ∷ characters_of (drop size (drop end bytes)))
    → cut_text bytes ≡ take (end + size) bytes ++ fitting (65536 - (end + size)) (characters_of (drop (end + size) bytes))
fitting_step bytes end size le1 le2 le3 le4 e =
    let n : length (take size (drop end bytes)) ≡ size = length-take-le size (drop end bytes) le3 in
    let t : nat_le size (65536 - end) ≡ true = grind (arith, nat_tests) in
    let m : 65536 - end - size ≡ 65536 - (end + size) = omega arith in
    e
    ∙ ap (λ k. take end bytes ++ cond (nat_le k (65536 - end))
    (take size (drop end bytes) ++ fitting (65536 - end - k) (characters_of (drop size (drop end bytes)))) []) n
    ∙ ap (λ b. take end bytes
    ++ cond b (take size (drop end bytes) ++ fitting (65536 - end - size) (characters_of (drop size (drop end bytes)))) []) t
    ∙ ap (λ k. take end bytes ++ (take size (drop end bytes) ++ fitting k (characters_of (drop size (drop end bytes))))) m
    ∙ ap (λ l. take end bytes ++ (take size (drop end bytes) ++ fitting (65536 - (end + size)) (characters_of l)))
    (drop-drop size end bytes)
    ∙ sym (append_assoc (take end bytes) (take size (drop end bytes))
    (fitting (65536 - (end + size)) (characters_of (drop (end + size) bytes))))
    ∙ ap (λ l. l ++ fitting (65536 - (end + size)) (characters_of (drop (end + size) bytes))) (sym (take-add end size bytes))

starts_high : (byte : ℕ) → not (continues byte) ≡ true → 128 ≤ byte → 192 ≤ byte
starts_high byte e le =
    let t : nat_le 128 byte ≡ true = grind (arith, nat_tests) in
    let f = subst (λ b. not (cond b (nat_lt byte 192) false) ≡ true) t e in
    grind (arith, nat_tests)

-- where a character begins a text may be cut
pub boundary : (bytes : Text) (n : ℕ) → n < length bytes → starts (drop n bytes) ≡ true → 128 ≤ slice_index bytes n
    → 192 ≤ slice_index bytes n
boundary [] n lt e le = absurd (omega arith)
boundary (byte ∷ bytes) zero lt e le = starts_high byte e le
boundary (byte ∷ bytes) (suc n) lt e le = boundary bytes n (omega arith) e le
