-- A record is found again behind its length, and whatever is found was written so.
use Rattle.std.proofs.Common.{◌≡◌, ℕ, ◌<◌, ◌≤◌, List, ◌++◌, length, get_or, take, drop, refl, sym, ap, ◌∙◌, append_assoc, arith, inl, inr, take-append-drop, length-append}
use Rattle.std.specs.Int.{w32, from_be_bytes, to_be_bytes}
use Rattle.std.proofs.lemmas.Bool.{cases_lt}
use Rattle.std.proofs.lemmas.List.{take_at, drop_at, length-take, get_or-take, get_or_past}
use Rattle.std.proofs.lemmas.Nat.{be_bytes_4, from_be_bytes-to_be_bytes_4}
use Rattle.journal_bytes.specs.Records.{record_bytes, IsRecord}

abbrev pub AreBytes : List ℕ → Type 0
AreBytes bytes = (i : ℕ) → get_or bytes i 0 < 256

front_fits : (bytes : List ℕ) → AreBytes bytes → AreBytes (take 4 bytes)
front_fits bytes h i =
    elim (cases_lt i 4) [
      | inl lt ↦ rw (get_or-take 4 bytes i 0 lt) (h i)
      | inr le ↦ rw (get_or_past (take 4 bytes) i 0 (omega (arith, length-take 4 bytes))) (omega arith)
    ]

-- what stands behind the length is a record of that length
pub is_record : (bytes : List ℕ) (count : ℕ) → AreBytes bytes → 4 ≤ length bytes → count ≡ from_be_bytes w32 (take 4 bytes) → count ≤ length (drop 4 bytes)
    → bytes ≡ record_bytes (take count (drop 4 bytes)) ++ drop count (drop 4 bytes)
is_record bytes count fits long is le =
    let size : length (take count (drop 4 bytes)) ≡ count = omega (arith, length-take count (drop 4 bytes), le) in
    let front : to_be_bytes w32 count ≡ take 4 bytes = be_bytes_4 (take 4 bytes) count (omega (arith, length-take 4 bytes, long)) (front_fits bytes fits) is in
    sym (append_assoc (to_be_bytes w32 (length (take count (drop 4 bytes)))) (take count (drop 4 bytes)) (drop count (drop 4 bytes))
    ∙ (ap (λ (k : ℕ). to_be_bytes w32 k ++ (take count (drop 4 bytes) ++ drop count (drop 4 bytes))) size
    ∙ (ap (λ (l : List ℕ). l ++ (take count (drop 4 bytes) ++ drop count (drop 4 bytes))) front
    ∙ (ap (λ (l : List ℕ). take 4 bytes ++ l) (take-append-drop count (drop 4 bytes)) ∙ take-append-drop 4 bytes))))

pub record_split : (r rest : List ℕ) → record_bytes r ++ rest ≡ to_be_bytes w32 (length r) ++ (r ++ rest)
record_split r rest = append_assoc (to_be_bytes w32 (length r)) r rest

-- the length of a record that stands there
pub length_read : (bytes r rest : List ℕ) → length r ≤ 1048584 → bytes ≡ record_bytes r ++ rest → from_be_bytes w32 (take 4 bytes) ≡ length r
length_read bytes r rest small is =
    ap (λ (l : List ℕ). from_be_bytes w32 (take 4 l)) (is ∙ record_split r rest)
    ∙ (ap (λ (l : List ℕ). from_be_bytes w32 l) (take_at (to_be_bytes w32 (length r)) (r ++ rest) 4 refl)
    ∙ from_be_bytes-to_be_bytes_4 (length r) (omega (arith, small)))

-- what stands behind the length of a record
pub behind_length : (bytes r rest : List ℕ) → bytes ≡ record_bytes r ++ rest → drop 4 bytes ≡ r ++ rest
behind_length bytes r rest is =
    ap (λ (l : List ℕ). drop 4 l) (is ∙ record_split r rest) ∙ drop_at (to_be_bytes w32 (length r)) (r ++ rest) 4 refl

-- no record stands in fewer bytes than four
pub too_short : (bytes r rest : List ℕ) → length bytes < 4 → IsRecord bytes r rest → ⊥
too_short bytes r rest short is =
    absurd (omega (arith, short, ap length (is.1 ∙ record_split r rest), length-append (to_be_bytes w32 (length r)) (r ++ rest), four (length r)))
  where
    four : (n : ℕ) → length (to_be_bytes w32 n) ≡ 4
    four n = refl

-- nor behind a length that is too great
pub too_long : (bytes r rest : List ℕ) (count : ℕ) → count ≡ from_be_bytes w32 (take 4 bytes) → 1048584 < count → IsRecord bytes r rest → ⊥
too_long bytes r rest count is great has =
    absurd (omega (arith, is, great, has.0, length_read bytes r rest has.0 has.1))

-- nor where it is cut off
pub cut_off : (bytes r rest : List ℕ) (count : ℕ) → count ≡ from_be_bytes w32 (take 4 bytes) → length (drop 4 bytes) < count → IsRecord bytes r rest → ⊥
cut_off bytes r rest count is short has =
    absurd (omega (arith, is, short, length_read bytes r rest has.0 has.1, ap length (behind_length bytes r rest has.1), length-append r rest))
