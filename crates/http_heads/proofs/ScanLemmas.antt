-- The search for the end of a block, byte by byte.
use Rattle.std.proofs.Common.{◌≡◌, ◌≢◌, ℕ, zero, suc, ◌+◌, ◌<◌, ◌≤◌, Option, None, Some, option_map, [], ◌∷◌, ◌++◌, length, length-append, get_or, take, min, refl, sym, ap, ◌∙◌, arith, append-nil}
use Rattle.task_model.specs.Terms.Text.{Text}
use Rattle.http_heads.specs.declared.phase.Phase.{Phase}
use Rattle.http_heads.specs.declared.phase.Phase.TheVariants as phases
use Rattle.http_heads.specs.declared.head_scan.HeadScan.{HeadScan}
use Rattle.http_heads.specs.Blocks.{head_limit, end_of_block, head_length}
use Rattle.http_heads.specs.Phases.{rest_behind, HasLookedAt}

-- ---- lists
take_suc : (t : Text) (k : ℕ) (u : Text) → k < length t → take (suc k) t ++ u ≡ take k t ++ (get_or t k 0 ∷ u)
take_suc [] k u lt = absurd (omega arith)
take_suc (b ∷ t) zero u lt = refl
take_suc (b ∷ t) (suc k) u lt = ap (λ l. b ∷ l) (take_suc t k u (omega arith))

take_next : (t : Text) (k : ℕ) (u : Text) → k < length t → take (k + 1) t ++ u ≡ take k t ++ (get_or t k 0 ∷ u)
take_next t k u lt = let e : k + 1 ≡ suc k = omega arith in ap (λ n. take n t ++ u) e ∙ take_suc t k u lt

take_nil : (m : ℕ) → take {A = ℕ} m [] ≡ []
take_nil zero = refl
take_nil (suc m) = refl

pub take_part : (t : Text) (k m : ℕ) → k ≤ m → (u : Text) × (take m t ≡ take k t ++ u)
take_part t zero m le = (take m t, refl)
take_part [] (suc k) m le = ([], take_nil m)
take_part (b ∷ t) (suc k) zero le = absurd (omega arith)
take_part (b ∷ t) (suc k) (suc m) le = let (u, e) = take_part t k m (omega arith) in (u, ap (λ l. b ∷ l) e)

take_same : (t : Text) (k m : ℕ) → k ≤ m → (k < m → length t ≤ k) → take m t ≡ take k t
take_same [] k m le all = take_nil m ∙ sym (take_nil k)
take_same (b ∷ t) zero zero le all = refl
take_same (b ∷ t) zero (suc m) le all = absurd (let h : suc (length t) ≤ 0 = all (omega arith) in omega (arith, h))
take_same (b ∷ t) (suc k) zero le all = absurd (omega arith)
take_same (b ∷ t) (suc k) (suc m) le all =
    ap (λ l. b ∷ l) (take_same t k m (omega arith) (λ lt. let h : suc (length t) ≤ suc k = all (omega arith) in omega (arith, h)))

take_whole : (t : Text) → take (length t) t ≡ t
take_whole [] = refl
take_whole (b ∷ t) = ap (λ l. b ∷ l) (take_whole t)

take_most : (t : Text) (k m : ℕ) → k ≡ min (length t) m → take m t ≡ take k t
take_most t k m e = take_same t k m (omega arith) (λ lt. omega arith)

-- ---- options
mapped_next : (k : ℕ) (o : Option ℕ) → option_map (λ n. k + n) (option_map (λ n. suc n) o) ≡ option_map (λ n. k + 1 + n) o
mapped_next k None = refl
mapped_next k (Some n) = ap Some (omega arith)

-- ---- the search
pub looked_next : (scan : HeadScan) (bytes : Text) (phase : Phase) → HasLookedAt scan bytes → scan.looked < length bytes
    → scan.looked < head_limit
    → ((t : Text) → rest_behind scan.phase (get_or bytes scan.looked 0 ∷ t) ≡ option_map (λ n. suc n) (rest_behind phase t))
    → HasLookedAt (record { looked = scan.looked + 1; phase = phase }) bytes
looked_next scan bytes phase h lt short one = record {
  within = omega arith;
  short = omega arith;
  rest = λ t.
      ap end_of_block (take_next bytes scan.looked t lt)
      ∙ h.rest (get_or bytes scan.looked 0 ∷ t)
      ∙ ap (option_map (λ n. scan.looked + n)) (one t)
      ∙ mapped_next scan.looked (rest_behind phase t);
}

-- the block has ended
pub looked_to_end : (scan : HeadScan) (bytes : Text) → HasLookedAt scan bytes → scan.phase ≡ phases.Ended
    → Some scan.looked ≡ head_length bytes
looked_to_end scan bytes h ended =
    let (u, e) = take_part bytes scan.looked head_limit h.short in
    sym (ap end_of_block e ∙ h.rest u ∙ ap (λ p. option_map (λ n. scan.looked + n) (rest_behind p u)) ended ∙ ap Some (omega arith))

take_size : (k : ℕ) (t : Text) → length (take k t) ≤ k
take_size zero t = omega arith
take_size (suc k) [] = omega arith
take_size (suc k) (b ∷ t) = let le = take_size k t in omega (arith, le)

-- the bytes up to its end alone have it there
pub looked_front : (scan : HeadScan) (bytes : Text) → HasLookedAt scan bytes → scan.phase ≡ phases.Ended
    → (scan.looked ≤ length bytes) × (head_length (take scan.looked bytes) ≡ Some scan.looked)
looked_front scan bytes h ended =
    let front = take scan.looked bytes in
    let size = take_size scan.looked bytes in
    let all : take head_limit front ≡ front ++ [] =
    take_same front (length front) head_limit (omega (arith, size, h.short)) (λ lt. omega arith) ∙ take_whole front
    ∙ sym (append-nil front) in (
      h.within,
      ap end_of_block all ∙ h.rest []
          ∙ ap (λ p. option_map (λ n. scan.looked + n) (rest_behind p [])) ended ∙ ap Some (omega arith),
    )

-- nothing comes of no bytes
pub rest_of_none : (p : Phase) → p ≢ phases.Ended → rest_behind p [] ≡ None
rest_of_none phases.Blank differs = refl
rest_of_none phases.BlankReturn differs = refl
rest_of_none phases.Line differs = refl
rest_of_none phases.LineEnd differs = refl
rest_of_none phases.LineEndReturn differs = refl
rest_of_none phases.Ended differs = absurd (differs refl)

-- all was looked at, and the block hasn't ended
pub looked_in_vain : (scan : HeadScan) (bytes : Text) → HasLookedAt scan bytes → scan.phase ≢ phases.Ended
    → scan.looked ≡ min (length bytes) head_limit → None ≡ head_length bytes
looked_in_vain scan bytes h differs all =
    sym (ap end_of_block (take_most bytes scan.looked head_limit all ∙ sym (append-nil (take scan.looked bytes))) ∙ h.rest []
    ∙ ap (option_map (λ n. scan.looked + n)) (rest_of_none scan.phase differs))

-- ---- more bytes
take_before : (k : ℕ) (t m : Text) → k ≤ length t → take k (t ++ m) ≡ take k t
take_before zero t m le = refl
take_before (suc k) [] m le = absurd (omega arith)
take_before (suc k) (b ∷ t) m le = ap (λ l. b ∷ l) (take_before k t m (omega arith))

-- what was looked at stays so, whatever follows
pub looked_more : (scan : HeadScan) (bytes more : Text) → HasLookedAt scan bytes → HasLookedAt scan (bytes ++ more)
looked_more scan bytes more h = record {
  within = let size = length-append bytes more in omega (arith, size, h.within);
  short = h.short;
  rest = λ t. ap (λ l. end_of_block (l ++ t)) (take_before scan.looked bytes more h.within) ∙ h.rest t;
}
