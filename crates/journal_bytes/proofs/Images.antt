-- Bytes are an image of one list of records at most.
use Rattle.std.proofs.Common.{◌≡◌, ◌≢◌, ℕ, List, [], ◌∷◌, ◌++◌, length, take, drop, refl, sym, ap, ◌∙◌, append_assoc}
use Rattle.std.specs.List.{AllByRecursion}
use Rattle.std.proofs.lemmas.List.{take_at, drop_at}
use Rattle.journal_bytes.specs.Records.{record_bytes, open_records, FitsRecord}
use Rattle.journal_bytes.proofs.Lengths.{length_read, behind_length}

abbrev tail_of : List ℕ → List ℕ
tail_of [] = []
tail_of (x ∷ xs) = xs

abbrev pub first_of_list : List ℕ → ℕ
first_of_list [] = 0
first_of_list (x ∷ xs) = x

-- what two records and their rests have in common where the bytes are the same
pub same_record : (r s a b : List ℕ) → FitsRecord r → FitsRecord s → record_bytes r ++ a ≡ record_bytes s ++ b → (r ≡ s) × (a ≡ b)
same_record r s a b fr fs e =
    let size : length r ≡ length s = sym (length_read (record_bytes r ++ a) r a fr refl) ∙ length_read (record_bytes r ++ a) s b fs e in
    let rests : r ++ a ≡ s ++ b = sym (behind_length (record_bytes r ++ a) r a refl) ∙ behind_length (record_bytes r ++ a) s b e in (
      sym (take_at r a (length r) refl) ∙ (ap (λ (l : List ℕ). take (length r) l) rests ∙ take_at s b (length r) (sym size)),
      sym (drop_at r a (length r) refl) ∙ (ap (λ (l : List ℕ). drop (length r) l) rests ∙ drop_at s b (length r) (sym size)),
    )

pub one_list : (rs ss : List (List ℕ)) (g h : ℕ) (a b : List ℕ) → AllByRecursion FitsRecord rs → AllByRecursion FitsRecord ss → g ≢ 1 → h ≢ 1
    → open_records rs ++ g ∷ a ≡ open_records ss ++ h ∷ b → rs ≡ ss
one_list [] [] g h a b fr fs cg ch e = refl
one_list [] (s ∷ ss) g h a b fr fs cg ch e = absurd (cg (ap first_of_list e))
one_list (r ∷ rs) [] g h a b fr fs cg ch e = absurd (ch (sym (ap first_of_list e)))
one_list (r ∷ rs) (s ∷ ss) g h a b fr fs cg ch e =
    let behind : record_bytes r ++ (open_records rs ++ g ∷ a) ≡ record_bytes s ++ (open_records ss ++ h ∷ b) =
    sym (append_assoc (record_bytes r) (open_records rs) (g ∷ a)) ∙ (ap tail_of e ∙ append_assoc (record_bytes s) (open_records ss) (h ∷ b)) in
    let both = same_record r s (open_records rs ++ g ∷ a) (open_records ss ++ h ∷ b) fr.0 fs.0 behind in
    let rest = one_list rs ss g h a b fr.1 fs.1 cg ch both.1 in
    ap (λ (l : List ℕ). l ∷ rs) both.0 ∙ ap (λ (l : List (List ℕ)). s ∷ l) rest
