-- Lists in chunks.
use Rattle.std.proofs.Common.{◌≡◌, ℕ, suc, zero, ◌+◌, ◌-◌, ◌<◌, ◌≤◌, min, List, [], ◌∷◌, ◌++◌, length, take, drop, get_or, set, refl, sym, ap, ap₂, ◌∙◌, arith, append_assoc, append-nil, length-append, length-drop}
use Rattle.std.proofs.Math.Seq.{drop-append-add}
use Rattle.std.proofs.lemmas.List.{drop_all, drop_more, drop-append-le, drop-drop}
use Rattle.task_model.specs.Terms.Text.{Text}
use Rattle.task_model.specs.declared.widget.Face.{Face}
use Rattle.html_pages.specs.Fragments.{FragmentTerm, fragment_text, fragments_text, chunks_list, chunk_starts}

pub chunks_list_push : {A : Type 0} (xss : List (List A)) (c : List A) → chunks_list (xss ++ c ∷ []) ≡ chunks_list xss ++ c
chunks_list_push [] c = append-nil c
chunks_list_push (xs ∷ xss) c = ap (λ l. xs ++ l) (chunks_list_push xss c) ∙ sym (append_assoc xs (chunks_list xss) c)

-- the last list and c become one
pub chunks_list_merged : {A : Type 0} (xss : List (List A)) (i : ℕ) (both c d : List A) → i + 1 ≡ length xss → both ≡ get_or xss i d ++ c
    → chunks_list (set xss i both) ≡ chunks_list xss ++ c
chunks_list_merged [] i both c d n b = absurd (omega arith)
chunks_list_merged (x ∷ []) zero both c d n b = append-nil both ∙ b ∙ ap (λ l. l ++ c) (sym (append-nil x))
chunks_list_merged (x ∷ (y ∷ xs)) zero both c d n b = absurd (omega arith)
chunks_list_merged (x ∷ xs) (suc i) both c d n b =
    ap (λ l. x ++ l) (chunks_list_merged xs i both c d (omega arith) b) ∙ sym (append_assoc x (chunks_list xs) c)

-- ---- how many items stand before each list
pub starts_push : {A : Type 0} (n : ℕ) (xss : List (List A)) (c : List A)
    → chunk_starts n (xss ++ c ∷ []) ≡ chunk_starts n xss ++ (n + length (chunks_list xss)) ∷ []
starts_push n [] c = ap (λ k. k ∷ []) {x = n} {y = n + 0} (omega arith)
starts_push n (xs ∷ xss) c =
    let both = length-append xs (chunks_list xss) in
    ap (λ l. n ∷ l)
    (starts_push (n + length xs) xss c
    ∙ ap (λ k. chunk_starts (n + length xs) xss ++ k ∷ []) {x = (n + length xs) + length (chunks_list xss)}
    {y = n + length (xs ++ chunks_list xss)} (omega (arith, both)))

pub starts_merged : {A : Type 0} (n : ℕ) (xss : List (List A)) (i : ℕ) (both : List A) → i + 1 ≡ length xss
    → chunk_starts n (set xss i both) ≡ chunk_starts n xss
starts_merged n [] i both l = absurd (omega arith)
starts_merged n (x ∷ []) zero both l = refl
starts_merged n (x ∷ (y ∷ xs)) zero both l = absurd (omega arith)
starts_merged n (x ∷ xs) (suc i) both l = ap (λ l. n ∷ l) (starts_merged (n + length x) xs i both (omega arith))

pub starts_long : {A : Type 0} (n : ℕ) (xss : List (List A)) → length (chunk_starts n xss) ≡ length xss
starts_long n [] = refl
starts_long n (xs ∷ xss) = ap suc (starts_long (n + length xs) xss)

start_at : {A : Type 0} (n : ℕ) (xss : List (List A)) (i d : ℕ) → i < length xss
    → get_or (chunk_starts n xss) i d ≡ n + length (chunks_list (take i xss))
start_at n [] i d lt = absurd (omega arith)
start_at n (xs ∷ xss) zero d lt = omega arith
start_at n (xs ∷ xss) (suc i) d lt =
    let later = start_at (n + length xs) xss i d (omega arith) in
    let both = length-append xs (chunks_list (take i xss)) in
    omega (arith, later, both)

pub start_is : {A : Type 0} (xss : List (List A)) (starts : List ℕ) (i found : ℕ) → starts ≡ chunk_starts 0 xss → i < length xss
    → found ≡ get_or starts i found → found ≡ length (chunks_list (take i xss))
start_is xss starts i found is lt e =
    let at = e ∙ ap (λ ns. get_or ns i found) is ∙ start_at 0 xss i found lt in omega (arith, at)

-- what stands from a list on
pub rest_from : {A : Type 0} (xss : List (List A)) (i : ℕ)
    → chunks_list (drop i xss) ≡ drop (length (chunks_list (take i xss))) (chunks_list xss)
rest_from [] zero = refl
rest_from [] (suc i) = refl
rest_from (xs ∷ xss) zero = refl
rest_from (xs ∷ xss) (suc i) =
    rest_from xss i ∙ sym (drop-append-add xs (chunks_list xss) (length (chunks_list (take i xss))))
    ∙ ap (λ n. drop n (xs ++ chunks_list xss)) (sym (length-append xs (chunks_list (take i xss))))

pub within_from : {A : Type 0} (xss : List (List A)) (i : ℕ) → length (chunks_list (take i xss)) ≤ length (chunks_list xss)
within_from [] zero = omega arith
within_from [] (suc i) = omega arith
within_from (xs ∷ xss) zero = omega arith
within_from (xs ∷ xss) (suc i) =
    let later = within_from xss i in
    let first = length-append xs (chunks_list (take i xss)) in
    let all = length-append xs (chunks_list xss) in
    omega (arith, later, first, all)

-- what stands from a number on, of some lists and of what is behind them
pub all_from : {A : Type 0} (all last rest : List A) (from before : ℕ) → before ≤ from → from - before ≤ length all
    → rest ≡ drop (from - before) all → drop before (rest ++ last) ≡ drop from (all ++ last)
all_from all last rest from before le within is =
    ap (λ l. drop before (l ++ last)) is ∙ ap (drop before) (sym (drop-append-le (from - before) all last within))
    ∙ drop-drop before (from - before) (all ++ last)
    ∙ ap (λ n. drop n (all ++ last)) {x = from - before + before} {y = from} (omega arith)

pub all_long : {A : Type 0} (all last rest : List A) (from before : ℕ) → before ≤ from → from - before ≤ length all
    → rest ≡ drop (from - before) all → length (rest ++ last) + from ≡ length (all ++ last) + before
all_long all last rest from before le within is =
    let one = length-append rest last in
    let two = length-append all last in
    let three = ap length is ∙ length-drop (from - before) all in
    omega (arith, one, two, three)

-- so many items from a number on are some of c, and then some of what stands behind it
pub taken : {A : Type 0} (c r : List A) (skip left at many skipped more : ℕ) → at + skipped ≡ skip → many + more ≡ left
    → at + many ≤ length c → (at < length c → skipped ≡ 0) → (at + many < length c → more ≡ 0)
    → take left (drop skip (c ++ r)) ≡ take many (drop at c) ++ take more (drop skipped r)
taken [] r skip left zero zero skipped more s m h f g =
    let past : skip ≡ skipped = omega arith in
    let all : left ≡ more = omega arith in ap₂ (λ i j. take i (drop j r)) all past
taken [] r skip left (suc at) many skipped more s m h f g = absurd (omega arith)
taken [] r skip left zero (suc many) skipped more s m h f g = absurd (omega arith)
taken (x ∷ c) r zero left (suc at) many skipped more s m h f g = absurd (omega arith)
taken (x ∷ c) r (suc skip) left (suc at) many skipped more s m h f g =
    taken c r skip left at many skipped more (omega arith) m (omega arith) (λ lt. f (omega arith)) (λ lt. g (omega arith))
taken (x ∷ c) r (suc skip) left zero many skipped more s m h f g =
    let none : skipped ≡ 0 = f (omega arith) in absurd (omega arith)
taken (x ∷ c) r zero zero zero (suc many) skipped more s m h f g = absurd (omega arith)
taken (x ∷ c) r zero (suc left) zero (suc many) skipped more s m h f g =
    ap (λ l. x ∷ l)
    (taken c r zero left zero many skipped more s (omega arith) (omega arith) (λ lt. f (omega arith)) (λ lt. g (omega arith)))
taken (x ∷ c) r zero zero zero zero skipped more s m h f g =
    let none : 0 ≡ more = omega arith in ap (λ n. take n (drop skipped r)) none
taken (x ∷ c) r zero (suc left) zero zero skipped more s m h f g =
    let none : more ≡ 0 = g (omega arith) in absurd (omega arith)

pub texts_append : (face : Face) (fs gs : List FragmentTerm)
    → fragments_text face (fs ++ gs) ≡ fragments_text face fs ++ fragments_text face gs
texts_append face [] gs = refl
texts_append face (f ∷ fs) gs =
    ap (λ (l : Text). fragment_text face f ++ l) (texts_append face fs gs)
    ∙ sym (append_assoc (fragment_text face f) (fragments_text face fs) (fragments_text face gs))

-- the loop over chunks, one chunk on
pub next_taken : {A : Type 0} (xss : List (List A)) (last before now chunk all : List A) (i skip left at many : ℕ) → i < length xss
    → chunk ≡ get_or xss i chunk → at ≡ min skip (length chunk) → many ≡ min left (length chunk - at)
    → now ≡ before ++ take many (drop at chunk) → skip + left ≤ length (chunks_list (drop i xss) ++ last)
    → before ++ take left (drop skip (chunks_list (drop i xss) ++ last)) ≡ all
    → (skip - at + (left - many) ≤ length (chunks_list (drop (i + 1) xss) ++ last))
    × (now ++ take (left - many) (drop (skip - at) (chunks_list (drop (i + 1) xss) ++ last)) ≡ all)
next_taken xss last before now chunk all i skip left at many lt is a m n le e =
    let more : drop i xss ≡ chunk ∷ drop (i + 1) xss = drop_more xss i chunk lt ∙ ap (λ c. c ∷ drop (i + 1) xss) (sym is) in
    let rest = chunks_list (drop (i + 1) xss) ++ last in
    let whole : chunks_list (drop i xss) ++ last ≡ chunk ++ rest =
    ap (λ l. chunks_list l ++ last) more ∙ append_assoc chunk (chunks_list (drop (i + 1) xss)) last in
    let count : length (chunks_list (drop i xss) ++ last) ≡ length chunk + length rest =
    ap (λ l. length l) whole ∙ length-append chunk rest in
    let part = take many (drop at chunk) in
    let later = take (left - many) (drop (skip - at) rest) in
    let both : take left (drop skip (chunk ++ rest)) ≡ part ++ later =
    taken chunk rest skip left at many (skip - at) (left - many) (omega arith) (omega arith) (omega arith) (λ under. omega arith)
    (λ under. omega arith) in (
      omega arith,
      ap (λ l. l ++ later) n ∙ append_assoc before part later ∙ ap (λ l. before ++ l) (sym both)
          ∙ ap (λ l. before ++ take left (drop skip l)) (sym whole) ∙ e,
    )

pub next_texts : (face : Face) (xss : List (List FragmentTerm)) (i : ℕ) (chunk : List FragmentTerm) (before now all : Text) → i < length xss
    → chunk ≡ get_or xss i chunk → now ≡ before ++ fragments_text face chunk
    → before ++ fragments_text face (chunks_list (drop i xss)) ≡ all → now ++ fragments_text face (chunks_list (drop (i + 1) xss)) ≡ all
next_texts face xss i chunk before now all lt is n e =
    let later = chunks_list (drop (i + 1) xss) in
    let more : drop i xss ≡ chunk ∷ drop (i + 1) xss = drop_more xss i chunk lt ∙ ap (λ c. c ∷ drop (i + 1) xss) (sym is) in
    ap (λ (l : Text). l ++ fragments_text face later) n ∙ append_assoc before (fragments_text face chunk) (fragments_text face later)
    ∙ ap (λ (l : Text). before ++ l) (sym (texts_append face chunk later))
    ∙ ap (λ l. before ++ fragments_text face (chunks_list l)) (sym more) ∙ e

pub last_texts : (face : Face) (xss : List (List FragmentTerm)) (last list : List FragmentTerm) (i : ℕ) (first before now : Text)
    → length xss ≤ i → chunks_list xss ++ last ≡ list
    → before ++ fragments_text face (chunks_list (drop i xss)) ≡ first ++ fragments_text face (chunks_list xss)
    → now ≡ before ++ fragments_text face last → now ≡ first ++ fragments_text face list
last_texts face xss last list i first before now past is e n =
    let drawn : before ≡ first ++ fragments_text face (chunks_list xss) =
    sym (append-nil before) ∙ ap (λ l. before ++ fragments_text face (chunks_list l)) (sym (drop_all i xss past)) ∙ e in
    n ∙ ap (λ (l : Text). l ++ fragments_text face last) drawn
    ∙ append_assoc first (fragments_text face (chunks_list xss)) (fragments_text face last)
    ∙ ap (λ (l : Text). first ++ l) (sym (texts_append face (chunks_list xss) last) ∙ ap (λ fs. fragments_text face fs) is)
