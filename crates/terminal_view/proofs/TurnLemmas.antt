-- Paths that are printed: a turn more, and a turn less.
use Rattle.std.proofs.Common.{◌≡◌, ℕ, zero, suc, ◌-◌, ◌<◌, ◌≤◌, List, [], ◌∷◌, ◌++◌, length, map, take, Result, Ok, Err, refl, sym, ap, ◌∙◌, arith}
use Rattle.std.specs.Prelude.{OnErr, OnOk, slice_index}
use Rattle.task_model.specs.Terms.Text.{Text}
use Rattle.task_model.specs.Showing.Page.{path_text, turns_text}
use Rattle.task_model.specs.declared.input.Turn.{Turn}
use Rattle.task_model.specs.declared.input.Turn.TheVariants as turns
use Rattle.terminal_view.specs.Turns.{letter_turn, turns_of}

-- ---- paths are read again
turns_back : (p : List Turn) → map letter_turn (turns_text p) ≡ p
turns_back [] = refl
turns_back (turns.First ∷ p) = ap (λ l. turns.First ∷ l) (turns_back p)
turns_back (turns.Second ∷ p) = ap (λ l. turns.Second ∷ l) (turns_back p)

-- what is the text of some path is that of its turns
pub printed : (bytes : Text) (p : List Turn) → bytes ≡ path_text p → bytes ≡ path_text (turns_of bytes)
printed bytes p e = e ∙ ap path_text (sym (ap turns_of e ∙ turns_back p))

-- and those are the path
pub read_back : (bytes : Text) (p : List Turn) → bytes ≡ path_text p → turns_of bytes ≡ p
read_back bytes p e = ap turns_of e ∙ turns_back p

-- ---- a turn more
turns_text-append : (p q : List Turn) → turns_text (p ++ q) ≡ turns_text p ++ turns_text q
turns_text-append [] q = refl
turns_text-append (turns.First ∷ p) q = ap (λ l. 70 ∷ l) (turns_text-append p q)
turns_text-append (turns.Second ∷ p) q = ap (λ l. 83 ∷ l) (turns_text-append p q)

gone_on : (bytes after : Text) (turn : Turn) → bytes ≡ path_text (turns_of bytes) → after ≡ bytes ++ turns_text (turn ∷ [])
    → after ≡ path_text (turns_of bytes ++ turn ∷ [])
gone_on bytes after turn is e =
    e ∙ ap (λ l. l ++ turns_text (turn ∷ [])) is ∙ ap (λ l. 46 ∷ l) (sym (turns_text-append (turns_of bytes) (turn ∷ [])))

pub printed_on : {X E : Type 0} (r : Result X E) (bytes after : Text) (turn : Turn) → bytes ≡ path_text (turns_of bytes)
    → OnOk r (after ≡ bytes ++ turns_text (turn ∷ [])) → OnErr r (after ≡ bytes) → after ≡ path_text (turns_of after)
printed_on (Ok x) bytes after turn is ok err = printed after (turns_of bytes ++ turn ∷ []) (gone_on bytes after turn is ok)
printed_on (Err e) bytes after turn is ok err = err ∙ is ∙ ap (λ b. path_text (turns_of b)) (sym err)

pub read_on : (bytes after : Text) (turn : Turn) → bytes ≡ path_text (turns_of bytes) → after ≡ bytes ++ turns_text (turn ∷ [])
    → turns_of after ≡ turns_of bytes ++ turn ∷ []
read_on bytes after turn is e = read_back after (turns_of bytes ++ turn ∷ []) (gone_on bytes after turn is e)

-- ---- a turn less
turns_text-length : (p : List Turn) → length (turns_text p) ≡ length p
turns_text-length [] = refl
turns_text-length (turns.First ∷ p) = ap suc (turns_text-length p)
turns_text-length (turns.Second ∷ p) = ap suc (turns_text-length p)

turns_text-take : (n : ℕ) (p : List Turn) → take n (turns_text p) ≡ turns_text (take n p)
turns_text-take zero p = refl
turns_text-take (suc n) [] = refl
turns_text-take (suc n) (turns.First ∷ p) = ap (λ l. 70 ∷ l) (turns_text-take n p)
turns_text-take (suc n) (turns.Second ∷ p) = ap (λ l. 83 ∷ l) (turns_text-take n p)

cut : (p : List Turn) (most : ℕ) → most ≡ length (path_text p) - 1 → 0 < length p
    → take most (path_text p) ≡ path_text (take (length p - 1) p)
cut [] most e some = absurd (omega (arith, some))
cut (t ∷ p) most e some =
    let long = turns_text-length (t ∷ p) in
    let all : most ≡ suc (length p) = omega (arith, e, long) in
    let fewer : suc (length p) - 1 ≡ length p = omega arith in
    ap (λ n. take n (path_text (t ∷ p))) all ∙ ap (λ l. 46 ∷ l) (turns_text-take (length p) (t ∷ p))
    ∙ ap (λ n. path_text (take n (t ∷ p))) (sym fewer)

pub gone_back : (bytes after : Text) (most : ℕ) → bytes ≡ path_text (turns_of bytes) → most ≡ length bytes - 1
    → 0 < length (turns_of bytes) → after ≡ take most bytes → after ≡ path_text (take (length (turns_of bytes) - 1) (turns_of bytes))
gone_back bytes after most is e some cuts =
    cuts ∙ ap (take most) is ∙ cut (turns_of bytes) most (e ∙ ap (λ b. length b - 1) is) some

-- ---- letters are single bytes
low_letters : (p : List Turn) (i : ℕ) → slice_index (turns_text p) i < 128
low_letters [] i = omega arith
low_letters (turns.First ∷ p) zero = omega arith
low_letters (turns.First ∷ p) (suc i) = low_letters p i
low_letters (turns.Second ∷ p) zero = omega arith
low_letters (turns.Second ∷ p) (suc i) = low_letters p i

low_path : (p : List Turn) (i : ℕ) → slice_index (path_text p) i < 128
low_path p zero = omega arith
low_path p (suc i) = low_letters p i

pub low_byte : (bytes : Text) (i : ℕ) → bytes ≡ path_text (turns_of bytes) → 128 ≤ slice_index bytes i → ⊥
low_byte bytes i is high =
    let low = low_path (turns_of bytes) i in
    let same : slice_index bytes i ≡ slice_index (path_text (turns_of bytes)) i = ap (λ b. slice_index b i) is in
    omega (arith, low, same, high)
