-- A sentence of words and numbers, written in two writes.
use Rattle.std.proofs.Common.{◌≡◌, ℕ, List, [], ◌∷◌, ◌++◌, Option, ap, ◌∙◌, subst}
use Rattle.std.specs.Io.KnownBytes.{Appends}
use Rattle.outer_io.specs.Sink.{Wrote}
use Rattle.outer_io.specs.declared.sink.Written.{Written}
use Rattle.outer_io.specs.declared.sink.Written.TheVariants.{Failed}
use Rattle.outer_io.proofs.Bytes.{wrote_then, wrote_part}

-- a word, a number, a word and a number were written, and then an LF
pub pair_then : (old mid new : Option (List ℕ)) (a x b y d e : List ℕ) (r : Written) → x ≡ d → y ≡ e → Appends old mid (a ++ x ++ (b ++ y))
    → Wrote mid new (10 ∷ []) r
    → Wrote old new (a ++ d ++ (b ++ e) ++ 10 ∷ []) r
pair_then old mid new a x b y d e r p q one two =
    let text : List ℕ = a ++ x ++ (b ++ y) in
    let same : text ≡ a ++ d ++ (b ++ e) = ap (λ z. a ++ z ++ (b ++ y)) p ∙ ap (λ z. a ++ d ++ (b ++ z)) q in
    subst (λ (z : List ℕ). Wrote old new (z ++ 10 ∷ []) r) same (wrote_then old mid new text (10 ∷ []) r one two)

-- of a word, a number, a word and a number the first part was written
pub pair_part : (old new : Option (List ℕ)) (a x b y d e : List ℕ) → x ≡ d → y ≡ e → Wrote old new (a ++ x ++ (b ++ y)) Failed
    → Wrote old new (a ++ d ++ (b ++ e) ++ 10 ∷ []) Failed
pair_part old new a x b y d e p q one =
    let text : List ℕ = a ++ x ++ (b ++ y) in
    let same : text ≡ a ++ d ++ (b ++ e) = ap (λ z. a ++ z ++ (b ++ y)) p ∙ ap (λ z. a ++ d ++ (b ++ z)) q in
    subst (λ (z : List ℕ). Wrote old new (z ++ 10 ∷ []) Failed) same (wrote_part old new text (10 ∷ []) one)

-- a word, a name, a word and a number were written, and then the rest
pub rest_then : (old mid new : Option (List ℕ)) (a x b y e more : List ℕ) (r : Written) → y ≡ e → Appends old mid (a ++ x ++ (b ++ y))
    → Wrote mid new more r
    → Wrote old new (a ++ x ++ (b ++ e) ++ more) r
rest_then old mid new a x b y e more r q one two =
    let text : List ℕ = a ++ x ++ (b ++ y) in
    let same : text ≡ a ++ x ++ (b ++ e) = ap (λ z. a ++ x ++ (b ++ z)) q in
    subst (λ (z : List ℕ). Wrote old new (z ++ more) r) same (wrote_then old mid new text more r one two)

-- of these the first part was written
pub rest_part : (old new : Option (List ℕ)) (a x b y e more : List ℕ) → y ≡ e → Wrote old new (a ++ x ++ (b ++ y)) Failed
    → Wrote old new (a ++ x ++ (b ++ e) ++ more) Failed
rest_part old new a x b y e more q one =
    let text : List ℕ = a ++ x ++ (b ++ y) in
    let same : text ≡ a ++ x ++ (b ++ e) = ap (λ z. a ++ x ++ (b ++ z)) q in
    subst (λ (z : List ℕ). Wrote old new (z ++ more) Failed) same (wrote_part old new text more one)

-- the same with another name of the number behind a word
pub as_number : (old new : Option (List ℕ)) (word y e : List ℕ) (r : Written) → y ≡ e → Wrote old new (word ++ y) r
    → Wrote old new (word ++ e) r
as_number old new word y e r q one = subst (λ (z : List ℕ). Wrote old new (word ++ z) r) q one
