-- Characters, runs of them, and their bytes.
use Rattle.std.proofs.Common.{◌≡◌, ℕ, ◌+◌, ◌*◌, ◌-◌, ◌<◌, ◌≤◌, Bool, true, false, List, [], ◌∷◌, ◌++◌, length, take, drop, get_or, refl, sym, ap, ◌∙◌, subst, arith, append_assoc, append-nil, length-append}
use Rattle.std.specs.Prelude.{encode_utf8}
use Rattle.std.specs.Char.{is_ascii_digit}
use Rattle.std.specs.List.{list_all}
use Rattle.std.specs.Str.{encode_utf8_all, all_scalars}
use Rattle.std.proofs.Math.Seq.{drop-cons}
use Rattle.std.proofs.Math.Utf8.{scalar}
use Rattle.std.proofs.lemmas.Bool.Decides.{nat_tests}
use Rattle.std.proofs.lemmas.Str.{encode_ascii, encode_same, cons_from_encodes, encodes-append}
use Rattle.task_model.specs.Terms.Text.{Text}
use Rattle.task_model.specs.Terms.Token.{AreDigits, IsDigit, number_from}
use Rattle.task_syntax.specs.Runs.{BeginsWithCharacter, IsRun}

-- ---- one character
pub same_head : (a b : ℕ) (s t : Text) → a ∷ s ≡ b ∷ t → a ≡ b
same_head a b s t e = cc

pub same_tail : (a b : ℕ) (s t : Text) → a ∷ s ≡ b ∷ t → s ≡ t
same_tail a b s t e = cc

pub no_char : (c : ℕ) (rest : Text) → BeginsWithCharacter [] c rest → ⊥
no_char c rest e = let k = cons_from_encodes [] rest c e in let no = k.1 in absurd cc

pub begins_same : (t : Text) (c d : ℕ) (r s : Text) → BeginsWithCharacter t c r → BeginsWithCharacter t d s → (c ≡ d) × (r ≡ s)
begins_same t c d r s e f = encode_same c d r s (sym e ∙ f)

pub low_begins : (b : ℕ) (bs : Text) → b < 128 → BeginsWithCharacter (b ∷ bs) b bs
low_begins b bs lt = ap (λ x. x ++ bs) (sym (encode_ascii b lt))

pub begins_low : (t : Text) (c : ℕ) (r : Text) → c < 128 → BeginsWithCharacter t c r → t ≡ c ∷ r
begins_low t c r lt e = e ∙ ap (λ x. x ++ r) (encode_ascii c lt)

-- what begins with an ASCII byte begins with that character
pub begins_byte : (b : ℕ) (bs : Text) (c : ℕ) (r : Text) → b < 128 → BeginsWithCharacter (b ∷ bs) c r → (c ≡ b) × (r ≡ bs)
begins_byte b bs c r lt e = begins_same (b ∷ bs) c b r bs e (low_begins b bs lt)

pub begins_more : (t : Text) (c : ℕ) (v back : Text) → BeginsWithCharacter t c v → BeginsWithCharacter (t ++ back) c (v ++ back)
begins_more t c v back e = ap (λ x. x ++ back) e ∙ append_assoc (encode_utf8 c) v back

-- ---- several characters
pub encodes_prefix : (cs ds : List ℕ) (more : Text) → encode_utf8_all ds ≡ encode_utf8_all cs ++ more → (es : List ℕ) × (ds ≡ cs ++ es)
    × (encode_utf8_all es ≡ more)
encodes_prefix [] ds more e = (ds, refl, e)
encodes_prefix (c ∷ cs) ds more e =
    let (ds', is, later) = cons_from_encodes ds (encode_utf8_all cs ++ more) c (e ∙ append_assoc (encode_utf8 c) (encode_utf8_all cs) more)
    in
    let (es, is', e') = encodes_prefix cs ds' more later in
    (es, is ∙ ap (λ x. c ∷ x) is', e')

pub list_all-inside : (p : ℕ → Bool) (cs : List ℕ) (e : ℕ) (es : List ℕ) → list_all p (cs ++ e ∷ es) ≡ true → p e ≡ true
list_all-inside p [] e es all = grind (arith, all)
list_all-inside p (c ∷ cs) e es all = list_all-inside p cs e es (grind (arith, all))

-- a run that ends isn't the beginning of a longer one
pub run_longest :
    (p : ℕ → Bool) (cs ds : List ℕ) (more back rest : Text)
    → rest ≡ more ++ back
    → ((c : ℕ) (after : Text) → BeginsWithCharacter rest c after → p c ≡ false)
    → encode_utf8_all ds ≡ encode_utf8_all cs ++ more
    → list_all p ds ≡ true
    → more ≡ []
run_longest p cs ds more back rest is ends e all = let (es, ds_is, more_is) = encodes_prefix cs ds more e in go es ds_is more_is
  where
    go : (es : List ℕ) → ds ≡ cs ++ es → encode_utf8_all es ≡ more → more ≡ []
    go [] ds_is more_is = sym more_is
    go (c ∷ es) ds_is more_is =
        let yes : p c ≡ true = list_all-inside p cs c es (subst (λ x. list_all p x ≡ true) ds_is all) in
        let no : p c ≡ false = ends c (encode_utf8_all es ++ back)
        (is ∙ ap (λ x. x ++ back) (sym more_is) ∙ append_assoc (encode_utf8 c) (encode_utf8_all es) back) in
        absurd cc

-- ---- ASCII
pub digit-is : (b : ℕ) → IsDigit b → is_ascii_digit b ≡ true
digit-is b d = grind (arith, nat_tests, d)

pub is-digit : (b : ℕ) → is_ascii_digit b ≡ true → IsDigit b
is-digit b e = (grind (arith, nat_tests, e), grind (arith, nat_tests, e))

pub digits_bytes : (t : Text) → AreDigits t → (encode_utf8_all t ≡ t) × (list_all is_ascii_digit t ≡ true)
digits_bytes [] d = (refl, refl)
digits_bytes (b ∷ t) d =
    let later = digits_bytes t d.1 in
    (ap (λ x. x ++ encode_utf8_all t) (encode_ascii b (omega (arith, d.0))) ∙ ap (λ x. b ∷ x) later.0, rw (digit-is b d.0) later.1)

pub all_digits : (cs : List ℕ) → list_all is_ascii_digit cs ≡ true → (encode_utf8_all cs ≡ cs) × AreDigits cs
all_digits [] all = (refl, tt)
all_digits (c ∷ cs) all =
    let here : is_ascii_digit c ≡ true = grind (arith, all) in
    let later = all_digits cs (grind (arith, all)) in
    let d = is-digit c here in
    (ap (λ x. x ++ encode_utf8_all cs) (encode_ascii c (omega (arith, d))) ∙ ap (λ x. c ∷ x) later.0, (d, later.1))

-- ---- slices
pub take_front : (t rest : Text) → take (length (t ++ rest) - length rest) (t ++ rest) ≡ t
take_front t rest = let n : length (t ++ rest) - length rest ≡ length t = omega (arith, length-append t rest) in rw n (take-all t rest)
  where
    take-all : (t rest : Text) → take (length t) (t ++ rest) ≡ t
    take-all [] rest = refl
    take-all (b ∷ t) rest = ap (λ x. b ∷ x) (take-all t rest)

pub front_is : (text t rest : Text) → text ≡ t ++ rest → take (length text - length rest) text ≡ t
front_is text t rest e = subst (λ x. take (length x - length rest) x ≡ t) (sym e) (take_front t rest)

-- ---- numbers
-- more digits make the number no smaller
pub number_from-le : (t : List ℕ) (n : ℕ) → n ≤ number_from n t
number_from-le [] n = omega arith
number_from-le (b ∷ t) n = let more = number_from-le t (n * 10 + (b - 48)) in omega arith

pub number_from-drop : (s : List ℕ) (i n : ℕ) → i < length s → number_from n (drop i s) ≡ number_from (n * 10 + (get_or s i 0 - 48))
    (drop (i + 1) s)
number_from-drop s i n lt = grind (arith, drop-cons s i 0 lt)

-- ---- one character more of a run
abbrev pub RunSoFar : (ℕ → Bool) → Text → Text → Type 0
RunSoFar p text rest = (cs : List ℕ) × (text ≡ encode_utf8_all cs ++ rest) × (all_scalars cs ≡ true) × (list_all p cs ≡ true)

list_all-push : (p : ℕ → Bool) (cs : List ℕ) (c : ℕ) → list_all p cs ≡ true → p c ≡ true → list_all p (cs ++ c ∷ []) ≡ true
list_all-push p [] c all here = rw here refl
list_all-push p (d ∷ cs) c all here = let first : p d ≡ true = grind (arith, all) in
    rw first (list_all-push p cs c (grind (arith, all)) here)

all_scalars-push : (cs : List ℕ) (c : ℕ) → all_scalars cs ≡ true → all_scalars (c ∷ []) ≡ true → all_scalars (cs ++ c ∷ []) ≡ true
all_scalars-push [] c all here = here
all_scalars-push (d ∷ cs) c all here = let first : scalar d ≡ true = grind (arith, all) in
    rw first (all_scalars-push cs c (grind (arith, all)) here)

pub run_push :
    (p : ℕ → Bool) (text rest more : Text) (c : ℕ)
    → RunSoFar p text rest
    → BeginsWithCharacter rest c more
    → all_scalars (c ∷ []) ≡ true
    → p c ≡ true
    → RunSoFar p text more
run_push p text rest more c (cs, split, scalars, passes) b one here = (
  cs ++ c ∷ [],
  split ∙ ap (λ x. encode_utf8_all cs ++ x) (b ∙ ap (λ x. x ++ more) (sym (append-nil (encode_utf8 c))))
      ∙ sym (append_assoc (encode_utf8_all cs) (encode_utf8_all (c ∷ [])) more) ∙ ap (λ x. x ++ more) (sym (encodes-append cs (c ∷ []))),
  all_scalars-push cs c scalars one,
  list_all-push p cs c passes here,
)

pub run_shorter : (p : ℕ → Bool) (text rest : Text) (front : List ℕ) → IsRun p text front rest → length rest ≤ length text
run_shorter p text rest front run = omega (arith, ap length run.split, length-append (encode_utf8_all front) rest)
