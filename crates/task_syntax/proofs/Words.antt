-- Keywords and words.
use Rattle.std.proofs.Common.{◌≡◌, ℕ, ◌<◌, Bool, true, false, List, [], ◌∷◌, map, refl, sym, ap, ◌∙◌, subst, arith, eqb}
use Rattle.std.specs.Prelude.{◌||◌, ◌==◌}
use Rattle.std.specs.Char.{is_ascii_alphabetic, is_ascii_alphanumeric}
use Rattle.std.specs.Cmp.Lexicographic.{pointwise, same_text}
use Rattle.std.specs.List.{list_all, list_any}
use Rattle.std.specs.Str.{encode_utf8_all, all_scalars}
use Rattle.std.proofs.Math.Utf8.{scalar, low_scalar}
use Rattle.std.proofs.lemmas.Bool.Decides.{nat_tests}
use Rattle.std.proofs.lemmas.Str.{encode_ascii}
use Rattle.unicode_ident.specs.Ident.{is_xid_continue}
use Rattle.unicode_ident.proofs.IdentLemmas.{is_xid_start-ascii, is_xid_continue-ascii, is_xid_start-is_xid_continue}
use Rattle.task_model.specs.Terms.Text.{Text}
use Rattle.task_model.specs.Terms.Token.{IsWord, AllContinue, keywords, is_keyword, is_symbol}
use Rattle.task_model.specs.declared.keyword.Keyword.{Keyword}
use Rattle.task_model.specs.declared.keyword.Keyword.TheVariants as words
use Rattle.task_model.specs.declared.symbol.Symbol.{Symbol}
use Rattle.task_model.specs.declared.symbol.Symbol.TheVariants as signs
use Rattle.task_model.specs.Syntax.Spelling.{keyword_spelling, symbol_spelling}

-- ---- texts in a list
-- a test that each of some texts passes
pub any_same : (p : Text → Bool) (t : Text) (ks : List Text) → list_all p ks ≡ true → list_any (pointwise eqb t) ks ≡ true → p t ≡ true
any_same p t [] all some = absurd cc
any_same p t (k ∷ ks) all some = go (pointwise eqb t k) refl (any_same p t ks (grind (arith, all)))
  where
    go : (b : Bool) → pointwise eqb t k ≡ b → (list_any (pointwise eqb t) ks ≡ true → p t ≡ true) → p t ≡ true
    go true e later = subst (λ x. p x ≡ true) (sym (same_text t k (sym e))) (grind (arith, all))
    go false e later = later (grind (arith, some, e))

pub any_spelled : {A : Type 0} (f : A → Text) (xs : List A) (t : Text) → list_any (pointwise eqb t) (map f xs) ≡ true → (x : A) × (t ≡ f x)
any_spelled f [] t some = absurd cc
any_spelled {A} f (x ∷ xs) t some = go (pointwise eqb t (f x)) refl (any_spelled f xs t)
  where
    go : (b : Bool) → pointwise eqb t (f x) ≡ b → (list_any (pointwise eqb t) (map f xs) ≡ true → (y : A) × (t ≡ f y)) → (y : A) × (t ≡ f y)
    go true e later = (x, same_text t (f x) (sym e))
    go false e later = later (grind (arith, some, e))

-- ---- keywords
abbrev every_keyword : List Keyword
every_keyword =
    words.Fun ∷ words.Task ∷ words.Unit ∷ words.Bool ∷ words.Int ∷ words.Text ∷ words.Ref ∷ words.Let ∷ words.In ∷ words.If ∷ words.Then
    ∷ words.Else ∷ words.Case ∷ words.Of
    ∷ words.New ∷ words.Edit ∷ words.Enter ∷ words.Share ∷ words.Fail ∷ words.True ∷ words.False ∷ words.Not ∷ words.Fst ∷ words.Snd
    ∷ words.Len ∷ words.Quot ∷ words.Rem ∷ words.Nil ∷ []

pub keyword_of : (t : Text) → is_keyword t ≡ true → (k : Keyword) × (t ≡ keyword_spelling k)
keyword_of t e = any_spelled keyword_spelling every_keyword t e

pub is_keyword-spelling : (k : Keyword) → is_keyword (keyword_spelling k) ≡ true
is_keyword-spelling words.Fun = refl
is_keyword-spelling words.Task = refl
is_keyword-spelling words.Unit = refl
is_keyword-spelling words.Bool = refl
is_keyword-spelling words.Int = refl
is_keyword-spelling words.Text = refl
is_keyword-spelling words.Ref = refl
is_keyword-spelling words.Let = refl
is_keyword-spelling words.In = refl
is_keyword-spelling words.If = refl
is_keyword-spelling words.Then = refl
is_keyword-spelling words.Else = refl
is_keyword-spelling words.Case = refl
is_keyword-spelling words.Of = refl
is_keyword-spelling words.New = refl
is_keyword-spelling words.Edit = refl
is_keyword-spelling words.Enter = refl
is_keyword-spelling words.Share = refl
is_keyword-spelling words.Fail = refl
is_keyword-spelling words.True = refl
is_keyword-spelling words.False = refl
is_keyword-spelling words.Not = refl
is_keyword-spelling words.Fst = refl
is_keyword-spelling words.Snd = refl
is_keyword-spelling words.Len = refl
is_keyword-spelling words.Quot = refl
is_keyword-spelling words.Rem = refl
is_keyword-spelling words.Nil = refl

-- ---- symbols
abbrev every_symbol : List Symbol
every_symbol =
    signs.Open ∷ signs.Close ∷ signs.OpenBracket ∷ signs.CloseBracket ∷ signs.Comma ∷ signs.Colon ∷ signs.Assign ∷ signs.Cons
    ∷ signs.Semicolon ∷ signs.Dot ∷ signs.Define ∷ signs.Equal ∷ signs.NotEqual ∷ signs.Bang ∷ signs.Less ∷ signs.LessEqual
    ∷ signs.Greater ∷ signs.GreaterEqual ∷ signs.Plus ∷ signs.Join ∷ signs.Minus ∷ signs.Arrow ∷ signs.Star ∷ signs.Or ∷ signs.Bar
    ∷ signs.And ∷ signs.InternalStep ∷ signs.UserStep ∷ signs.Pair ∷ signs.InternalChoice ∷ signs.ExternalChoice ∷ []

pub symbol_of : (t : Text) → is_symbol t ≡ true → (s : Symbol) × (t ≡ symbol_spelling s)
symbol_of t e = any_spelled symbol_spelling every_symbol t e

pub is_symbol-spelling : (s : Symbol) → is_symbol (symbol_spelling s) ≡ true
is_symbol-spelling signs.Open = refl
is_symbol-spelling signs.Close = refl
is_symbol-spelling signs.OpenBracket = refl
is_symbol-spelling signs.CloseBracket = refl
is_symbol-spelling signs.Comma = refl
is_symbol-spelling signs.Colon = refl
is_symbol-spelling signs.Assign = refl
is_symbol-spelling signs.Cons = refl
is_symbol-spelling signs.Semicolon = refl
is_symbol-spelling signs.Dot = refl
is_symbol-spelling signs.Define = refl
is_symbol-spelling signs.Equal = refl
is_symbol-spelling signs.NotEqual = refl
is_symbol-spelling signs.Bang = refl
is_symbol-spelling signs.Less = refl
is_symbol-spelling signs.LessEqual = refl
is_symbol-spelling signs.Greater = refl
is_symbol-spelling signs.GreaterEqual = refl
is_symbol-spelling signs.Plus = refl
is_symbol-spelling signs.Join = refl
is_symbol-spelling signs.Minus = refl
is_symbol-spelling signs.Arrow = refl
is_symbol-spelling signs.Star = refl
is_symbol-spelling signs.Or = refl
is_symbol-spelling signs.Bar = refl
is_symbol-spelling signs.And = refl
is_symbol-spelling signs.InternalStep = refl
is_symbol-spelling signs.UserStep = refl
is_symbol-spelling signs.Pair = refl
is_symbol-spelling signs.InternalChoice = refl
is_symbol-spelling signs.ExternalChoice = refl

-- ---- words
abbrev pub is_word_byte : ℕ → Bool
is_word_byte b = is_ascii_alphanumeric b || (b == 95)

-- letters, digits and `_` that begin with a letter are a word
ascii_bytes : (cs : List ℕ) → list_all is_word_byte cs ≡ true → (all_scalars cs ≡ true) × (encode_utf8_all cs ≡ cs) × AllContinue cs
ascii_bytes [] all = (refl, refl, tt)
ascii_bytes (c ∷ cs) all =
    let here : is_word_byte c ≡ true = grind (arith, all) in
    let later = ascii_bytes cs (grind (arith, all)) in
    let low : c < 128 = grind (arith, nat_tests, here) in
    let one : scalar c ≡ true = low_scalar c (omega (arith, low)) in
    (rw one later.0, rw (encode_ascii c low) (ap (λ l. c ∷ l) later.1), (is_xid_continue-ascii c low ∙ here, later.2))

ascii_word : (c : ℕ) (v : Text) → is_ascii_alphabetic c ≡ true → list_all is_word_byte v ≡ true → IsWord (c ∷ v)
ascii_word c v letter all =
    let here : is_word_byte c ≡ true = grind (arith, nat_tests, letter) in
    let low : c < 128 = grind (arith, nat_tests, letter) in
    let are = ascii_bytes (c ∷ v) (rw here all) in
    record { first = c; rest = v; scalars = are.0; bytes = are.1; starts = is_xid_start-ascii c low ∙ letter; continues = are.2.1 }

abbrev is_plain_word : Text → Bool
is_plain_word [] = false
is_plain_word (c ∷ v) = list_all (λ b. b) (is_ascii_alphabetic c ∷ list_all is_word_byte v ∷ [])

-- a keyword is spelled as a word
pub keyword_word : (t : Text) → is_keyword t ≡ true → IsWord t
keyword_word t e = go t (any_same is_plain_word t keywords refl e)
  where
    go : (t : Text) → is_plain_word t ≡ true → IsWord t
    go [] bad = absurd cc
    go (c ∷ v) good = ascii_word c v (grind (arith, good)) (grind (arith, good))

AllContinue-all : (cs : List ℕ) → AllContinue cs → list_all is_xid_continue cs ≡ true
AllContinue-all [] h = refl
AllContinue-all (c ∷ cs) h = rw h.0 (AllContinue-all cs h.1)

pub all-AllContinue : (cs : List ℕ) → list_all is_xid_continue cs ≡ true → AllContinue cs
all-AllContinue [] h = tt
all-AllContinue (c ∷ cs) h = (grind (arith, h), all-AllContinue cs (grind (arith, h)))

-- the characters of a word all continue one
pub word_all : (t : Text) (w : IsWord t) → list_all is_xid_continue (w.first ∷ w.rest) ≡ true
word_all t w = rw (is_xid_start-is_xid_continue w.first w.starts) (AllContinue-all w.rest w.continues)
