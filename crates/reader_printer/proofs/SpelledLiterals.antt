-- Numbers and texts are spelled as tokens once more where they are printed.
use Rattle.std.proofs.Common.{◌≡◌, ℕ, zero, suc, ◌≤◌, [], ◌∷◌, ◌++◌, refl, sym, ap, ◌∙◌, subst, arith, append-nil}
use Rattle.std.specs.Fmt.{decimal}
use Rattle.std.specs.Str.{IsUtf8}
use Rattle.task_model.specs.Terms.Text.{Text}
use Rattle.task_model.specs.Terms.Token.{number_from, IsText}
use Rattle.task_model.specs.Terms.Value.{text_value}
use Rattle.task_model.specs.Syntax.Literal.{value_text, escaped_all}
use Rattle.literal_text.specs.Literals.{LiteralParse, literal, unit, bool, int, text, pair, empty, list, literal_bytes, value, spaces}
use Rattle.literal_text.proofs.PrintLemmas.{parse_of, decimal_is}
use Rattle.task_model.specs.Syntax.Lexemes.{number, quoted_text}
use Rattle.reader_printer.proofs.Placing.{IsSpelled}
use Rattle.reader_printer.proofs.TokenLines.{parts_utf8}

-- ---- numbers
pub number_again : (n : ℕ) → n ≤ 9223372036854775807 → IsSpelled (number (decimal n) 0) × (number_from 0 (decimal n) ≡ n)
number_again n le =
    let is = decimal_is n (omega (arith, le)) in
    let same : number_from 0 (decimal n) ≡ n = sym is.2 in
    (((is.0, is.1, refl), omega (arith, same, le)), same)

-- ---- texts
abbrev last_of : ℕ → Text → ℕ
last_of d [] = d
last_of d (c ∷ t) = last_of c t

last_append : (d : ℕ) (a : Text) (c : ℕ) (t : Text) → last_of d (a ++ c ∷ t) ≡ last_of c t
last_append d [] c t = refl
last_append d (x ∷ a) c t = last_append x a c t

last_spaces : (n : ℕ) → last_of 32 (spaces n) ≡ 32
last_spaces zero = refl
last_spaces (suc n) = last_spaces n

quote_ends : (a b : Text) (n : ℕ) → a ++ spaces (suc n) ≡ b ++ 34 ∷ [] → ⊥
quote_ends a b n e =
    let one = last_append 0 a 32 (spaces n) ∙ last_spaces n in
    let two = last_append 0 b 34 [] in
    let three = ap (last_of 0) e in
    let no : 32 ≡ 34 = sym one ∙ three ∙ two in
    absurd (omega (arith, no))

text_printed : (v : Text) → IsUtf8 v → IsText (value_text (text_value v)) v
text_printed v utf8 = let (d, are, is) = parse_of (text_value v) utf8 in go d are is
  where
    whole : (n : ℕ) (quoted : Text) → quoted ++ spaces n ≡ value_text (text_value v) → quoted ≡ value_text (text_value v)
    whole zero quoted e = sym (append-nil quoted) ∙ e
    whole (suc n) quoted e = absurd (quote_ends quoted (34 ∷ escaped_all v) n e)

    go : (d : LiteralParse literal) → literal_bytes d ≡ value_text (text_value v) → value d ≡ text_value v
        → IsText (value_text (text_value v)) v
    go (unit m n) are is = absurd cc
    go (bool b n) are is = absurd cc
    go (int negative digits k t n) are is = absurd cc
    go (text quoted content t n) are is =
        let same : content ≡ v = cc in subst (λ w. IsText (value_text (text_value v)) w) same
        (subst (λ q. IsText q content) (whole n quoted are) t)
    go (pair m a k b n) are is = absurd cc
    go (empty m n) are is = absurd cc
    go (list m a others) are is = absurd cc

pub text_again : (t v : Text) (p : ℕ) → IsSpelled (quoted_text t v p) → IsSpelled (quoted_text (value_text (text_value v)) v 0)
text_again t v p ((ps, is, are), within) = (text_printed v (parts_utf8 ps v are).1, within)
