-- The productions of types.
use Rattle.std.proofs.Common.{◌≡◌, ℕ, suc, ◌+◌, max, List, [], ◌∷◌, length, Err, refl, sym, ap, ◌∙◌, arith, append_assoc}
use Rattle.task_model.specs.declared.keyword.Keyword.{Keyword}
use Rattle.task_model.specs.declared.keyword.Keyword.TheVariants as words
use Rattle.task_model.specs.declared.symbol.Symbol.TheVariants as signs
use Rattle.exact_reading.specs.declared.stop.ParseStop.TheVariants.{Fault}
use Rattle.exact_reading.specs.declared.stop.FaultKind.TheVariants.{Unexpected}
use Rattle.exact_reading.specs.Reading.{IsWithinLevels, Right}
use Rattle.exact_reading.proofs.Symbols.{Sym, one, part, Values}
use Rattle.task_model.specs.Syntax.Lexemes.{Lexeme, keyword, symbol}
use Rattle.task_model.specs.Syntax.Grammar.{basic, Scalar, unit, bool, int, text, scalar, Parse, scalar_type, pair_type, list_type, tokens, levels}
use Rattle.task_model.specs.Terms.Basic.{BasicTerm}
use Rattle.task_model.specs.Terms.Basic as types
use Rattle.reader_grammar.specs.Languages.{Of, EndsForm}
use Rattle.task_model.specs.Syntax.Meaning.{meaning}
use Rattle.reader_grammar.specs.Parts.{shown_type}
use Rattle.reader_grammar.proofs.GrammarLemmas.{grammar, head, a_sign}
use Rattle.reader_grammar.proofs.RuleLemmas.{Rule, no_parse}

unscalar : Keyword → Scalar
unscalar words.Bool = bool
unscalar words.Int = int
unscalar words.Text = text
unscalar k = unit

unscalar_scalar : (b : Scalar) → unscalar (scalar b) ≡ b
unfolding unscalar
unscalar_scalar unit = refl
unscalar_scalar bool = refl
unscalar_scalar int = refl
unscalar_scalar text = refl

same_scalar : (b c : Scalar) (p q : ℕ) → keyword (scalar b) p ≡ keyword (scalar c) q → b ≡ c
same_scalar b c p q e = let same : scalar b ≡ scalar c = cc in sym (unscalar_scalar b) ∙ ap unscalar same ∙ unscalar_scalar c

pub scalar_back : (b : Scalar) (p : ℕ) (d : Parse basic) → head d ≡ keyword (scalar b) p → (vs : Values grammar []) × (scalar_type b p ≡ d)
scalar_back b p (scalar_type c q) e =
    let same : q ≡ p = cc in (tt, sym (ap (λ x. scalar_type x q) (same_scalar c b q p e) ∙ ap (λ x. scalar_type b x) same))
scalar_back b p d e = absurd cc

abbrev pub scalar_rule : (b : Scalar) (p : ℕ) → Rule basic 1 (keyword (scalar b) p)
scalar_rule b p = record {
  some = tt;
  symbols = [];
  build = λ vs. scalar_type b p;
  tokens_are = λ vs. refl;
  levels_are = λ vs. refl;
  back = scalar_back b p;
}

abbrev pub pair_symbols : List (Sym grammar)
pair_symbols = part basic ∷ one (a_sign signs.Comma) ∷ part basic ∷ one (a_sign signs.Close) ∷ []

abbrev pub pair_build : ℕ → Values grammar pair_symbols → Parse basic
pair_build p vs = pair_type p vs.0 vs.1.0 vs.1.1.0 vs.1.1.1.0

pub pair_back : (p : ℕ) (d : Parse basic) → head d ≡ symbol signs.Open p → (vs : Values grammar pair_symbols) × (pair_build p vs ≡ d)
pair_back p (pair_type q a r b s) e = let same : q ≡ p = cc in ((a, (r, (b, (s, tt)))), ap (λ x. pair_type x a r b s) (sym same))
pair_back p d e = absurd cc

abbrev pub pair_rule : (p : ℕ) → Rule basic 1 (symbol signs.Open p)
pair_rule p = record {
  some = tt;
  symbols = pair_symbols;
  build = pair_build p;
  tokens_are = λ vs. append_assoc (symbol signs.Open p ∷ tokens vs.0) (symbol signs.Comma vs.1.0 ∷ tokens vs.1.1.0)
      (symbol signs.Close vs.1.1.1.0 ∷ []);
  levels_are = λ vs. omega arith;
  back = pair_back p;
}

abbrev pub list_symbols : List (Sym grammar)
list_symbols = part basic ∷ one (a_sign signs.CloseBracket) ∷ []

abbrev pub list_build : ℕ → Values grammar list_symbols → Parse basic
list_build p vs = list_type p vs.0 vs.1.0

pub list_back : (p : ℕ) (d : Parse basic) → head d ≡ symbol signs.OpenBracket p → (vs : Values grammar list_symbols) × (list_build p vs ≡ d)
list_back p (list_type q a r) e = let same : q ≡ p = cc in ((a, (r, tt)), ap (λ x. list_type x a r) (sym same))
list_back p d e = absurd cc

abbrev pub list_rule : (p : ℕ) → Rule basic 1 (symbol signs.OpenBracket p)
list_rule p = record {
  some = tt;
  symbols = list_symbols;
  build = list_build p;
  tokens_are = λ vs. refl;
  levels_are = λ vs. omega arith;
  back = list_back p;
}

-- ---- what the readers hand on
pub pair_shown : (x y : Parse basic) {b b' c c' : BasicTerm} {n m k : ℕ} → shown_type x ≡ (b, n) → b ≡ b' → shown_type y ≡ (c, m) → c ≡ c'
    → k ≡ 1 + max n m → ◌≡◌ {A = BasicTerm × ℕ} (types.pair_type (meaning x) (meaning y), suc (max (levels x) (levels y)))
    (types.pair_type b' c', k)
pair_shown x y {b = b} {b' = b'} {c = c} {c' = c'} {n = n} {m = m} {k = k} ex eb ey ec ek =
    let one : suc (max (levels x) (levels y)) ≡ k =
    let ln : levels x ≡ n = ap (λ q. q.1) ex in let lm : levels y ≡ m = ap (λ q. q.1) ey in omega (arith, ln, lm, ek) in
    ap (λ l. (types.pair_type (meaning x) (meaning y), l)) one ∙ ap (λ t. (types.pair_type t (meaning y), k)) (ap (λ q. q.0) ex ∙ eb)
    ∙ ap (λ t. (types.pair_type b' t, k)) (ap (λ q. q.0) ey ∙ ec)

pub list_shown : (x : Parse basic) {b b' : BasicTerm} {n k : ℕ} → shown_type x ≡ (b, n) → b ≡ b' → k ≡ 1 + n
    → ◌≡◌ {A = BasicTerm × ℕ} (types.list_type (meaning x), suc (levels x)) (types.list_type b', k)
list_shown x {b = b} {b' = b'} {n = n} {k = k} ex eb ek =
    let one : suc (levels x) ≡ k = let ln : levels x ≡ n = ap (λ q. q.1) ex in omega (arith, ln, ek) in
    ap (λ l. (types.list_type (meaning x), l)) one ∙ ap (λ t. (types.list_type t, k)) (ap (λ q. q.0) ex ∙ eb)

-- the tokens begin no type
module _ (ts : List Lexeme) (no_word : (b : Scalar) (p : ℕ) (s : List Lexeme) → ts ≡ keyword (scalar b) p ∷ s → ⊥)
    (no_pair : (p : ℕ) (s : List Lexeme) → ts ≡ symbol signs.Open p ∷ s → ⊥)
    (no_list : (p : ℕ) (s : List Lexeme) → ts ≡ symbol signs.OpenBracket p ∷ s → ⊥) where
  none : (d : Parse basic) (s : List Lexeme) → ts ≡ head d ∷ s → ⊥
  none (scalar_type b p) s e = no_word b p s e
  none (pair_type p a q b r) s e = no_pair p s e
  none (list_type p a q) s e = no_list p s e

  pub no_type : {room : ℕ} → Right (Of basic) (IsWithinLevels room) (EndsForm basic) ts (Err (Fault Unexpected (length ts)))
  no_type = no_parse tt ts none
