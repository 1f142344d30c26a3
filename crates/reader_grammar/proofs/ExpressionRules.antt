-- The productions of expressions.
use Rattle.std.proofs.Common.{◌≡◌, ℕ, Bool, true, false, List, [], ◌∷◌, ◌++◌, refl, sym, ap, ◌∙◌, arith, append_assoc, ◌⊎◌, inl, inr}
use Rattle.task_model.specs.Terms.Text.{Text}
use Rattle.task_model.specs.declared.keyword.Keyword.TheVariants as words
use Rattle.task_model.specs.declared.symbol.Symbol.{Symbol}
use Rattle.task_model.specs.declared.symbol.Symbol.TheVariants as signs
use Rattle.task_model.specs.Syntax.Lexemes.{Lexeme, keyword, symbol, name, number, quoted_text}
use Rattle.task_model.specs.Syntax.Grammar.{Form, basic, expression, comparison, listed, operand, atom, series, arguments, Series, list, choice, either, sum, product, Operator, comma, internal, external, together, or, and, plus, minus, join, times, quot, rem, operator, Relation, equal, unequal, less, less_equal, greater, greater_equal, relation, Prefix, negative, not, fst, snd, len, prefix, truth, Parse, let_in, if_then, case_of, plain, uncompared, compared, unlisted, cons, prefixed, unprefixed, digits, quoted, constant, content, elements, nil, tokens}
use Rattle.task_model.specs.Syntax.Lexemes.{token_place}
use Rattle.reader_grammar.specs.Languages.{stops_at, rank, reach}
use Rattle.exact_reading.proofs.Symbols.{Sym, one, part, Values}
use Rattle.reader_grammar.proofs.GrammarLemmas.{grammar, head, starts_not, starts, a_word, a_sign, a_name}
use Rattle.reader_grammar.proofs.RuleLemmas.{Rule, tokens_of}
use Rattle.reader_grammar.proofs.SeriesLemmas.{Apart}
use Rattle.reader_grammar.proofs.PassingLemmas.{Passing}
use Rattle.reader_grammar.proofs.OptionalLemmas.{Optional}

-- ---- operators of series, by their tokens
told : (s : Series) → Operator s → Lexeme → Operator s
told sum o (symbol signs.Plus p) = plus
told sum o (symbol signs.Minus p) = minus
told sum o (symbol signs.Join p) = join
told product o (symbol signs.Star p) = times
told product o (keyword words.Quot p) = quot
told product o (keyword words.Rem p) = rem
told choice o (symbol signs.InternalChoice p) = internal
told choice o (symbol signs.ExternalChoice p) = external
told s o t = o

operator_told : {s : Series} (d o : Operator s) (p : ℕ) → (told s d (operator o p) ≡ o) × (token_place (operator o p) ≡ p)
unfolding told
operator_told (comma l) (comma m) p = (refl, refl)
operator_told d internal p = (refl, refl)
operator_told d external p = (refl, refl)
operator_told together together p = (refl, refl)
operator_told or or p = (refl, refl)
operator_told and and p = (refl, refl)
operator_told d plus p = (refl, refl)
operator_told d minus p = (refl, refl)
operator_told d join p = (refl, refl)
operator_told d times p = (refl, refl)
operator_told d quot p = (refl, refl)
operator_told d rem p = (refl, refl)

pub operators_apart : (s : Series) → Apart s
operators_apart s o q p n e =
    let first = operator_told o o p in
    let second = operator_told o q n in
    (sym first.0 ∙ ap (told s o) e ∙ second.0, sym first.1 ∙ ap token_place e ∙ second.1)

-- ---- operators before an operand
told_prefix : Lexeme → Prefix
told_prefix (keyword words.Not p) = not
told_prefix (keyword words.Fst p) = fst
told_prefix (keyword words.Snd p) = snd
told_prefix (keyword words.Len p) = len
told_prefix t = negative

prefix_told : (o : Prefix) (p : ℕ) → told_prefix (prefix o p) ≡ o
unfolding told_prefix
prefix_told negative p = refl
prefix_told not p = refl
prefix_told fst p = refl
prefix_told snd p = refl
prefix_told len p = refl

pub prefix_place : (o : Prefix) (p : ℕ) → token_place (prefix o p) ≡ p
prefix_place negative p = refl
prefix_place not p = refl
prefix_place fst p = refl
prefix_place snd p = refl
prefix_place len p = refl

no_atom_starts : (o : Prefix) (p : ℕ) → starts atom (prefix o p) ≡ false
no_atom_starts negative p = refl
no_atom_starts not p = refl
no_atom_starts fst p = refl
no_atom_starts snd p = refl
no_atom_starts len p = refl

abbrev pub prefix_symbols : List (Sym grammar)
prefix_symbols = part operand ∷ []

pub prefix_back : (o : Prefix) (p : ℕ) (d : Parse operand) → head d ≡ prefix o p
    → (vs : Values grammar prefix_symbols) × (prefixed o p vs.0 ≡ d)
prefix_back o p (prefixed q r a) e =
    let op_is : q ≡ o = sym (prefix_told q r) ∙ ap told_prefix e ∙ prefix_told o p in
    let place_is : r ≡ p = sym (prefix_place q r) ∙ ap token_place e ∙ prefix_place o p in
    ((a, tt), sym (ap (λ x. prefixed x r a) op_is ∙ ap (λ x. prefixed o x a) place_is))
prefix_back o p (unprefixed a) e = absurd (starts_not a (prefix o p) (no_atom_starts o p) e)

abbrev pub prefix_rule : (o : Prefix) (p : ℕ) → Rule operand 1 (prefix o p)
prefix_rule o p = record {
  some = tt;
  symbols = prefix_symbols;
  build = λ vs. prefixed o p vs.0;
  tokens_are = λ vs. refl;
  levels_are = λ vs. omega arith;
  back = prefix_back o p;
}

-- an operand that begins with none of them
pub atom_back : (ts : List Lexeme) → ((o : Prefix) (p : ℕ) (s : List Lexeme) → ts ≡ prefix o p ∷ s → ⊥)
    → (d : Parse operand) (s : List Lexeme) → ts ≡ head d ∷ s → (e : Parse atom) × (unprefixed e ≡ d)
atom_back ts none (prefixed o p a) s e = absurd (none o p s e)
atom_back ts none (unprefixed a) s e = (a, refl)

abbrev pub as_atom : (ts : List Lexeme) → ((o : Prefix) (p : ℕ) (s : List Lexeme) → ts ≡ prefix o p ∷ s → ⊥) → Passing operand atom ts
as_atom ts none = record {
  some = tt;
  pass = unprefixed;
  tokens_are = λ d. refl;
  levels_are = λ d. refl;
  within = omega arith;
  back = atom_back ts none;
}

-- ---- comparisons
told_relation : Symbol → Relation
told_relation signs.NotEqual = unequal
told_relation signs.Less = less
told_relation signs.LessEqual = less_equal
told_relation signs.Greater = greater
told_relation signs.GreaterEqual = greater_equal
told_relation s = equal

relation_told : (o : Relation) → told_relation (relation o) ≡ o
unfolding told_relation
relation_told equal = refl
relation_told unequal = refl
relation_told less = refl
relation_told less_equal = refl
relation_told greater = refl
relation_told greater_equal = refl

abbrev pub Related : Type 0
Related = Relation × ℕ

abbrev pub related : Related → Lexeme
related l = symbol (relation l.0) l.1

pub related_apart : (l m : Related) → related l ≡ related m → l ≡ m
related_apart l m e =
    let same : relation l.0 ≡ relation m.0 = cc in
    let place_is : l.1 ≡ m.1 = cc in
    ap (λ o. (o, l.1)) (sym (relation_told l.0) ∙ ap told_relation same ∙ relation_told m.0) ∙ ap (λ p. (m.0, p)) place_is

pub related_past : (l : Related) → stops_at (reach listed) (rank (related l)) ≡ true
related_past (equal, p) = refl
related_past (unequal, p) = refl
related_past (less, p) = refl
related_past (less_equal, p) = refl
related_past (greater, p) = refl
related_past (greater_equal, p) = refl

pub related_goes_on : (l : Related) → stops_at (reach comparison) (rank (related l)) ≡ false
related_goes_on (equal, p) = refl
related_goes_on (unequal, p) = refl
related_goes_on (less, p) = refl
related_goes_on (less_equal, p) = refl
related_goes_on (greater, p) = refl
related_goes_on (greater_equal, p) = refl

abbrev pub listed_symbols : List (Sym grammar)
listed_symbols = part listed ∷ []

pub comparison_cases : (d : Parse comparison)
    → ((e : Parse listed) × (uncompared e ≡ d)) ⊎
    ((e : Parse listed) × (l : Related) × (vs : Values grammar listed_symbols) × (compared e l.0 l.1 vs.0 ≡ d))
comparison_cases (uncompared a) = inl (a, refl)
comparison_cases (compared a o p b) = inr (a, (o, p), (b, tt), refl)

abbrev pub comparisons : Optional comparison listed
comparisons = record {
  Among = λ d. Unit {0};
  bare = uncompared;
  bare_among = λ d. tt;
  bare_tokens = λ d. refl;
  bare_levels = λ d. refl;
  Lead = Related;
  lead = related;
  symbols = λ l. listed_symbols;
  build = λ d l vs. compared d l.0 l.1 vs.0;
  build_among = λ d l vs. tt;
  tokens_are = λ d l vs. refl;
  levels_are = λ d l vs. omega arith;
  cases = λ d among. comparison_cases d;
  reaches = omega arith;
  past = related_past;
  goes_on = related_goes_on;
  apart = related_apart;
}

-- ---- one more element in front of a list
pub listed_cases : (d : Parse listed) → ((e : Parse (series sum)) × (unlisted e ≡ d)) ⊎
    ((e : Parse (series sum)) × (p : ℕ) × (vs : Values grammar listed_symbols) × (cons e p vs.0 ≡ d))
listed_cases (unlisted a) = inl (a, refl)
listed_cases (cons a p b) = inr (a, p, (b, tt), refl)

abbrev pub listings : Optional listed (series sum)
listings = record {
  Among = λ d. Unit {0};
  bare = unlisted;
  bare_among = λ d. tt;
  bare_tokens = λ d. refl;
  bare_levels = λ d. refl;
  Lead = ℕ;
  lead = λ p. symbol signs.Cons p;
  symbols = λ l. listed_symbols;
  build = λ d p vs. cons d p vs.0;
  build_among = λ d l vs. tt;
  tokens_are = λ d l vs. refl;
  levels_are = λ d l vs. omega arith;
  cases = λ d among. listed_cases d;
  reaches = omega arith;
  past = λ l. refl;
  goes_on = λ l. refl;
  apart = λ l m e. cc;
}

-- ---- the symbols behind `let`, `if` and `case`, of expressions and of tasks alike: the parts that differ are of this form
module _ (f : Form) where
  abbrev pub binding_symbols : List (Sym grammar)
  binding_symbols = one a_name ∷ one (a_sign signs.Define) ∷ part expression ∷ one (a_word words.In) ∷ part f ∷ []

  abbrev pub if_symbols : List (Sym grammar)
  if_symbols = part expression ∷ one (a_word words.Then) ∷ part f ∷ one (a_word words.Else) ∷ part f ∷ []

  pub if_tokens : (p : ℕ) (vs : Values grammar if_symbols)
      → (keyword words.If p ∷ tokens vs.0) ++ (keyword words.Then vs.1.0 ∷ tokens vs.1.1.0)
      ++ (keyword words.Else vs.1.1.1.0 ∷ tokens vs.1.1.1.1.0) ≡ keyword words.If p ∷ tokens_of if_symbols vs
  if_tokens p vs = append_assoc (keyword words.If p ∷ tokens vs.0) (keyword words.Then vs.1.0 ∷ tokens vs.1.1.0)
      (keyword words.Else vs.1.1.1.0 ∷ tokens vs.1.1.1.1.0)

  abbrev pub case_symbols : List (Sym grammar)
  case_symbols =
      part expression ∷ one (a_word words.Of) ∷ one (a_sign signs.OpenBracket) ∷ one (a_sign signs.CloseBracket)
      ∷ one (a_sign signs.Arrow) ∷ part f
      ∷ one (a_sign signs.Bar) ∷ one a_name ∷ one (a_sign signs.Cons) ∷ one a_name ∷ one (a_sign signs.Arrow) ∷ part f ∷ []

  -- the tokens from `of` to the bar, and those behind
  abbrev empty_tokens : Values grammar case_symbols → List Lexeme
  empty_tokens vs = keyword words.Of vs.1.0 ∷ symbol signs.OpenBracket vs.1.1.0 ∷ symbol signs.CloseBracket vs.1.1.1.0
      ∷ symbol signs.Arrow vs.1.1.1.1.0 ∷ tokens vs.1.1.1.1.1.0

  abbrev more_tokens : Values grammar case_symbols → List Lexeme
  more_tokens vs =
      let after = vs.1.1.1.1.1.1 in
      symbol signs.Bar after.0 ∷ name after.1.0.0 after.1.0.1 ∷ symbol signs.Cons after.1.1.0 ∷ name after.1.1.1.0.0 after.1.1.1.0.1
      ∷ symbol signs.Arrow after.1.1.1.1.0 ∷ tokens after.1.1.1.1.1.0

  pub case_tokens : (p : ℕ) (vs : Values grammar case_symbols)
      → (keyword words.Case p ∷ tokens vs.0) ++ empty_tokens vs ++ more_tokens vs ≡ keyword words.Case p ∷ tokens_of case_symbols vs
  case_tokens p vs = append_assoc (keyword words.Case p ∷ tokens vs.0) (empty_tokens vs) (more_tokens vs)

-- ---- let, if, case
abbrev pub let_build : ℕ → Values grammar (binding_symbols expression) → Parse expression
let_build p vs = let_in p vs.0.0 vs.0.1 vs.1.0 vs.1.1.0 vs.1.1.1.0 vs.1.1.1.1.0

pub let_back : (p : ℕ) (d : Parse expression) → head d ≡ keyword words.Let p
    → (vs : Values grammar (binding_symbols expression)) × (let_build p vs ≡ d)
let_back p (let_in q x r s e t d) h = let same : q ≡ p = cc in (((x, r), (s, (e, (t, (d, tt))))), ap (λ n. let_in n x r s e t d) (sym same))
let_back p (plain e) h = absurd (starts_not e (keyword words.Let p) refl h)
let_back p d h = absurd cc

abbrev pub let_rule : (p : ℕ) → Rule expression 1 (keyword words.Let p)
let_rule p = record {
  some = tt;
  symbols = binding_symbols expression;
  build = let_build p;
  tokens_are = λ vs. refl;
  levels_are = λ vs. omega arith;
  back = let_back p;
}

abbrev pub if_build : ℕ → Values grammar (if_symbols expression) → Parse expression
if_build p vs = if_then p vs.0 vs.1.0 vs.1.1.0 vs.1.1.1.0 vs.1.1.1.1.0

pub if_back : (p : ℕ) (d : Parse expression) → head d ≡ keyword words.If p
    → (vs : Values grammar (if_symbols expression)) × (if_build p vs ≡ d)
if_back p (if_then q e r a s b) h = let same : q ≡ p = cc in ((e, (r, (a, (s, (b, tt))))), ap (λ n. if_then n e r a s b) (sym same))
if_back p (plain e) h = absurd (starts_not e (keyword words.If p) refl h)
if_back p d h = absurd cc

abbrev pub if_rule : (p : ℕ) → Rule expression 1 (keyword words.If p)
if_rule p = record {
  some = tt;
  symbols = if_symbols expression;
  build = if_build p;
  tokens_are = if_tokens expression p;
  levels_are = λ vs. omega arith;
  back = if_back p;
}

abbrev pub case_build : ℕ → Values grammar (case_symbols expression) → Parse expression
case_build p vs =
    let after = vs.1.1.1.1.1.1 in
    case_of p vs.0 vs.1.0 vs.1.1.0 vs.1.1.1.0 vs.1.1.1.1.0 vs.1.1.1.1.1.0 after.0 after.1.0.0 after.1.0.1 after.1.1.0 after.1.1.1.0.0
    after.1.1.1.0.1 after.1.1.1.1.0 after.1.1.1.1.1.0

pub case_back : (p : ℕ) (d : Parse expression) → head d ≡ keyword words.Case p
    → (vs : Values grammar (case_symbols expression)) × (case_build p vs ≡ d)
case_back p (case_of o e q r s a d b x i j y k c u) h =
    let same : o ≡ p = cc in (
      (e, (q, (r, (s, (a, (d, (b, ((x, i), (j, ((y, k), (c, (u, tt)))))))))))),
      ap
          (λ n. case_of n e q r s a d b x i j y k c u) (sym same),
    )
case_back p (plain e) h = absurd (starts_not e (keyword words.Case p) refl h)
case_back p d h = absurd cc

abbrev pub case_rule : (p : ℕ) → Rule expression 1 (keyword words.Case p)
case_rule p = record {
  some = tt;
  symbols = case_symbols expression;
  build = case_build p;
  tokens_are = case_tokens expression p;
  levels_are = λ vs. omega arith;
  back = case_back p;
}

-- an expression that begins with none of these words
module _ (ts : List Lexeme) (no_let : (p : ℕ) (s : List Lexeme) → ts ≡ keyword words.Let p ∷ s → ⊥)
    (no_if : (p : ℕ) (s : List Lexeme) → ts ≡ keyword words.If p ∷ s → ⊥)
    (no_case : (p : ℕ) (s : List Lexeme) → ts ≡ keyword words.Case p ∷ s → ⊥) where
  pub plain_back : (d : Parse expression) (s : List Lexeme) → ts ≡ head d ∷ s → (e : Parse (series either)) × (plain e ≡ d)
  plain_back (let_in q x r i e t d) s h = absurd (no_let q s h)
  plain_back (if_then q e r a i b) s h = absurd (no_if q s h)
  plain_back (case_of o e q r i a d b x l j y k c u) s h = absurd (no_case o s h)
  plain_back (plain e) s h = (e, refl)

  abbrev pub as_series : Passing expression (series either) ts
  as_series = record { some = tt; pass = plain; tokens_are = λ d. refl; levels_are = λ d. refl; within = omega arith; back = plain_back }

-- ---- atoms of one or more tokens that differ in the first
pub number_back : (t : Text) (p : ℕ) (d : Parse atom) → head d ≡ number t p → (vs : Values grammar []) × (digits t p ≡ d)
number_back t p (digits u q) h = let e : u ≡ t = cc in let e' : q ≡ p = cc in (tt, sym (ap (λ x. digits x q) e ∙ ap (λ x. digits t x) e'))
number_back t p d h = absurd cc

abbrev pub number_rule : (t : Text) (p : ℕ) → Rule atom 1 (number t p)
number_rule t p = record {
  some = tt;
  symbols = [];
  build = λ vs. digits t p;
  tokens_are = λ vs. refl;
  levels_are = λ vs. refl;
  back = number_back t p;
}

pub quote_back : (t v : Text) (p : ℕ) (d : Parse atom) → head d ≡ quoted_text t v p → (vs : Values grammar []) × (quoted t v p ≡ d)
quote_back t v p (quoted u w q) h =
    let e : u ≡ t = cc in let e' : w ≡ v = cc in let e'' : q ≡ p = cc in
    (tt, sym (ap (λ x. quoted x w q) e ∙ ap (λ x. quoted t x q) e' ∙ ap (λ x. quoted t v x) e''))
quote_back t v p d h = absurd cc

abbrev pub quote_rule : (t v : Text) (p : ℕ) → Rule atom 1 (quoted_text t v p)
quote_rule t v p = record {
  some = tt;
  symbols = [];
  build = λ vs. quoted t v p;
  tokens_are = λ vs. refl;
  levels_are = λ vs. refl;
  back = quote_back t v p;
}

pub truth_back : (b : Bool) (p : ℕ) (d : Parse atom) → head d ≡ keyword (truth b) p → (vs : Values grammar []) × (constant b p ≡ d)
truth_back true p (constant true q) h = let e : q ≡ p = cc in (tt, ap (λ x. constant true x) (sym e))
truth_back false p (constant false q) h = let e : q ≡ p = cc in (tt, ap (λ x. constant false x) (sym e))
truth_back true p d h = absurd cc
truth_back false p d h = absurd cc

abbrev pub truth_rule : (b : Bool) (p : ℕ) → Rule atom 1 (keyword (truth b) p)
truth_rule b p = record {
  some = tt;
  symbols = [];
  build = λ vs. constant b p;
  tokens_are = λ vs. refl;
  levels_are = λ vs. refl;
  back = truth_back b p;
}

abbrev pub content_symbols : List (Sym grammar)
content_symbols = one a_name ∷ []

pub content_back : (p : ℕ) (d : Parse atom) → head d ≡ symbol signs.Bang p
    → (vs : Values grammar content_symbols) × (content p vs.0.0 vs.0.1 ≡ d)
content_back p (content q x r) h = let e : q ≡ p = cc in (((x, r), tt), ap (λ n. content n x r) (sym e))
content_back p d h = absurd cc

abbrev pub content_rule : (p : ℕ) → Rule atom 1 (symbol signs.Bang p)
content_rule p = record {
  some = tt;
  symbols = content_symbols;
  build = λ vs. content p vs.0.0 vs.0.1;
  tokens_are = λ vs. refl;
  levels_are = λ vs. refl;
  back = content_back p;
}

abbrev pub elements_symbols : List (Sym grammar)
elements_symbols = part (series (list arguments)) ∷ one (a_sign signs.CloseBracket) ∷ []

pub elements_back : (p : ℕ) (d : Parse atom) → head d ≡ symbol signs.OpenBracket p
    → (vs : Values grammar elements_symbols) × (elements p vs.0 vs.1.0 ≡ d)
elements_back p (elements q es r) h = let e : q ≡ p = cc in ((es, (r, tt)), ap (λ n. elements n es r) (sym e))
elements_back p d h = absurd cc

abbrev pub elements_rule : (p : ℕ) → Rule atom 1 (symbol signs.OpenBracket p)
elements_rule p = record {
  some = tt;
  symbols = elements_symbols;
  build = λ vs. elements p vs.0 vs.1.0;
  tokens_are = λ vs. refl;
  levels_are = λ vs. omega arith;
  back = elements_back p;
}

abbrev pub nil_symbols : List (Sym grammar)
nil_symbols = part basic ∷ []

pub nil_back : (p : ℕ) (d : Parse atom) → head d ≡ keyword words.Nil p → (vs : Values grammar nil_symbols) × (nil p vs.0 ≡ d)
nil_back p (nil q b) h = let e : q ≡ p = cc in ((b, tt), ap (λ n. nil n b) (sym e))
nil_back p (constant true q) h = absurd cc
nil_back p (constant false q) h = absurd cc
nil_back p d h = absurd cc

abbrev pub nil_rule : (p : ℕ) → Rule atom 1 (keyword words.Nil p)
nil_rule p = record {
  some = tt;
  symbols = nil_symbols;
  build = λ vs. nil p vs.0;
  tokens_are = λ vs. refl;
  levels_are = λ vs. omega arith;
  back = nil_back p;
}
