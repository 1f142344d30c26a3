-- The operators that group to the left, by the token that stands first: it tells the level, or is none of them.
use Rattle.std.proofs.Common.{◌≡◌, ℕ, List, ◌∷◌, sym, ap, ◌∙◌, subst, refl}
use Rattle.task_model.specs.declared.keyword.Keyword.{Keyword}
use Rattle.task_model.specs.declared.keyword.Keyword.TheVariants as words
use Rattle.task_model.specs.declared.symbol.Symbol.{Symbol}
use Rattle.task_model.specs.declared.symbol.Symbol.TheVariants as signs
use Rattle.task_model.specs.declared.host.Op.{Op}
use Rattle.reader_grammar.specs.declared.lexeme.Lexeme.{Lexeme as Code}
use Rattle.reader_grammar.specs.declared.lexeme.Lexeme.TheVariants as codes
use Rattle.reader_grammar.specs.declared.lexeme.PositionedToken.{PositionedToken}
use Rattle.reader_grammar.specs.declared.series.Level.{Level}
use Rattle.reader_grammar.specs.declared.series.Level.TheVariants.{Either, Both, Sum, Product}
use Rattle.task_model.specs.Syntax.Lexemes.{Lexeme, keyword, symbol}
use Rattle.task_model.specs.Syntax.Grammar.{Operator, or, and, plus, minus, join, times, quot, rem, operator}
use Rattle.reader_grammar.specs.Parts.{lexeme_at, lexemes, series_of, IsOperation, NoOperator, Operated}

-- the tokens of the code, of which the first is known
pub first_is : {ts rest : List PositionedToken} {t : PositionedToken} {k : Code} → ts ≡ t ∷ rest → t.lexeme ≡ k
    → lexemes ts ≡ lexeme_at k t.from ∷ lexemes rest
first_is {rest = rest} {t = t} e is = ap (λ l. lexemes l) e ∙ ap (λ k. lexeme_at k t.from ∷ lexemes rest) is

-- an operator stands first, as it was found
pub operated : {ts rest : List PositionedToken} {t : PositionedToken} {k : Code} {l : Level} {op : Op} {found : Level × Op}
    → ts ≡ t ∷ rest → t.lexeme ≡ k → found ≡ (l, op) → (o : Operator (series_of l)) → lexeme_at k t.from ≡ operator o t.from
    → IsOperation (series_of l) o op → Operated (series_of found.0) (lexemes ts) found.1 (lexemes rest)
operated {ts = ts} {rest = rest} {t = t} e is found_is o at op_is =
    subst (λ f. Operated (series_of f.0) (lexemes ts) f.1 (lexemes rest)) (sym found_is)
    (o, t.from, first_is e is ∙ ap (λ x. x ∷ lexemes rest) at, op_is)

-- ---- the level of an operator
told : Lexeme → Level
told (symbol signs.Or p) = Either
told (symbol signs.And p) = Both
told (symbol signs.Star p) = Product
told (keyword k p) = Product
told t = Sum

operator_told : (l : Level) (o : Operator (series_of l)) (p : ℕ) → told (operator o p) ≡ l
unfolding told
operator_told Either or p = refl
operator_told Both and p = refl
operator_told Sum plus p = refl
operator_told Sum minus p = refl
operator_told Sum join p = refl
operator_told Product times p = refl
operator_told Product quot p = refl
operator_told Product rem p = refl

-- where an operator of one level stands first, none of another level does
pub no_other : {l m : Level} {ts rest : List Lexeme} (o : Operator (series_of l)) (p : ℕ) → ts ≡ operator o p ∷ rest → (l ≡ m → ⊥)
    → NoOperator (series_of m) ts
no_other {l = l} {m = m} o p e apart q n s h =
    let same : operator o p ≡ operator q n = cc in apart (sym (operator_told l o p) ∙ ap told same ∙ operator_told m q n)

-- ---- tokens that are no operator
abbrev IsNone : Lexeme → Type 0
IsNone (symbol s p) = (s ≡ signs.Or → ⊥) × (s ≡ signs.And → ⊥) × (s ≡ signs.Plus → ⊥) × (s ≡ signs.Minus → ⊥) × (s ≡ signs.Join → ⊥)
    × (s ≡ signs.Star → ⊥)
IsNone (keyword k p) = (k ≡ words.Quot → ⊥) × (k ≡ words.Rem → ⊥)
IsNone t = Unit {0}

no_operator_is : (l : Level) (o : Operator (series_of l)) (p : ℕ) → IsNone (operator o p) → ⊥
no_operator_is Either or p n = n.0 refl
no_operator_is Both and p n = n.1 refl
no_operator_is Sum plus p n = n.2 refl
no_operator_is Sum minus p n = n.3 refl
no_operator_is Sum join p n = n.4 refl
no_operator_is Product times p n = n.5 refl
no_operator_is Product quot p n = n.0 refl
no_operator_is Product rem p n = n.1 refl

pub no_level : {ts rest : List Lexeme} {t : Lexeme} → ts ≡ t ∷ rest → IsNone t → (l : Level) → NoOperator (series_of l) ts
no_level {t = t} e none l o p s h = let same : t ≡ operator o p = cc in no_operator_is l o p (subst IsNone same none)

pub others : (k : Code) (p : ℕ) → ((s : Symbol) → k ≡ codes.Symbol s → ⊥) → ((w : Keyword) → k ≡ codes.Keyword w → ⊥)
    → IsNone (lexeme_at k p)
others (codes.Symbol s) p no_sign no_word = absurd (no_sign s refl)
others (codes.Keyword w) p no_sign no_word = absurd (no_word w refl)
others k p no_sign no_word = tt
