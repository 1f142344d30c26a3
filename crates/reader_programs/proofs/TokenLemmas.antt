-- From the tokens of a source to those of the grammar.
use Rattle.std.proofs.Common.{◌≡◌, ℕ, ◌<◌, ◌≤◌, List, [], ◌∷◌, ◌++◌, length, refl, sym, ap, ◌∙◌, subst, arith, append_assoc, append-nil}
use Rattle.std.specs.Prelude.{ℤ, pos, slice_range}
use Rattle.std.specs.Str.{IsUtf8}
use Rattle.std.proofs.lemmas.List.{map-append}
use Rattle.task_model.specs.Terms.Text.{Text}
use Rattle.task_model.specs.Terms.Token.{TokenTerm, TokenKindTerm, name_token, keyword_token, number_token, text_token, symbol_token, number_from, Spells}
use Rattle.task_model.specs.declared.keyword.Keyword.{Keyword}
use Rattle.task_model.specs.declared.symbol.Symbol.{Symbol}
use Rattle.task_syntax.specs.declared.token.Token.{Token}
use Rattle.task_syntax.specs.declared.token.TokenKind.TheVariants as kinds
use Rattle.task_model.specs.Syntax.Spelling.{keyword_spelling, symbol_spelling}
use Rattle.task_syntax.specs.Tokens.{IsKind, IsToken, AreTokens, AreSpans}
use Rattle.reader_grammar.specs.Faults.{IsSpelled, AreSpelled}
use Rattle.task_model.specs.Syntax.Lexemes.{token_term, token_terms}
use Rattle.reader_grammar.specs.Parts as parts
use Rattle.reader_grammar.specs.Parts.{lexemes}
use Rattle.reader_grammar.specs.declared.lexeme.PositionedToken.{PositionedToken}

-- ---- one token
module _ (source : Text) (token : Token) where
  told : (kind : TokenKindTerm) (x : Text) (term : TokenTerm) → IsToken source token term → term.kind ≡ kind → term.spelling ≡ x
      → term ≡ record { kind = kind; from = token.from; spelling = x }
  told kind x term is k s =
      ap (λ z. record {
        kind = z;
        from = term.from;
        spelling = term.spelling;
      }) k ∙ ap (λ z. record {
        kind = kind;
        from = z;
        spelling = term.spelling;
      }) (sym is.from)
      ∙ ap (λ z. record { kind = kind; from = token.from; spelling = z }) s

  pub name_is : (x : Text) → token.kind ≡ kinds.Name → slice_range source token.from token.to ≡ x → (term : TokenTerm)
      → IsToken source token term → IsSpelled term → term ≡ record { kind = name_token; from = token.from; spelling = x }
  name_is x e s term is h = let k = subst (λ j. IsKind j term.kind term.spelling) e is.kind in
      told name_token x term is k (sym is.slice ∙ s)

  pub keyword_is : (w : Keyword) → token.kind ≡ kinds.Keyword w → (term : TokenTerm) → IsToken source token term → IsSpelled term
      → term ≡ record { kind = keyword_token; from = token.from; spelling = keyword_spelling w }
  keyword_is w e term is h = let k = subst (λ j. IsKind j term.kind term.spelling) e is.kind in
      told keyword_token (keyword_spelling w) term is k.0 k.1

  pub symbol_is : (w : Symbol) → token.kind ≡ kinds.Symbol w → (term : TokenTerm) → IsToken source token term → IsSpelled term
      → term ≡ record { kind = symbol_token; from = token.from; spelling = symbol_spelling w }
  symbol_is w e term is h = let k = subst (λ j. IsKind j term.kind term.spelling) e is.kind in
      told symbol_token (symbol_spelling w) term is k.0 k.1

  pub text_is : (content x : Text) → token.kind ≡ kinds.Text content → slice_range source token.from token.to ≡ x → (term : TokenTerm)
      → IsToken source token term → IsSpelled term → term ≡ record { kind = text_token content; from = token.from; spelling = x }
  text_is content x e s term is h = let k = subst (λ j. IsKind j term.kind term.spelling) e is.kind in
      told (text_token content) x term is k (sym is.slice ∙ s)

  pub number_is : (i : ℤ) (x : Text) → token.kind ≡ kinds.Number i → slice_range source token.from token.to ≡ x → (term : TokenTerm)
      → IsToken source token term → IsSpelled term → (i ≡ pos (number_from 0 x)) × (term ≡ record {
        kind = number_token (number_from 0 x);
        from = token.from;
        spelling = x;
      })
  number_is i x e s term is h =
      let (n, i_is, k) = subst (λ j. IsKind j term.kind term.spelling) e is.kind in
      let x_is : term.spelling ≡ x = sym is.slice ∙ s in
      let (some, digits, n_is) = subst (λ z. Spells term.spelling z) k h.spells in
      let value : n ≡ number_from 0 x = n_is ∙ ap (number_from 0) x_is in
      (i_is ∙ ap pos value, told (number_token (number_from 0 x)) x term is (k ∙ ap number_token value) x_is)

  -- a name is in UTF-8
  pub name_utf8 : token.kind ≡ kinds.Name → ((term : TokenTerm) × IsToken source token term × IsSpelled term)
      → IsUtf8 (slice_range source token.from token.to)
  name_utf8 e (term, is, h) =
      let k = subst (λ j. IsKind j term.kind term.spelling) e is.kind in
      let (w, _) = subst (λ z. Spells term.spelling z) k h.spells in
      subst IsUtf8 (sym is.slice) (w.first ∷ w.rest, (w.scalars, w.bytes))

-- ---- all tokens
spans_ordered : (from : ℕ) (ts : List Token) (to : ℕ) → AreSpans from ts to → from ≤ to
spans_ordered from [] to h = h
spans_ordered from (t ∷ ts) to h = let later = spans_ordered t.to ts to h.2 in omega (arith, h.0, h.1)

-- some tokens were kept, and the rest stands in front
pub record Going (source : Text) (tokens : List Token) (all : List PositionedToken) (rest : List Token) : Type 0 where
  pub on : (ts : List TokenTerm) → AreTokens source tokens ts → AreSpelled ts → (us : List TokenTerm) × AreTokens source rest us
      × AreSpelled us × (ts ≡ token_terms (lexemes all) ++ us)
  pub from : ℕ
  pub spans : AreSpans from rest (length source)

pub going_start : (source : Text) (tokens : List Token) → AreSpans 0 tokens (length source) → Going source tokens [] tokens
going_start source tokens spans = record { on = λ ts a s. (ts, a, s, refl); from = 0; spans = spans }

-- the first token of the rest
pub record First (source : Text) (token : Token) (more : List Token) (us : List TokenTerm) : Type 0 where
  pub term : TokenTerm
  pub later : List TokenTerm
  pub split : us ≡ term ∷ later
  pub is : IsToken source token term
  pub are : AreTokens source more later
  pub spelled : IsSpelled term
  pub all_spelled : AreSpelled later

first : (source : Text) (token : Token) (more : List Token) (us : List TokenTerm) → AreTokens source (token ∷ more) us → AreSpelled us
    → First source token more us
first source token more [] a s = absurd a
first source token more (u ∷ us) a s = record { term = u; later = us; split = refl; is = a.0; are = a.1; spelled = s.0; all_spelled = s.1 }

module _ (source : Text) (tokens : List Token) (all : List PositionedToken) (token : Token) (more : List Token)
    (g : Going source tokens all (token ∷ more)) where
  pub first_spelled : ((ts : List TokenTerm) × AreTokens source tokens ts × AreSpelled ts) → (term : TokenTerm) × IsToken source token term
      × IsSpelled term
  first_spelled (ts, a, s) =
      let (us, b, z, e) = g.on ts a s in
      let f = first source token more us b z in
      (f.term, f.is, f.spelled)

  pub first_some : token.from < token.to
  first_some = g.spans.1

  pub first_within : token.to ≤ length source
  first_within = spans_ordered token.to more (length source) g.spans.2

  pub going_next : (one : PositionedToken)
      → ((term : TokenTerm) → IsToken source token term → IsSpelled term → term ≡ token_term (parts.lexeme one))
      → Going source tokens (all ++ one ∷ []) more
  going_next one is = record {
    on = λ ts a s.
        let (us, b, z, e) = g.on ts a s in
        let f = first source token more us b z in
        let same = is f.term f.is f.spelled in (
          f.later,
          f.are,
          f.all_spelled,
          e ∙ ap (λ x. token_terms (lexemes all) ++ x) (f.split ∙ ap (λ t. t ∷ f.later) same)
              ∙ sym (append_assoc (token_terms (lexemes all)) (token_term (parts.lexeme one) ∷ []) f.later)
              ∙ ap (λ x. x ++ f.later)
              (sym (ap token_terms (map-append parts.lexeme all (one ∷ [])) ∙ map-append token_term (lexemes all)
              (parts.lexeme one ∷ []))),
        );
    from = token.to;
    spans = g.spans.2;
  }

at_end : (source : Text) (us : List TokenTerm) → AreTokens source [] us → us ≡ []
at_end source [] a = refl
at_end source (u ∷ us) a = absurd a

pub going_end : (source : Text) (tokens : List Token) (all : List PositionedToken) → Going source tokens all [] → (ts : List TokenTerm)
    → AreTokens source tokens ts → AreSpelled ts → ts ≡ token_terms (lexemes all)
going_end source tokens all g ts a s =
    let (us, b, z, e) = g.on ts a s in
    e ∙ ap (λ x. token_terms (lexemes all) ++ x) (at_end source us b) ∙ append-nil (token_terms (lexemes all))
