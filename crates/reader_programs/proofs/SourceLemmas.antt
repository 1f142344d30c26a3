-- The tokens of the grammar and those of a source: the same, and faults in them too.
use Rattle.std.proofs.Common.{◌≡◌, ◌≢◌, ℕ, ◌+◌, ◌<◌, ◌≤◌, List, [], ◌∷◌, ◌++◌, length, length-append, map, refl, sym, ap, ◌∙◌, subst, arith, eqb, append_assoc}
use Rattle.std.specs.Prelude.{if◌then◌else◌}
use Rattle.std.specs.Cmp.Lexicographic.{pointwise}
use Rattle.std.proofs.lemmas.List.{map-append, length-map}
use Rattle.task_model.specs.Terms.Text.{Text}
use Rattle.task_model.specs.Terms.Token.{TokenTerm, text_token, Piece, blank, comment, lexeme, bytes_of, AreRight, tokens_from, HasTokens}
use Rattle.task_syntax.proofs.Classes.{token_some}
use Rattle.task_model.specs.declared.keyword.Keyword.{Keyword}
use Rattle.task_model.specs.declared.keyword.Keyword.TheVariants as words
use Rattle.task_model.specs.declared.symbol.Symbol.{Symbol}
use Rattle.task_model.specs.declared.symbol.Symbol.TheVariants as signs
use Rattle.task_model.specs.Syntax.Spelling.{keyword_spelling, symbol_spelling}
use Rattle.exact_reading.specs.declared.stop.FaultKind.{FaultKind}
use Rattle.exact_reading.specs.declared.stop.FaultKind.TheVariants.{Unexpected, TooNested}
use Rattle.exact_reading.specs.Reading.{IsWithinLevels, IsViablePrefix, Always}
use Rattle.exact_reading.specs.Whole.{IsFault, IsFirstFault}
use Rattle.task_model.specs.Syntax.Lexemes.{Lexeme, keyword, symbol, name, number, quoted_text, token_term, token_terms}
use Rattle.task_model.specs.Syntax.Grammar.{program, no_definitions, tokens, levels}
use Rattle.task_model.specs.Syntax.Meaning.{program_of}
use Rattle.reader_grammar.specs.Languages.{Of}
use Rattle.reader_grammar.specs.Faults.{AreSpelled, IsProgram}
use Rattle.reader_programs.proofs.Respelled.{respelled, tokens_respelled, levels_respelled}
use Rattle.reader_programs.proofs.Spelled.{kept_name, kept_number, kept_quote, kept, all_kept, all_kept_spelled}

-- ---- a token by what the source has of it
every_keyword : List Keyword
every_keyword = words.Fun ∷ words.Task ∷ words.Unit ∷ words.Bool ∷ words.Int ∷ words.Text ∷ words.Ref ∷ words.Let ∷ words.In ∷ words.If
    ∷ words.Then ∷ words.Else ∷ words.Case ∷ words.Of ∷ words.New ∷ words.Edit ∷ words.Enter ∷ words.Share ∷ words.Fail ∷ words.True
    ∷ words.False ∷ words.Not ∷ words.Fst ∷ words.Snd ∷ words.Len ∷ words.Quot ∷ words.Rem ∷ words.Nil ∷ []

every_symbol : List Symbol
every_symbol = signs.Open ∷ signs.Close ∷ signs.OpenBracket ∷ signs.CloseBracket ∷ signs.Comma ∷ signs.Colon ∷ signs.Assign ∷ signs.Cons
    ∷ signs.Semicolon ∷ signs.Dot ∷ signs.Define ∷ signs.Equal ∷ signs.NotEqual ∷ signs.Bang ∷ signs.Less ∷ signs.LessEqual ∷ signs.Greater
    ∷ signs.GreaterEqual ∷ signs.Plus ∷ signs.Join ∷ signs.Minus ∷ signs.Arrow ∷ signs.Star ∷ signs.Or ∷ signs.Bar ∷ signs.And
    ∷ signs.InternalStep ∷ signs.UserStep ∷ signs.Pair ∷ signs.InternalChoice ∷ signs.ExternalChoice ∷ []

told_keyword : List Keyword → Text → Keyword
told_keyword [] t = words.Fun
told_keyword (k ∷ ks) t = if pointwise eqb (keyword_spelling k) t then k else told_keyword ks t

told_symbol : List Symbol → Text → Symbol
told_symbol [] t = signs.Open
told_symbol (k ∷ ks) t = if pointwise eqb (symbol_spelling k) t then k else told_symbol ks t

keyword_told : (k : Keyword) → told_keyword every_keyword (keyword_spelling k) ≡ k
unfolding told_keyword every_keyword
keyword_told words.Fun = refl
keyword_told words.Task = refl
keyword_told words.Unit = refl
keyword_told words.Bool = refl
keyword_told words.Int = refl
keyword_told words.Text = refl
keyword_told words.Ref = refl
keyword_told words.Let = refl
keyword_told words.In = refl
keyword_told words.If = refl
keyword_told words.Then = refl
keyword_told words.Else = refl
keyword_told words.Case = refl
keyword_told words.Of = refl
keyword_told words.New = refl
keyword_told words.Edit = refl
keyword_told words.Enter = refl
keyword_told words.Share = refl
keyword_told words.Fail = refl
keyword_told words.True = refl
keyword_told words.False = refl
keyword_told words.Not = refl
keyword_told words.Fst = refl
keyword_told words.Snd = refl
keyword_told words.Len = refl
keyword_told words.Quot = refl
keyword_told words.Rem = refl
keyword_told words.Nil = refl

symbol_told : (s : Symbol) → told_symbol every_symbol (symbol_spelling s) ≡ s
unfolding told_symbol every_symbol
symbol_told signs.Open = refl
symbol_told signs.Close = refl
symbol_told signs.OpenBracket = refl
symbol_told signs.CloseBracket = refl
symbol_told signs.Comma = refl
symbol_told signs.Colon = refl
symbol_told signs.Assign = refl
symbol_told signs.Cons = refl
symbol_told signs.Semicolon = refl
symbol_told signs.Dot = refl
symbol_told signs.Define = refl
symbol_told signs.Equal = refl
symbol_told signs.NotEqual = refl
symbol_told signs.Bang = refl
symbol_told signs.Less = refl
symbol_told signs.LessEqual = refl
symbol_told signs.Greater = refl
symbol_told signs.GreaterEqual = refl
symbol_told signs.Plus = refl
symbol_told signs.Join = refl
symbol_told signs.Minus = refl
symbol_told signs.Arrow = refl
symbol_told signs.Star = refl
symbol_told signs.Or = refl
symbol_told signs.Bar = refl
symbol_told signs.And = refl
symbol_told signs.InternalStep = refl
symbol_told signs.UserStep = refl
symbol_told signs.Pair = refl
symbol_told signs.InternalChoice = refl
symbol_told signs.ExternalChoice = refl

one_token : (t u : Lexeme) → token_term t ≡ token_term u → t ≡ u
one_token (keyword k p) (keyword j q) e =
    let same : keyword_spelling k ≡ keyword_spelling j = ap (λ x. x.spelling) e in
    let k_is : k ≡ j = sym (keyword_told k) ∙ ap (told_keyword every_keyword) same ∙ keyword_told j in
    ap (λ x. keyword x p) k_is ∙ ap (λ x. keyword j x) (ap (λ x. x.from) e)
one_token (symbol k p) (symbol j q) e =
    let same : symbol_spelling k ≡ symbol_spelling j = ap (λ x. x.spelling) e in
    let k_is : k ≡ j = sym (symbol_told k) ∙ ap (told_symbol every_symbol) same ∙ symbol_told j in
    ap (λ x. symbol x p) k_is ∙ ap (λ x. symbol j x) (ap (λ x. x.from) e)
one_token (name x p) (name y q) e = ap (λ z. name z p) (ap (λ v. v.spelling) e) ∙ ap (λ z. name y z) (ap (λ v. v.from) e)
one_token (number x p) (number y q) e = ap (λ z. number z p) (ap (λ v. v.spelling) e) ∙ ap (λ z. number y z) (ap (λ v. v.from) e)
one_token (quoted_text s v p) (quoted_text r u q) e =
    let kinds : text_token v ≡ text_token u = ap (λ x. x.kind) e in
    let v_is : v ≡ u = cc in
    ap (λ z. quoted_text z v p) (ap (λ x. x.spelling) e) ∙ ap (λ z. quoted_text r z p) v_is ∙ ap (λ z. quoted_text r u z)
    (ap (λ x. x.from) e)
one_token t u e = let kinds = ap (λ x. x.kind) e in absurd cc

-- tokens that begin as others do
pub split_terms : (ls us : List Lexeme) (w : List TokenTerm) → token_terms ls ≡ token_terms us ++ w → (v : List Lexeme) × (ls ≡ us ++ v)
    × (token_terms v ≡ w)
split_terms ls [] w e = (ls, refl, e)
split_terms [] (u ∷ us) w e = absurd cc
split_terms (l ∷ ls) (u ∷ us) w e =
    let head_is : token_term l ≡ token_term u = cc in
    let rest_is : token_terms ls ≡ token_terms us ++ w = cc in
    let (v, same, are) = split_terms ls us w rest_is in
    (v, ap (λ x. x ∷ ls) (one_token l u head_is) ∙ ap (λ x. u ∷ x) same, are)

pub same_terms : (ls us : List Lexeme) → token_terms ls ≡ token_terms us → ls ≡ us
same_terms [] [] e = refl
same_terms [] (u ∷ us) e = absurd cc
same_terms (l ∷ ls) [] e = absurd cc
same_terms (l ∷ ls) (u ∷ us) e =
    let head_is : token_term l ≡ token_term u = cc in
    let rest_is : token_terms ls ≡ token_terms us = cc in
    ap (λ x. x ∷ ls) (one_token l u head_is) ∙ ap (λ x. u ∷ x) (same_terms ls us rest_is)

-- ---- spelled tokens
spelled_append : (xs ys : List TokenTerm) → AreSpelled xs → AreSpelled ys → AreSpelled (xs ++ ys)
spelled_append [] ys h k = k
spelled_append (x ∷ xs) ys h k = (h.0, spelled_append xs ys h.1 k)

spelled_front : (xs ys : List TokenTerm) → AreSpelled (xs ++ ys) → AreSpelled xs
spelled_front [] ys h = tt
spelled_front (x ∷ xs) ys h = (h.0, spelled_front xs ys h.1)

terms_append : (us vs : List Lexeme) → token_terms (us ++ vs) ≡ token_terms us ++ token_terms vs
terms_append us vs = map-append token_term us vs

-- ---- what goes on with some tokens
module _ (G : ℕ → Type 0) where
  onto : (u : List Lexeme) → AreSpelled (token_terms u) → IsViablePrefix (Of program) (λ x. G x.1) u
      → IsViablePrefix IsProgram (λ x. G x.1) (token_terms u)
  onto u all (w, (d, n), (t, l), g) =
      let other = respelled (kept_name u) (kept_number u) (kept_quote u) d in
      let are : tokens other ≡ u ++ map (kept u) w =
      tokens_respelled (kept_name u) (kept_number u) (kept_quote u) d ∙ ap (map (kept u)) t ∙ map-append (kept u) u w
      ∙ ap (λ l. l ++ map (kept u) w) (all_kept [] u) in (
        token_terms (map (kept u) w),
        (program_of other, levels other),
        record {
          spelled = spelled_append (token_terms u) (token_terms (map (kept u) w)) all (all_kept_spelled u all w);
          parse = other;
          reads = ap token_terms are ∙ terms_append u (map (kept u) w);
          stands_for = refl;
        },
        subst G (sym (levels_respelled (kept_name u) (kept_number u) (kept_quote u) d ∙ l)) g,
      )

  back_to : (u : List Lexeme) → IsViablePrefix IsProgram (λ x. G x.1) (token_terms u) → IsViablePrefix (Of program) (λ x. G x.1) u
  back_to u (w, x, h, g) =
      let (v, e, _) = split_terms (tokens h.parse) u w h.reads in
      (v, (h.parse, levels h.parse), (e, refl), subst G (sym (ap (λ q. q.1) h.stands_for)) g)

-- a fault in a program's tokens, as the source has them
pub program_fault : {ls : List Lexeme} {kind : FaultKind} {place : ℕ} → AreSpelled (token_terms ls)
    → IsFirstFault (Of program) (IsWithinLevels 200) ls kind place → IsFirstFault IsProgram (IsWithinLevels 200) (token_terms ls) kind place
program_fault {ls} {kind} {place} all f = record {
  front = token_terms f.front;
  back = token_terms f.back;
  split = ap token_terms f.split ∙ terms_append f.front f.back;
  at = length-map f.front token_term ∙ f.at;
  begins = λ _. onto (λ n. n ≤ 200) f.front front_spelled (f.begins ([], (no_definitions, 0), (refl, refl), omega arith));
  nothing = λ none. absurd (none (
    [],
    (program_of no_definitions, 0),
    record {
      spelled = tt;
      parse = no_definitions;
      reads = refl;
      stands_for = refl;
    },
    omega arith,
  ));
  stops = go f.back kind (subst AreSpelled (ap token_terms f.split ∙ terms_append f.front f.back) all) f.stops;
}
  where
    front_spelled : AreSpelled (token_terms f.front)
    front_spelled = spelled_front (token_terms f.front) (token_terms f.back)
        (subst AreSpelled (ap token_terms f.split ∙ terms_append f.front f.back) all)

    one_more : (t : Lexeme) (back : List Lexeme) → AreSpelled (token_terms f.front ++ token_terms (t ∷ back))
        → AreSpelled (token_terms (f.front ++ (t ∷ [])))
    one_more t back h =
        subst AreSpelled (sym (terms_append f.front (t ∷ [])))
        (spelled_front (token_terms f.front ++ (token_term t ∷ [])) (token_terms back)
        (subst AreSpelled (sym (append_assoc (token_terms f.front) (token_term t ∷ []) (token_terms back))) h))

    go : (back : List Lexeme) (kind : FaultKind) → AreSpelled (token_terms f.front ++ token_terms back)
        → IsFault (Of program) (IsWithinLevels 200) f.front back kind → IsFault IsProgram (IsWithinLevels 200) (token_terms f.front)
        (token_terms back) kind
    go [] Unexpected h dead = λ x k. dead (k.parse, levels k.parse) (same_terms (tokens k.parse) f.front k.reads, refl)
    go (t ∷ back) Unexpected h dead = λ alive. dead
        (back_to (λ n. Unit {0}) (f.front ++ (t ∷ []))
        (subst (λ l. IsViablePrefix IsProgram Always l) (sym (terms_append f.front (t ∷ []))) alive))
    go [] TooNested h dead = dead
    go (t ∷ back) TooNested h (alive, dead) = (
      subst (λ l. IsViablePrefix IsProgram Always l) (terms_append f.front (t ∷ []))
          (onto (λ n. Unit {0}) (f.front ++ (t ∷ [])) (one_more t back h) alive),
      λ some. dead (back_to (λ n. n ≤ 200) (f.front ++ (t ∷ []))
          (subst (λ l. IsViablePrefix IsProgram (IsWithinLevels 200) l) (sym (terms_append f.front (t ∷ []))) some)),
    )

-- ---- a source has no more tokens than bytes
few_pieces : (ps : List Piece) (place : ℕ) → AreRight ps → length (tokens_from place ps) ≤ length (bytes_of ps)
few_pieces [] place right = omega arith
few_pieces (blank byte ∷ ps) place right = let few = few_pieces ps (place + 1) right.1 in omega (arith, few)
few_pieces (comment t ∷ ps) place right =
    let few = few_pieces ps (place + 1 + length t) right.2 in
    let parts = length-append t (bytes_of ps) in
    omega (arith, few, parts)
few_pieces (lexeme t kind ∷ ps) place right =
    let few = few_pieces ps (place + length t) right.3 in
    let parts = length-append t (bytes_of ps) in
    let full = some t (token_some t kind right.0) in
    omega (arith, few, parts, full)
  where
    some : (u : Text) → u ≢ [] → 0 < length u
    some [] h = absurd (h refl)
    some (b ∷ u) h = omega arith

pub few_tokens : {source : Text} {ts : List TokenTerm} → HasTokens source ts → length ts ≤ length source
few_tokens has =
    let few = few_pieces has.pieces 0 has.right in
    let bytes = ap length has.bytes in
    let tokens' = ap length has.are in
    omega (arith, few, bytes, tokens')
