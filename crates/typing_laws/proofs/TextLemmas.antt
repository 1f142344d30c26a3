-- The texts of what is written are within the limit, since its tokens are.
use Rattle.std.proofs.Common.{◌≡◌, ℕ, ◌+◌, List, [], ◌∷◌, ◌++◌, length, sym, ◌∙◌, subst}
use Rattle.std.specs.List.{AllByRecursion}
use Rattle.task_model.specs.Terms.Text.{Text}
use Rattle.task_model.specs.Terms.Host.{HostTerm, as_exprs}
use Rattle.task_model.specs.Terms.Program.{DefBodyTerm, fun_body, task_body}
use Rattle.task_model.specs.Terms.Token.{TokenTerm, HasTokens, Piece, blank, comment, lexeme, AreRight, IsWithinTokenLimits, tokens_from}
use Rattle.task_model.specs.Syntax.Lexemes.{Lexeme, token_term, token_terms}
use Rattle.task_model.specs.Syntax.Grammar.{parameters, arguments, list, choice, chain, either, both, sum, product, Form, program, definition, parameter, basic, task, task_atom, expression, comparison, listed, operand, atom, series, enclosed, internal, external, or, and, plus, minus, join, times, quot, rem, Prefix, negative, not, fst, snd, len, Parse, no_definitions, more_definitions, function, task_named, value_named, reference_named, scalar_type, pair_type, list_type, task_let, task_if, task_case, task_new, task_put, task_plain, task_then, task_next, task_edit, task_enter, task_share, task_fail, task_call, task_group, let_in, if_then, case_of, plain, uncompared, compared, unlisted, cons, prefixed, unprefixed, digits, quoted, constant, nothing, named, content, call, group, pair, elements, nil, single, joined, empty, full, tokens}
use Rattle.task_model.specs.Syntax.Meaning.{Meaning, meaning, bodies, unary_expression}
use Rattle.typing_laws.specs.Texts.{HasShortTexts, HaveShortTexts, TaskTextsAreShort}
use Rattle.typing_laws.proofs.PartLemmas.{recursion_first, recursion_second}

-- a token within the limits
abbrev pub Within : Lexeme → Type 0
Within t = IsWithinTokenLimits (token_term t).kind

abbrev pub AllWithin : List Lexeme → Type 0
AllWithin ts = AllByRecursion Within ts

-- the parts between tokens
pub two : (xs ys : List Lexeme) (t : Lexeme) → AllWithin (xs ++ t ∷ ys) → AllWithin xs × AllWithin ys
two xs ys t h = (recursion_first Within xs (t ∷ ys) h, (recursion_second Within xs (t ∷ ys) h).1)

pub three : (xs ys zs : List Lexeme) (t u : Lexeme) → AllWithin ((xs ++ t ∷ ys) ++ u ∷ zs) → AllWithin xs × AllWithin ys × AllWithin zs
three xs ys zs t u h = let (front, last) = two (xs ++ t ∷ ys) zs u h in let (first, second) = two xs ys t front in (first, second, last)

-- what a definition is has texts within the limit
abbrev pub WhatIsShort : DefBodyTerm → Type 0
WhatIsShort (fun_body e) = HasShortTexts e
WhatIsShort (task_body t) = TaskTextsAreShort t

-- what a parse stands for has texts within the limit
abbrev pub IsShort : (f : Form) → Meaning f → Type 0
IsShort program m = Unit {0}
IsShort definition m = (next : ℕ) → WhatIsShort (m next).what
IsShort parameter m = Unit {0}
IsShort basic m = Unit {0}
IsShort task m = (next : ℕ) → TaskTextsAreShort (m next)
IsShort task_atom m = (next : ℕ) → TaskTextsAreShort (m next)
IsShort expression m = HasShortTexts m
IsShort comparison m = HasShortTexts m
IsShort listed m = HasShortTexts m
IsShort operand m = HasShortTexts m
IsShort atom m = HasShortTexts m
IsShort (series (list parameters)) m = Unit {0}
IsShort (series (list arguments)) m = HaveShortTexts (as_exprs m)
IsShort (series choice) m = (next : ℕ) → TaskTextsAreShort (m next)
IsShort (series chain) m = (next : ℕ) → TaskTextsAreShort (m next)
IsShort (series either) m = HasShortTexts m
IsShort (series both) m = HasShortTexts m
IsShort (series sum) m = HasShortTexts m
IsShort (series product) m = HasShortTexts m
IsShort (enclosed parameters) m = Unit {0}
IsShort (enclosed arguments) m = HaveShortTexts (as_exprs m)

unary_short : (o : Prefix) (a : HostTerm) → HasShortTexts a → HasShortTexts (unary_expression o a)
unary_short negative a h = h
unary_short not a h = h
unary_short fst a h = h
unary_short snd a h = h
unary_short len a h = h

push_short : (es : List HostTerm) (e : HostTerm) → HaveShortTexts (as_exprs es) → HasShortTexts e → HaveShortTexts (as_exprs (es ++ e ∷ []))
push_short [] e h q = (q, tt)
push_short (d ∷ es) e h q = (h.0, push_short es e h.1 q)

pub short : {f : Form} (d : Parse f) → AllWithin (tokens d) → IsShort f (meaning d)
short no_definitions h = tt
short (more_definitions ds d) h = tt
short (function p x q ps r b s e) h = λ next. short e (three (tokens ps) (tokens b) (tokens e) _ _ h.1.1).2
short (task_named p x q ps r b s t) h = λ next. short t (three (tokens ps) (tokens b) (tokens t) _ _ h.1.1).2 next
short (value_named x p q b) h = tt
short (reference_named x p q r b) h = tt
short (scalar_type b p) h = tt
short (pair_type p a q b r) h = tt
short (list_type p a q) h = tt
short (task_let p x q r e s t) h = let (first, second) = two (tokens e) (tokens t) _ h.1.1.1 in λ next. (short e first, short t second next)
short (task_if p e q t r u) h =
    let (first, second, third) = three (tokens e) (tokens t) (tokens u) _ _ h.1 in
    λ next. (short e first, short t second next, short u third (next + bodies t))
short (task_case p e q r s a t b x i j y k c u) h =
    let (first, second, third) = three (tokens e) _ _ _ _ h.1 in
    λ next. (short e first, short t second.1.1.1 next, short u third.1.1.1.1 (next + bodies t))
short (task_new p x q r e s t) h = let (first, second) = two (tokens e) (tokens t) _ h.1.1.1 in λ next. (short e first, short t second next)
short (task_put x p q e r t) h = let (first, second) = two (tokens e) (tokens t) _ h.1.1 in λ next. (short e first, short t second next)
short (task_plain t) h = short t h
short (task_then t p x q r u) h = short t (two (tokens t) _ _ h).0
short (task_next t p x q r u) h = short t (two (tokens t) _ _ h).0
short (task_edit p e) h = λ next. short e h.1
short (task_enter p b) h = λ next. tt
short (task_share p x q) h = λ next. tt
short (task_fail p b) h = λ next. tt
short (task_call x p es) h = λ next. short es h.1
short (task_group p t q) h = short t (two (tokens t) [] _ h.1).0
short (let_in p x q r e s d) h = let (first, second) = two (tokens e) (tokens d) _ h.1.1.1 in (short e first, short d second)
short (if_then p e q a r b) h =
    let (first, second, third) = three (tokens e) (tokens a) (tokens b) _ _ h.1 in (short e first, short a second, short b third)
short (case_of p e q r s a d b x i j y k c u) h =
    let (first, second, third) = three (tokens e) _ _ _ _ h.1 in (short e first, short d second.1.1.1, short u third.1.1.1.1)
short (plain e) h = short e h
short (uncompared a) h = short a h
short (compared a o p b) h = let (first, second) = two (tokens a) (tokens b) _ h in (short a first, short b second)
short (unlisted a) h = short a h
short (cons a p b) h = let (first, second) = two (tokens a) (tokens b) _ h in (short a first, short b second)
short (prefixed o p a) h = unary_short o (meaning a) (short a h.1)
short (unprefixed a) h = short a h
short (digits t p) h = tt
short (quoted t v p) h = h.0
short (constant b p) h = tt
short (nothing p q) h = tt
short (named x p) h = tt
short (content p x q) h = tt
short (call x p es) h = short es h.1
short (group p e q) h = short e (two (tokens e) [] _ h.1).0
short (pair p a q b r) h = let (first, second, third) = three (tokens a) (tokens b) [] _ _ h.1 in (short a first, short b second)
short (elements p es q) h = short es (two (tokens es) [] _ h.1).0
short (nil p b) h = tt
short (single (list parameters) a) h = tt
short (single (list arguments) a) h = (short a h, tt)
short (single choice t) h = short t h
short (single chain t) h = short t h
short (single either a) h = short a h
short (single both a) h = short a h
short (single sum a) h = short a h
short (single product a) h = short a h
short (joined (list parameters) a o p b) h = tt
short (joined (list arguments) a o p b) h =
    let (first, second) = two (tokens a) (tokens b) _ h in push_short (meaning a) (meaning b) (short a first) (short b second)
short (joined choice t internal p u) h =
    let (first, second) = two (tokens t) (tokens u) _ h in λ next. (short t first next, short u second (next + bodies t))
short (joined choice t external p u) h = λ next. tt
short (joined chain t o p u) h =
    let (first, second) = two (tokens t) (tokens u) _ h in λ next. (short t first next, short u second (next + bodies t))
short (joined either a or p b) h = let (first, second) = two (tokens a) (tokens b) _ h in (short a first, short b second)
short (joined both a and p b) h = let (first, second) = two (tokens a) (tokens b) _ h in (short a first, short b second)
short (joined sum a plus p b) h = let (first, second) = two (tokens a) (tokens b) _ h in (short a first, short b second)
short (joined sum a minus p b) h = let (first, second) = two (tokens a) (tokens b) _ h in (short a first, short b second)
short (joined sum a join p b) h = let (first, second) = two (tokens a) (tokens b) _ h in (short a first, short b second)
short (joined product a times p b) h = let (first, second) = two (tokens a) (tokens b) _ h in (short a first, short b second)
short (joined product a quot p b) h = let (first, second) = two (tokens a) (tokens b) _ h in (short a first, short b second)
short (joined product a rem p b) h = let (first, second) = two (tokens a) (tokens b) _ h in (short a first, short b second)
short (empty parameters p q) h = tt
short (empty arguments p q) h = tt
short (full parameters p ps q) h = tt
short (full arguments p es q) h = short es (two (tokens es) [] _ h.1).0

-- ---- the tokens of a source
pieces_within : (place : ℕ) (ps : List Piece) → AreRight ps → AllByRecursion (λ (t : TokenTerm). IsWithinTokenLimits t.kind)
    (tokens_from place ps)
pieces_within place [] h = tt
pieces_within place (blank byte ∷ ps) h = pieces_within (place + 1) ps h.1
pieces_within place (comment t ∷ ps) h = pieces_within (place + 1 + length t) ps h.2
pieces_within place (lexeme t kind ∷ ps) h = (h.1, pieces_within (place + length t) ps h.3)

lexemes_within : (ts : List Lexeme) → AllByRecursion (λ (t : TokenTerm). IsWithinTokenLimits t.kind) (token_terms ts) → AllWithin ts
lexemes_within [] h = tt
lexemes_within (t ∷ ts) h = (h.0, lexemes_within ts h.1)

pub tokens_within : (source : Text) (terms : List TokenTerm) (ts : List Lexeme) → HasTokens source terms → token_terms ts ≡ terms
    → AllWithin ts
tokens_within source terms ts h e =
    lexemes_within ts
    (subst (AllByRecursion (λ (t : TokenTerm). IsWithinTokenLimits t.kind)) (h.are ∙ sym e) (pieces_within 0 h.pieces h.right))
