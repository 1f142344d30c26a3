-- What stands in a program's text before each of its bodies (docs/LANGUAGE.md, "Bodies").
use Rattle.std.specs.Prelude.{ℕ, suc, Bool, true, false, if◌then◌else◌, List, [], ◌∷◌, ◌++◌, map}
use Rattle.task_model.specs.declared.keyword.Keyword.TheVariants as words
use Rattle.task_model.specs.declared.symbol.Symbol.TheVariants as signs
use Rattle.task_model.specs.Syntax.Lexemes.{Lexeme, keyword, symbol, name}
use Rattle.task_model.specs.Syntax.Grammar.{Form, choice, chain, internal, external, Parse, more_definitions, task_named, task_let, task_if, task_case, task_new, task_put, task_plain, task_then, task_next, task_group, single, joined, operator, tokens}

-- whether a token is the word `edit` or `share`
abbrev pub is_edit_word : Lexeme → Bool
is_edit_word (keyword words.Edit p) = true
is_edit_word (keyword words.Share p) = true
is_edit_word t = false

-- how many of these tokens are
abbrev pub edit_words : List Lexeme → ℕ
edit_words [] = 0
edit_words (t ∷ ts) = if is_edit_word t then suc (edit_words ts) else edit_words ts

-- these tokens, and then each of those
abbrev pub behind : List Lexeme → List (List Lexeme) → List (List Lexeme)
behind front = map (λ ts. front ++ ts)

-- the tokens of a parse that stand before the text of each of its bodies, in the order in which the texts begin
abbrev pub body_fronts : {f : Form} → Parse f → List (List Lexeme)
body_fronts (more_definitions ds d) = body_fronts ds ++ behind (tokens ds) (body_fronts d)
body_fronts (task_named p x q ps r b s t) =
    behind (keyword words.Task p ∷ name x q ∷ tokens ps ++ symbol signs.Colon r ∷ tokens b ++ symbol signs.Define s ∷ []) (body_fronts t)
body_fronts (task_let p x q r e s t) =
    behind (keyword words.Let p ∷ name x q ∷ symbol signs.Define r ∷ tokens e ++ keyword words.In s ∷ []) (body_fronts t)
body_fronts (task_if p e q t r u) =
    let test = keyword words.If p ∷ tokens e ++ keyword words.Then q ∷ [] in
    behind test (body_fronts t) ++ behind (test ++ (tokens t ++ keyword words.Else r ∷ [])) (body_fronts u)
body_fronts (task_case p e q r s a t b x i j y k c u) =
    let lists = keyword words.Case p ∷ tokens e ++ keyword words.Of q ∷ symbol signs.OpenBracket r ∷ symbol signs.CloseBracket s
    ∷ symbol signs.Arrow a ∷ [] in
    let names = symbol signs.Bar b ∷ name x i ∷ symbol signs.Cons j ∷ name y k ∷ symbol signs.Arrow c ∷ [] in
    behind lists (body_fronts t) ++ behind (lists ++ (tokens t ++ names)) (body_fronts u)
body_fronts (task_new p x q r e s t) =
    behind (keyword words.New p ∷ name x q ∷ symbol signs.Define r ∷ tokens e ++ keyword words.In s ∷ []) (body_fronts t)
body_fronts (task_put x p q e r t) = behind (name x p ∷ symbol signs.Assign q ∷ tokens e ++ symbol signs.Semicolon r ∷ []) (body_fronts t)
body_fronts (task_plain t) = body_fronts t
body_fronts (task_then t p x q r u) =
    let front = tokens t ++ symbol signs.InternalStep p ∷ name x q ∷ symbol signs.Dot r ∷ [] in
    body_fronts t ++ front ∷ behind front (body_fronts u)
body_fronts (task_next t p x q r u) =
    let front = tokens t ++ symbol signs.UserStep p ∷ name x q ∷ symbol signs.Dot r ∷ [] in
    body_fronts t ++ front ∷ behind front (body_fronts u)
body_fronts (task_group p t q) = behind (symbol signs.Open p ∷ []) (body_fronts t)
body_fronts (single choice t) = body_fronts t
body_fronts (single chain t) = body_fronts t
body_fronts (joined choice t internal p u) = body_fronts t ++ behind (tokens t ++ operator internal p ∷ []) (body_fronts u)
body_fronts (joined choice t external p u) =
    let front = tokens t ++ operator external p ∷ [] in [] ∷ body_fronts t ++ front ∷ behind front (body_fronts u)
body_fronts (joined chain t o p u) = body_fronts t ++ behind (tokens t ++ operator o p ∷ []) (body_fronts u)
body_fronts d = []
