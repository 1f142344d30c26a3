-- The nodes of a parse and their places (docs/LANGUAGE.md, "Nodes and places").
use Rattle.std.specs.Prelude.{ℕ, List, [], ◌∷◌, ◌++◌}
use Rattle.task_model.specs.Syntax.Lexemes.{first_place}
use Rattle.task_model.specs.Syntax.Grammar.{list, choice, chain, either, both, sum, product, Form, Parse, no_definitions, more_definitions, function, task_named, value_named, reference_named, scalar_type, pair_type, list_type, task_let, task_if, task_case, task_new, task_put, task_plain, task_then, task_next, task_edit, task_enter, task_share, task_fail, task_call, task_group, let_in, if_then, case_of, plain, uncompared, compared, unlisted, cons, prefixed, unprefixed, digits, quoted, constant, nothing, named, content, call, group, pair, elements, nil, single, joined, empty, full, tokens}

-- the place of the first token of a parse; the text of no definitions has none
abbrev pub start : {f : Form} → Parse f → ℕ
start d = first_place (tokens d)

-- The places of the nodes of a parse in pre-order: of definitions, parameters, expressions and tasks. A node stands at its first token.
-- Parentheses round a node are none, and neither are types and listings.
abbrev pub places : {f : Form} → Parse f → List ℕ
places no_definitions = []
places (more_definitions ds d) = places ds ++ places d
places (function p x q ps r b s e) = p ∷ places ps ++ places e
places (task_named p x q ps r b s t) = p ∷ places ps ++ places t
places (value_named x p q b) = p ∷ []
places (reference_named x p q r b) = p ∷ []
places (scalar_type b p) = []
places (pair_type p a q b r) = []
places (list_type p a q) = []
places (task_let p x q r e s t) = p ∷ places e ++ places t
places (task_if p e q t r u) = p ∷ places e ++ (places t ++ places u)
places (task_case p e q r s a t b x i j y k c u) = p ∷ places e ++ (places t ++ places u)
places (task_new p x q r e s t) = p ∷ places e ++ places t
places (task_put x p q e r t) = p ∷ places e ++ places t
places (task_plain t) = places t
places (task_then t p x q r u) = start t ∷ places t ++ places u
places (task_next t p x q r u) = start t ∷ places t ++ places u
places (task_edit p e) = p ∷ places e
places (task_enter p b) = p ∷ []
places (task_share p x q) = p ∷ []
places (task_fail p b) = p ∷ []
places (task_call x p es) = p ∷ places es
places (task_group p t q) = places t
places (let_in p x q r e s d) = p ∷ places e ++ places d
places (if_then p e q a r b) = p ∷ places e ++ (places a ++ places b)
places (case_of p e q r s a d b x i j y k c u) = p ∷ places e ++ (places d ++ places u)
places (plain e) = places e
places (uncompared a) = places a
places (compared a o p b) = start a ∷ places a ++ places b
places (unlisted a) = places a
places (cons a p b) = start a ∷ places a ++ places b
places (prefixed o p a) = p ∷ places a
places (unprefixed a) = places a
places (digits t p) = p ∷ []
places (quoted t v p) = p ∷ []
places (constant b p) = p ∷ []
places (nothing p q) = p ∷ []
places (named x p) = p ∷ []
places (content p x q) = p ∷ []
places (call x p es) = p ∷ places es
places (group p e q) = places e
places (pair p a q b r) = p ∷ places a ++ places b
places (elements p es q) = p ∷ places es
places (nil p b) = p ∷ []
places (single s a) = places a
places (joined (list l) a o p b) = places a ++ places b
places (joined choice a o p b) = start a ∷ places a ++ places b
places (joined chain a o p b) = start a ∷ places a ++ places b
places (joined either a o p b) = start a ∷ places a ++ places b
places (joined both a o p b) = start a ∷ places a ++ places b
places (joined sum a o p b) = start a ∷ places a ++ places b
places (joined product a o p b) = start a ∷ places a ++ places b
places (empty l p q) = []
places (full l p es q) = places es
