-- A parse has as many places of nodes as its term has nodes.
use Rattle.std.proofs.Common.{◌≡◌, ℕ, suc, ◌+◌, List, [], ◌∷◌, ◌++◌, length, refl, sym, ap, ◌∙◌, subst, arith, length-append, append-nil}
use Rattle.task_model.specs.Terms.Text.{Text}
use Rattle.task_model.specs.Terms.Task.{BodyTerm}
use Rattle.task_model.specs.Terms.Host.{HostTerm, as_exprs}
use Rattle.task_model.specs.Terms.Program.{DefTerm, ProgramTerm}
use Rattle.task_model.specs.Running.Checked.{param_names}
use Rattle.task_model.specs.Syntax.Grammar.{Form, program, parameter, task, expression, comparison, listed, operand, atom, series, enclosed, parameters, arguments, list, choice, chain, either, both, sum, product, internal, external, or, and, plus, minus, join, times, quot, rem, negative, not, fst, snd, len, Parse, no_definitions, more_definitions, function, task_named, value_named, reference_named, task_let, task_if, task_case, task_new, task_put, task_plain, task_then, task_next, task_edit, task_enter, task_share, task_fail, task_call, task_group, let_in, if_then, case_of, plain, uncompared, compared, unlisted, cons, prefixed, unprefixed, digits, quoted, constant, nothing, named, content, call, group, pair, elements, nil, single, joined, empty, full}
use Rattle.task_model.specs.Syntax.Meaning.{Meaning, meaning, bodies, bodies_of, program_of}
use Rattle.task_model.specs.Syntax.Nodes.{start, places}
use Rattle.task_model.specs.Checking.NodeCounts.{nodes, nodes_all, task_nodes}
use Rattle.task_model.specs.Checking.FullTask.{full_in, full_bodies}
use Rattle.task_model.specs.Checking.TaskDemands.{definition_nodes, bodies_in_place}
use Rattle.task_model.proofs.BodyCounts.{two, bodies_count}
use Rattle.task_laws.specs.ProgramNodes.{definitions_nodes}
use Rattle.task_laws.proofs.ParseLemmas.{IsTask, whole, in_place, places_first, places_second}
use Rattle.task_laws.proofs.PlacedLemmas.{PlacesFrom}

-- a node over two parts, and over three
over_two : {A : Type 0} (p : A) (xs ys : List A) {n m : ℕ} → length xs ≡ n → length ys ≡ m → length (p ∷ xs ++ ys) ≡ suc (n + m)
over_two p xs ys e k = ap suc (two xs ys e k)

over_three : {A : Type 0} (p : A) (xs ys zs : List A) {n m k : ℕ} → length xs ≡ n → length ys ≡ m → length zs ≡ k
    → length (p ∷ xs ++ (ys ++ zs)) ≡ suc (n + m + k)
over_three p xs ys zs e f g =
    let inner = length-append ys zs in let all = length-append xs (ys ++ zs) in omega (arith, inner, all, e, f, g)

-- ---- expressions
-- the forms of expressions and of their listings
abbrev pub IsExpression : Form → Type 0
IsExpression expression = Unit {0}
IsExpression comparison = Unit {0}
IsExpression listed = Unit {0}
IsExpression operand = Unit {0}
IsExpression atom = Unit {0}
IsExpression (series (list arguments)) = Unit {0}
IsExpression (series either) = Unit {0}
IsExpression (series both) = Unit {0}
IsExpression (series sum) = Unit {0}
IsExpression (series product) = Unit {0}
IsExpression (enclosed arguments) = Unit {0}
IsExpression f = ⊥

-- how many nodes stand in what such a form stands for
abbrev pub nodes_at : (f : Form) → Meaning f → ℕ
nodes_at expression m = nodes m
nodes_at comparison m = nodes m
nodes_at listed m = nodes m
nodes_at operand m = nodes m
nodes_at atom m = nodes m
nodes_at (series (list arguments)) m = nodes_all (as_exprs m)
nodes_at (series either) m = nodes m
nodes_at (series both) m = nodes m
nodes_at (series sum) m = nodes m
nodes_at (series product) m = nodes m
nodes_at (enclosed arguments) m = nodes_all (as_exprs m)
nodes_at f m = 0

nodes_push : (es : List HostTerm) (e : HostTerm) → nodes_all (as_exprs (es ++ e ∷ [])) ≡ nodes_all (as_exprs es) + nodes e
nodes_push [] e = omega arith
nodes_push (d ∷ es) e = let rest = nodes_push es e in omega (arith, rest)

expression_places : {f : Form} (d : Parse f) → IsExpression f → length (places d) ≡ nodes_at f (meaning d)
expression_places (let_in p x q r e s d) h = over_two p (places e) (places d) (expression_places e tt) (expression_places d tt)
expression_places (if_then p e q a r b) h =
    over_three p (places e) (places a) (places b) (expression_places e tt) (expression_places a tt) (expression_places b tt)
expression_places (case_of p e q r s a d b x i j y k c u) h =
    over_three p (places e) (places d) (places u) (expression_places e tt) (expression_places d tt) (expression_places u tt)
expression_places (plain e) h = expression_places e tt
expression_places (uncompared a) h = expression_places a tt
expression_places (compared a o p b) h = over_two (start a) (places a) (places b) (expression_places a tt) (expression_places b tt)
expression_places (unlisted a) h = expression_places a tt
expression_places (cons a p b) h = over_two (start a) (places a) (places b) (expression_places a tt) (expression_places b tt)
expression_places (prefixed negative p a) h = ap suc (expression_places a tt)
expression_places (prefixed not p a) h = ap suc (expression_places a tt)
expression_places (prefixed fst p a) h = ap suc (expression_places a tt)
expression_places (prefixed snd p a) h = ap suc (expression_places a tt)
expression_places (prefixed len p a) h = ap suc (expression_places a tt)
expression_places (unprefixed a) h = expression_places a tt
expression_places (digits t p) h = refl
expression_places (quoted t v p) h = refl
expression_places (constant b p) h = refl
expression_places (nothing p q) h = refl
expression_places (named x p) h = refl
expression_places (content p x q) h = refl
expression_places (call x p es) h = ap suc (expression_places es tt)
expression_places (group p e q) h = expression_places e tt
expression_places (pair p a q b r) h = over_two p (places a) (places b) (expression_places a tt) (expression_places b tt)
expression_places (elements p es q) h = ap suc (expression_places es tt)
expression_places (nil p b) h = refl
expression_places (single (list arguments) e) h = let one = expression_places e tt in omega (arith, one)
expression_places (single either a) h = expression_places a tt
expression_places (single both a) h = expression_places a tt
expression_places (single sum a) h = expression_places a tt
expression_places (single product a) h = expression_places a tt
expression_places (joined (list arguments) a o p b) h =
    two (places a) (places b) (expression_places a tt) (expression_places b tt) ∙ sym (nodes_push (meaning a) (meaning b))
expression_places (joined either a or p b) h = over_two (start a) (places a) (places b) (expression_places a tt) (expression_places b tt)
expression_places (joined both a and p b) h = over_two (start a) (places a) (places b) (expression_places a tt) (expression_places b tt)
expression_places (joined sum a plus p b) h = over_two (start a) (places a) (places b) (expression_places a tt) (expression_places b tt)
expression_places (joined sum a minus p b) h = over_two (start a) (places a) (places b) (expression_places a tt) (expression_places b tt)
expression_places (joined sum a join p b) h = over_two (start a) (places a) (places b) (expression_places a tt) (expression_places b tt)
expression_places (joined product a times p b) h =
    over_two (start a) (places a) (places b) (expression_places a tt) (expression_places b tt)
expression_places (joined product a quot p b) h = over_two (start a) (places a) (places b) (expression_places a tt) (expression_places b tt)
expression_places (joined product a rem p b) h = over_two (start a) (places a) (places b) (expression_places a tt) (expression_places b tt)
expression_places (empty arguments p q) h = refl
expression_places (full arguments p es q) h = expression_places es tt
expression_places d h = absurd h

pub expressions : (d : Parse expression) → length (places d) ≡ nodes (meaning d)
expressions d = expression_places d tt

-- ---- tasks, with their bodies in place
task_places : {f : Form} (d : Parse f) → IsTask f → (xs : List Text) → length (places d) ≡ task_nodes (whole d xs)
task_places (task_let p x q r e s t) h xs = over_two p (places e) (places t) (expressions e) (task_places t tt (xs ++ x ∷ []))
task_places (task_if p e q t r u) h xs =
    over_three p (places e) (places t) (places u) (expressions e) (task_places t tt xs) (task_places u tt xs)
task_places (task_case p e q r s a t b x i j y k c u) h xs =
    over_three p (places e) (places t) (places u) (expressions e) (task_places t tt xs) (task_places u tt (xs ++ x ∷ y ∷ []))
task_places (task_new p x q r e s t) h xs = over_two p (places e) (places t) (expressions e) (task_places t tt (xs ++ x ∷ []))
task_places (task_put x p q e r t) h xs = over_two p (places e) (places t) (expressions e) (task_places t tt xs)
task_places (task_plain t) h xs = task_places t tt xs
task_places (task_then t p x q r u) h xs =
    over_two (start t) (places t) (places u) (task_places t tt xs) (task_places u tt (xs ++ x ∷ []))
task_places (task_next t p x q r u) h xs =
    over_two (start t) (places t) (places u) (task_places t tt xs) (task_places u tt (xs ++ x ∷ []))
task_places (task_edit p e) h xs = ap suc (expression_places e tt)
task_places (task_enter p b) h xs = refl
task_places (task_share p x q) h xs = refl
task_places (task_fail p b) h xs = refl
task_places (task_call x p es) h xs = ap suc (expression_places es tt)
task_places (task_group p t q) h xs = task_places t tt xs
task_places (single choice t) h xs = task_places t tt xs
task_places (single chain t) h xs = task_places t tt xs
task_places (joined choice t internal p u) h xs = over_two (start t) (places t) (places u) (task_places t tt xs) (task_places u tt xs)
task_places (joined choice t external p u) h xs = over_two (start t) (places t) (places u) (task_places t tt xs) (task_places u tt xs)
task_places (joined chain t o p u) h xs = over_two (start t) (places t) (places u) (task_places t tt xs) (task_places u tt xs)
task_places d h xs = absurd h

pub tasks : (d : Parse task) (xs : List Text) (next : ℕ)
    → length (places d) ≡ task_nodes (full_in next (full_bodies next (bodies_of d xs next)) (meaning d next))
tasks d xs next =
    let bs = bodies_of d xs next in
    let there = subst (λ l. full_in next (full_bodies next l) (meaning d next) ≡ whole d xs) (append-nil bs)
    (in_place d tt xs next [] next (full_bodies next (bs ++ [])) (λ j le. refl)) in
    task_places d tt xs ∙ ap (λ z. task_nodes z) (sym there)

-- ---- definitions
parameter_place : (d : Parse parameter) → length (places d) ≡ 1
parameter_place (value_named x p q b) = refl
parameter_place (reference_named x p q r b) = refl

listed_places : (d : Parse (series (list parameters))) → length (places d) ≡ length (meaning d)
listed_places (single (list parameters) d) = parameter_place d
listed_places (joined (list parameters) d o p e) =
    two (places d) (places e) (listed_places d) (parameter_place e) ∙ sym (length-append (meaning d) (meaning e ∷ []))

parameters_places : (d : Parse (enclosed parameters)) → length (places d) ≡ length (meaning d)
parameters_places (empty parameters p q) = refl
parameters_places (full parameters p ps q) = listed_places ps

module _ (p : ProgramTerm) where
  nodes_more : (ds : List DefTerm) (d : DefTerm)
      → definitions_nodes p (ds ++ d ∷ []) ≡ definitions_nodes p ds + suc (length d.params + definition_nodes p d.what)
  nodes_more [] d = omega arith
  nodes_more (c ∷ ds) d = let rest = nodes_more ds d in omega (arith, rest)

  definitions_places : (ds : Parse program) (after : List BodyTerm) → PlacesFrom p 0 (bodies_of ds [] 0 ++ after)
      → length (places ds) ≡ definitions_nodes p (meaning ds)
  definitions_places no_definitions after k = refl
  definitions_places (more_definitions ds (function q x r ps s b i e)) after k =
      two (places ds) (places (function q x r ps s b i e))
      (definitions_places ds after (places_first 0 (bodies_in_place p) 0 (bodies_of ds [] 0) [] after k))
      (over_two q (places ps) (places e) (parameters_places ps) (expressions e))
      ∙ sym (nodes_more (meaning ds) (meaning (function q x r ps s b i e) (bodies ds)))
  definitions_places (more_definitions ds (task_named q x r ps s b i t)) after k =
      let xs = param_names (meaning ps) in
      let n = 0 + bodies ds in
      let same : n ≡ bodies ds = omega arith in
      let many = bodies_count ds [] 0 in
      let there = places_second 0 (bodies_in_place p) 0 n (bodies_of ds [] 0) (bodies_of t xs n) after (omega (arith, many)) k in
      let here = task_places t tt xs ∙ ap (λ z. task_nodes z) (sym (in_place t tt xs n after 0 (bodies_in_place p) there)) in
      let last = subst (λ m. length (places t) ≡ task_nodes (full_in 0 (bodies_in_place p) (meaning t m))) same here in
      two (places ds) (places (task_named q x r ps s b i t))
      (definitions_places ds (bodies_of t xs n ++ after)
      (places_first 0 (bodies_in_place p) 0 (bodies_of ds [] 0) (bodies_of t xs n) after k))
      (over_two q (places ps) (places t) (parameters_places ps) last)
      ∙ sym (nodes_more (meaning ds) (meaning (task_named q x r ps s b i t) (bodies ds)))

pub programs : (ds : Parse program) → length (places ds) ≡ definitions_nodes (program_of ds) (meaning ds)
programs ds =
    definitions_places (program_of ds) ds []
    (subst (λ l. PlacesFrom (program_of ds) 0 l) (sym (append-nil (bodies_of ds [] 0))) (λ j le. refl))
