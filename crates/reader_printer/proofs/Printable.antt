-- What was read can be printed: each production of tasks, for what its parts stand for where their bodies have their numbers.
use Rattle.std.proofs.Common.{◌≡◌, ℕ, suc, ◌+◌, List, [], ◌∷◌, ◌++◌, ap, subst, arith}
use Rattle.task_model.specs.Terms.Text.{Text}
use Rattle.task_model.specs.Terms.Task.{BodyTerm}
use Rattle.task_model.specs.Syntax.Lexemes.{name}
use Rattle.task_model.specs.Syntax.Grammar as grammar
use Rattle.task_model.specs.Syntax.Grammar.{Parse, tokens, levels}
use Rattle.task_model.specs.Syntax.Meaning.{meaning, bodies}
use Rattle.reader_printer.specs.PrintedPlaces.{task_form}
use Rattle.task_model.specs.Syntax.Printed.{BodyText, body_numbered, body_text, body_texts}
use Rattle.reader_printer.proofs.Placing.{IsSpelled}
use Rattle.reader_printer.proofs.ExpressionPlaces.{Own}
use Rattle.task_model.proofs.BodyCounts.{bodies_count}
use Rattle.reader_printer.proofs.TaskPlaces.{Agrees, agrees_left, agrees_right, agrees_head, agrees_self, TaskMeaning, task_in, OwnTask}
use Rattle.reader_printer.proofs.TaskProductions.{own_together, own_internal, own_external, own_then, own_next, own_task_let, own_task_new, own_put, own_task_if, own_task_case, body_of, step_body}

-- a parse at a place can be printed there, whatever is in scope, if the bodies that are written from its first number on begin with its own
abbrev pub PrintableTask : (p : ℕ) → Parse (task_form p) → Type 0
PrintableTask p d = (scope : List Text) (next first : ℕ) (bs : List BodyText) (after : List BodyTerm)
    → Agrees first bs next ((task_in p scope next d).2 ++ after) → OwnTask p scope next first bs (task_in p scope next d) (levels d)

-- ---- operators
pub print_together : (t : Parse (grammar.series grammar.chain)) (o : grammar.Operator grammar.chain) (n : ℕ) (u : Parse grammar.task_atom)
    → PrintableTask 1 t → PrintableTask 0 u → PrintableTask 1 (grammar.joined grammar.chain t o n u)
print_together t o n u left right scope next first bs after h =
    let v = task_in 1 scope next t in
    let w = task_in 0 scope (next + bodies t) u in
    own_together scope next first bs v w (levels t) (levels u)
    (left scope next first bs (w.2 ++ after) (agrees_left first bs next v.2 w.2 after h))
    (right scope (next + bodies t) first bs after (agrees_right first bs next (bodies t) v.2 w.2 after (bodies_count t scope next) h))

pub print_internal : (t : Parse (grammar.series grammar.choice)) (n : ℕ) (u : Parse (grammar.series grammar.chain)) → PrintableTask 2 t
    → PrintableTask 1 u → PrintableTask 2 (grammar.joined grammar.choice t grammar.internal n u)
print_internal t n u left right scope next first bs after h =
    let v = task_in 2 scope next t in
    let w = task_in 1 scope (next + bodies t) u in
    own_internal scope next first bs v w (levels t) (levels u)
    (left scope next first bs (w.2 ++ after) (agrees_left first bs next v.2 w.2 after h))
    (right scope (next + bodies t) first bs after (agrees_right first bs next (bodies t) v.2 w.2 after (bodies_count t scope next) h))

pub print_external : (t : Parse (grammar.series grammar.choice)) (n : ℕ) (u : Parse (grammar.series grammar.chain)) → PrintableTask 2 t
    → PrintableTask 1 u → PrintableTask 2 (grammar.joined grammar.choice t grammar.external n u)
print_external t n u left right scope next first bs after h =
    let v = task_in 2 scope (suc next) t in
    let inside = suc (suc (next + bodies t)) in
    let w = task_in 1 scope inside u in
    let later = v.2 ++ (body_of scope w.0 ∷ w.2 ++ after) in
    let one = agrees_left first bs next (body_of scope v.0 ∷ v.2) (body_of scope w.0 ∷ w.2) after h in
    let here : body_numbered first bs next ≡ body_text (suc next) (body_texts (suc next) later) (body_of scope v.0) =
    agrees_head first bs next (body_of scope v.0) later one in
    let two = agrees_right first bs next (suc (bodies t)) (body_of scope v.0 ∷ v.2) (body_of scope w.0 ∷ w.2) after
    (ap suc (bodies_count t scope (suc next))) h in
    let same : next + suc (bodies t) ≡ suc (next + bodies t) = omega arith in
    let two' = subst (λ n. Agrees first bs n (body_of scope w.0 ∷ (w.2 ++ after))) same two in
    let there : body_numbered first bs (suc (next + bodies t)) ≡ body_text inside (body_texts inside (w.2 ++ after)) (body_of scope w.0) =
    agrees_head first bs (suc (next + bodies t)) (body_of scope w.0) (w.2 ++ after) two' in
    own_external scope next first bs v w (body_texts (suc next) later) (body_texts inside (w.2 ++ after)) (levels t) (levels u) here there
    (left scope (suc next) (suc next) (body_texts (suc next) later) (body_of scope w.0 ∷ w.2 ++ after) (agrees_self (suc next) later))
    (right scope inside inside (body_texts inside (w.2 ++ after)) after (agrees_self inside (w.2 ++ after)))

-- a step: what it goes on with is looked up by its number
module _ (t : Parse (grammar.series grammar.choice)) (x : Text) (u : Parse grammar.task) (scope : List Text) (next : ℕ)
    (after : List BodyTerm) where
  abbrev step_inside : TaskMeaning
  step_inside = task_in 3 (scope ++ x ∷ []) (suc (next + bodies t)) u

  abbrev step_later : List BodyText
  step_later = body_texts (suc (next + bodies t)) (step_inside.2 ++ after)

  step_right : PrintableTask 3 u → OwnTask 3 (scope ++ x ∷ []) (suc (next + bodies t)) (suc (next + bodies t)) step_later step_inside
      (levels u)
  step_right right =
      let inside = suc (next + bodies t) in right (scope ++ x ∷ []) inside inside step_later after
      (agrees_self inside (step_inside.2 ++ after))

  module _ (first : ℕ) (bs : List BodyText) where
    abbrev Numbered : Type 0
    Numbered = Agrees first bs next (((task_in 2 scope next t).2 ++ step_body scope x step_inside.0 ∷ step_inside.2) ++ after)

    step_left : PrintableTask 2 t → Numbered → OwnTask 2 scope next first bs (task_in 2 scope next t) (levels t)
    step_left left h =
        left scope next first bs (step_body scope x step_inside.0 ∷ step_inside.2 ++ after)
        (agrees_left first bs next (task_in 2 scope next t).2 (step_body scope x step_inside.0 ∷ step_inside.2) after h)

    step_there : Numbered → body_numbered first bs (next + bodies t) ≡ body_text (suc (next + bodies t)) step_later
        (step_body scope x step_inside.0)
    step_there h =
        let behind = agrees_right first bs next (bodies t) (task_in 2 scope next t).2
        (step_body scope x step_inside.0 ∷ step_inside.2) after (bodies_count t scope next) h in
        agrees_head first bs (next + bodies t) (step_body scope x step_inside.0) (step_inside.2 ++ after) behind

pub print_then :
    (t : Parse (grammar.series grammar.choice)) (n : ℕ) (x : Text) (m r : ℕ) (u : Parse grammar.task)
    → IsSpelled (name x 0) → PrintableTask 2 t → PrintableTask 3 u → PrintableTask 3 (grammar.task_then t n x m r u)
print_then t n x m r u s left right scope next first bs after h =
    own_then scope next first bs x (task_in 2 scope next t) (step_inside t x u scope next after) (step_later t x u scope next after)
    (levels t) (levels u) s
    (step_there t x u scope next after first bs h) (step_left t x u scope next after first bs left h)
    (step_right t x u scope next after right)

pub print_next :
    (t : Parse (grammar.series grammar.choice)) (n : ℕ) (x : Text) (m r : ℕ) (u : Parse grammar.task)
    → IsSpelled (name x 0) → PrintableTask 2 t → PrintableTask 3 u → PrintableTask 3 (grammar.task_next t n x m r u)
print_next t n x m r u s left right scope next first bs after h =
    own_next scope next first bs x (task_in 2 scope next t) (step_inside t x u scope next after) (step_later t x u scope next after)
    (levels t) (levels u) s
    (step_there t x u scope next after first bs h) (step_left t x u scope next after first bs left h)
    (step_right t x u scope next after right)

-- ---- tasks
pub print_let : (p : ℕ) (x : Text) (q r : ℕ) (e : Parse grammar.expression) (s : ℕ) (t : Parse grammar.task) → IsSpelled (name x 0)
    → Own 8 (meaning e) (levels e) → PrintableTask 3 t → PrintableTask 3 (grammar.task_let p x q r e s t)
print_let p x q r e s t sp o rest scope next first bs after h =
    own_task_let scope next first bs x (meaning e) (task_in 3 (scope ++ x ∷ []) next t) (levels e) (levels t) sp o
    (rest (scope ++ x ∷ []) next first bs after h)

pub print_new : (p : ℕ) (x : Text) (q r : ℕ) (e : Parse grammar.expression) (s : ℕ) (t : Parse grammar.task) → IsSpelled (name x 0)
    → Own 8 (meaning e) (levels e) → PrintableTask 3 t → PrintableTask 3 (grammar.task_new p x q r e s t)
print_new p x q r e s t sp o rest scope next first bs after h =
    own_task_new scope next first bs x (meaning e) (task_in 3 (scope ++ x ∷ []) next t) (levels e) (levels t) sp o
    (rest (scope ++ x ∷ []) next first bs after h)

pub print_put : (x : Text) (p q : ℕ) (e : Parse grammar.expression) (r : ℕ) (t : Parse grammar.task) → IsSpelled (name x 0)
    → Own 8 (meaning e) (levels e) → PrintableTask 3 t → PrintableTask 3 (grammar.task_put x p q e r t)
print_put x p q e r t sp o rest scope next first bs after h =
    own_put scope next first bs x (meaning e) (task_in 3 scope next t) (levels e) (levels t) sp o (rest scope next first bs after h)

pub print_if :
    (p : ℕ) (e : Parse grammar.expression) (q : ℕ) (t : Parse grammar.task) (r : ℕ) (u : Parse grammar.task) → Own 8 (meaning e) (levels e)
    → PrintableTask 3 t → PrintableTask 3 u → PrintableTask 3 (grammar.task_if p e q t r u)
print_if p e q t r u o left right scope next first bs after h =
    let v = task_in 3 scope next t in
    let w = task_in 3 scope (next + bodies t) u in
    own_task_if scope next first bs (meaning e) v w (levels e) (levels t) (levels u) o
    (left scope next first bs (w.2 ++ after) (agrees_left first bs next v.2 w.2 after h))
    (right scope (next + bodies t) first bs after (agrees_right first bs next (bodies t) v.2 w.2 after (bodies_count t scope next) h))

pub print_case :
    (p : ℕ) (e : Parse grammar.expression) (q r s a : ℕ) (t : Parse grammar.task) (b : ℕ) (x : Text) (i j : ℕ) (y : Text) (k c : ℕ)
    (u : Parse grammar.task)
    → IsSpelled (name x 0) → IsSpelled (name y 0) → Own 8 (meaning e) (levels e) → PrintableTask 3 t → PrintableTask 3 u
    → PrintableTask 3 (grammar.task_case p e q r s a t b x i j y k c u)
print_case p e q r s a t b x i j y k c u sx sy o left right scope next first bs after h =
    let v = task_in 3 scope next t in
    let w = task_in 3 (scope ++ x ∷ y ∷ []) (next + bodies t) u in
    own_task_case scope next first bs x y (meaning e) v w (levels e) (levels t) (levels u) sx sy o
    (left scope next first bs (w.2 ++ after) (agrees_left first bs next v.2 w.2 after h))
    (right (scope ++ x ∷ y ∷ []) (next + bodies t) first bs after
    (agrees_right first bs next (bodies t) v.2 w.2 after (bodies_count t scope next) h))
