-- Each production of tasks, as it is printed from its parts.
use Rattle.std.proofs.Common.{◌≡◌, ℕ, suc, ◌+◌, max, Some, None, List, [], ◌∷◌, ◌++◌, refl, sym, ap, ◌∙◌, subst, arith}
use Rattle.std.specs.Prelude.{codes}
use Rattle.task_model.specs.Terms.Text.{Text}
use Rattle.task_model.specs.Terms.Basic.{BasicTerm}
use Rattle.task_model.specs.Terms.Host.{HostTerm}
use Rattle.task_model.specs.Terms.Task.{TaskTerm, edit, enter, share, fail, call_task, then_task, next_task, and_task, or_task, xor_task, let_task, if_task, case_task, new_task, put_task, BodyTerm}
use Rattle.task_model.specs.declared.keyword.Keyword.TheVariants as words
use Rattle.task_model.specs.declared.symbol.Symbol.TheVariants as signs
use Rattle.task_model.specs.Syntax.Lexemes.{keyword, symbol, name}
use Rattle.task_model.specs.Syntax.Grammar as grammar
use Rattle.task_model.specs.Syntax.Grammar.{Parse, tokens, levels}
use Rattle.task_model.specs.Syntax.Meaning.{meaning, bodies, bodies_of}
use Rattle.task_model.specs.Syntax.Printed.{BodyText, body_numbered, body_text, body_at, step_tokens, task_at}
use Rattle.reader_printer.proofs.Placing.{IsSpelled}
use Rattle.reader_printer.proofs.Showing.{Shown, two_tokens, token_and_part, token_between, three_tokens_and_two_parts, token_before_each, word_spelled, sign_spelled}
use Rattle.reader_printer.proofs.LongShowing.{two_tokens_and_two_parts, three_tokens_between, case_of_three_parts}
use Rattle.reader_printer.proofs.ExpressionPlaces.{Own, at_place}
use Rattle.reader_printer.proofs.ExpressionProductions.{ShownType, ShownArguments}
use Rattle.reader_printer.proofs.TaskPlaces.{TaskMeaning, OwnTask, task_here, task_in, task_place}

-- ---- meanings from those of parts
three_are : {t u : TaskTerm} {n m : ℕ} {B C : List BodyTerm} → t ≡ u → n ≡ m → B ≡ C → ◌≡◌ {A = TaskMeaning} (t, n, B) (u, m, C)
three_are {t} {u} {n} {m} {B} {C} e f g = ap {A = TaskTerm} {B = TaskMeaning} (λ z. (z, n, B)) e
    ∙ ap {A = ℕ} {B = TaskMeaning} (λ z. (u, z, B)) f ∙ ap {A = List BodyTerm} {B = TaskMeaning} (λ z. (u, m, z)) g

first_is : {v w : TaskMeaning} → v ≡ w → v.0 ≡ w.0
first_is e = ap (λ (z : TaskMeaning). z.0) e

count_is : {v w : TaskMeaning} → v ≡ w → v.1 ≡ w.1
count_is e = ap (λ (z : TaskMeaning). z.1) e

bodies_are : {v w : TaskMeaning} → v ≡ w → v.2 ≡ w.2
bodies_are e = ap (λ (z : TaskMeaning). z.2) e

-- of one part
one_is : (make : TaskTerm → TaskTerm) {v w : TaskMeaning} → v ≡ w → ◌≡◌ {A = TaskMeaning} (make v.0, v.1, v.2) (make w.0, w.1, w.2)
one_is make e = three_are (ap make (first_is e)) (count_is e) (bodies_are e)

-- of two parts, the second of which has its first body behind those of the first
two_are :
    (make : TaskTerm → TaskTerm → TaskTerm) (next : ℕ) (v w : TaskMeaning) (t : TaskTerm) (n : ℕ) (B : List BodyTerm) (u : ℕ → TaskTerm)
    (m : ℕ) (C : ℕ → List BodyTerm)
    → ◌≡◌ {A = TaskMeaning} (t, n, B) v → ◌≡◌ {A = TaskMeaning} (u (next + v.1), m, C (next + v.1)) w
    → ◌≡◌ {A = TaskMeaning} (make t (u (next + n)), n + m, B ++ C (next + n)) (make v.0 w.0, v.1 + w.1, v.2 ++ w.2)
two_are make next v w t n B u m C e f =
    three_are
    (ap (λ k. make t (u (next + k))) (count_is e) ∙ ap (make t) (first_is f) ∙ ap (λ z. make z w.0) (first_is e))
    (ap (λ k. k + m) (count_is e) ∙ ap (λ k. v.1 + k) (count_is f))
    (ap (λ k. B ++ C (next + k)) (count_is e) ∙ ap (λ z. B ++ z) (bodies_are f) ∙ ap (λ z. z ++ w.2) (bodies_are e))

-- a body
abbrev pub body_of : List Text → TaskTerm → BodyTerm
body_of scope t = record { scope = scope; binder = None; task = t }

abbrev pub step_body : List Text → Text → TaskTerm → BodyTerm
step_body scope x t = record { scope = scope; binder = Some x; task = t }

-- of a step
step_is :
    (make : TaskTerm → ℕ → TaskTerm) (scope : List Text) (x : Text) (next : ℕ) (v w : TaskMeaning)
    (t : TaskTerm) (n : ℕ) (B : List BodyTerm) (u : ℕ → TaskTerm) (m : ℕ) (C : ℕ → List BodyTerm)
    → ◌≡◌ {A = TaskMeaning} (t, n, B) v → ◌≡◌ {A = TaskMeaning} (u (suc (next + v.1)), m, C (suc (next + v.1))) w
    → ◌≡◌ {A = TaskMeaning} (make t (next + n), n + suc m, B ++ step_body scope x (u (suc (next + n))) ∷ C (suc (next + n)))
    (make v.0 (next + v.1), v.1 + suc w.1, v.2 ++ step_body scope x w.0 ∷ w.2)
step_is make scope x next v w t n B u m C e f =
    three_are
    (ap (λ k. make t (next + k)) (count_is e) ∙ ap (λ z. make z (next + v.1)) (first_is e))
    (ap (λ k. k + suc m) (count_is e) ∙ ap (λ k. v.1 + suc k) (count_is f))
    (ap (λ k. B ++ step_body scope x (u (suc (next + k))) ∷ C (suc (next + k))) (count_is e)
    ∙ ap (λ z. B ++ step_body scope x z ∷ C (suc (next + v.1))) (first_is f)
    ∙ ap (λ z. B ++ step_body scope x w.0 ∷ z) (bodies_are f) ∙ ap (λ z. z ++ step_body scope x w.0 ∷ w.2) (bodies_are e))

-- of an external choice
external_is :
    (scope : List Text) (next : ℕ) (v w : TaskMeaning) (t : TaskTerm) (n : ℕ) (B : List BodyTerm) (u : ℕ → TaskTerm) (m : ℕ)
    (C : ℕ → List BodyTerm)
    → ◌≡◌ {A = TaskMeaning} (t, n, B) v → ◌≡◌ {A = TaskMeaning} (u (suc (suc (next + v.1))), m, C (suc (suc (next + v.1)))) w
    → ◌≡◌ {A = TaskMeaning} (
      xor_task next (suc (next + n)),
      suc n + suc m,
      (body_of scope t ∷ B)
          ++ body_of scope (u (suc (suc (next + n)))) ∷ C (suc (suc (next + n))),
    )
    (xor_task next (suc (next + v.1)), suc v.1 + suc w.1, (body_of scope v.0 ∷ v.2) ++ body_of scope w.0 ∷ w.2)
external_is scope next v w t n B u m C e f =
    three_are
    (ap (λ k. xor_task next (suc (next + k))) (count_is e))
    (ap (λ k. suc k + suc m) (count_is e) ∙ ap (λ k. suc v.1 + suc k) (count_is f))
    (ap (λ k. (body_of scope t ∷ B) ++ body_of scope (u (suc (suc (next + k)))) ∷ C (suc (suc (next + k)))) (count_is e)
    ∙ ap (λ z. (body_of scope t ∷ B) ++ body_of scope z ∷ C (suc (suc (next + v.1)))) (first_is f)
    ∙ ap (λ z. (body_of scope t ∷ B) ++ body_of scope w.0 ∷ z) (bodies_are f)
    ∙ ap (λ z. (body_of scope z ∷ B) ++ body_of scope w.0 ∷ w.2) (first_is e)
    ∙ ap (λ z. (body_of scope v.0 ∷ z) ++ body_of scope w.0 ∷ w.2) (bodies_are e))

-- ---- atoms
module _ (scope : List Text) (next first : ℕ) (bs : List BodyText) where
  pub own_edit : (e : HostTerm) (k : ℕ) → Own 0 e k → OwnTask 0 scope next first bs (edit e, 0, []) (suc k)
  own_edit e k o =
      task_here 0 scope next first bs (edit e, 0, []) refl
      (token_and_part (keyword words.Edit 0) (word_spelled words.Edit 0) (λ n d. grammar.task_edit n d) (λ n d. refl)
      (λ n d p. ap {A = HostTerm} {B = TaskMeaning} (λ z. (edit z, 0, [])) p) (λ n d. refl) (at_place 0 e (omega arith) o))

  pub own_enter : (b : BasicTerm) (k : ℕ) → ShownType b k → OwnTask 0 scope next first bs (enter b, 0, []) (suc k)
  own_enter b k s =
      task_here 0 scope next first bs (enter b, 0, []) refl
      (token_and_part (keyword words.Enter 0) (word_spelled words.Enter 0) (λ n d. grammar.task_enter n d) (λ n d. refl)
      (λ n d p. ap {A = BasicTerm} {B = TaskMeaning} (λ z. (enter z, 0, [])) p) (λ n d. refl) s)

  pub own_fail : (b : BasicTerm) (k : ℕ) → ShownType b k → OwnTask 0 scope next first bs (fail b, 0, []) (suc k)
  own_fail b k s =
      task_here 0 scope next first bs (fail b, 0, []) refl
      (token_and_part (keyword words.Fail 0) (word_spelled words.Fail 0) (λ n d. grammar.task_fail n d) (λ n d. refl)
      (λ n d p. ap {A = BasicTerm} {B = TaskMeaning} (λ z. (fail z, 0, [])) p) (λ n d. refl) s)

  pub own_share : (x : Text) → IsSpelled (name x 0) → OwnTask 0 scope next first bs (share x, 0, []) 1
  own_share x s =
      task_here 0 scope next first bs (share x, 0, []) refl
      (two_tokens 1 (keyword words.Share 0) (name x 0) (word_spelled words.Share 0) s (λ n m. grammar.task_share n x m) (λ n m. refl)
      (λ n m. refl) (λ n m. omega arith))

  pub own_task_call : (x : Text) (es : List HostTerm) (k : ℕ) → IsSpelled (name x 0) → ShownArguments es k
      → OwnTask 0 scope next first bs (call_task x es, 0, []) (suc k)
  own_task_call x es k s a =
      task_here 0 scope next first bs (call_task x es, 0, []) refl
      (token_and_part (name x 0) s (λ n d. grammar.task_call x n d) (λ n d. refl)
      (λ n d p. ap {A = List HostTerm} {B = TaskMeaning} (λ z. (call_task x z, 0, [])) p) (λ n d. refl) a)

  -- ---- operators
  pub own_together : (v w : TaskMeaning) (j k : ℕ) → OwnTask 1 scope next first bs v j → OwnTask 0 scope (next + v.1) first bs w k
      → OwnTask 1 scope next first bs (and_task v.0 w.0, v.1 + w.1, v.2 ++ w.2) (1 + max j k)
  own_together v w j k o q =
      task_here 1 scope next first bs (and_task v.0 w.0, v.1 + w.1, v.2 ++ w.2) refl
      (token_between 1 (symbol signs.Pair 0) (sign_spelled signs.Pair 0) (λ x n y. grammar.joined grammar.chain x grammar.together n y)
      (λ x n y. refl)
      (λ x n y e f. two_are and_task next v w (meaning x next) (bodies x) (bodies_of x scope next) (meaning y) (bodies y)
      (bodies_of y scope) e f) (λ x n y. refl)
      (task_place 1 scope next first bs v o) (task_place 0 scope (next + v.1) first bs w q))

  pub own_internal : (v w : TaskMeaning) (j k : ℕ) → OwnTask 2 scope next first bs v j → OwnTask 1 scope (next + v.1) first bs w k
      → OwnTask 2 scope next first bs (or_task v.0 w.0, v.1 + w.1, v.2 ++ w.2) (1 + max j k)
  own_internal v w j k o q =
      task_here 2 scope next first bs (or_task v.0 w.0, v.1 + w.1, v.2 ++ w.2) refl
      (token_between 1 (symbol signs.InternalChoice 0) (sign_spelled signs.InternalChoice 0)
      (λ x n y. grammar.joined grammar.choice x grammar.internal n y) (λ x n y. refl)
      (λ x n y e f. two_are or_task next v w (meaning x next) (bodies x) (bodies_of x scope next) (meaning y) (bodies y)
      (bodies_of y scope) e f) (λ x n y. refl)
      (task_place 2 scope next first bs v o) (task_place 1 scope (next + v.1) first bs w q))

  -- the bodies of an external choice, and of a step, are looked up by their numbers
  pub own_external :
      (v w : TaskMeaning) (ls rs : List BodyText) (j k : ℕ)
      → body_numbered first bs next ≡ body_text (suc next) ls (body_of scope v.0)
      → body_numbered first bs (suc (next + v.1)) ≡ body_text (suc (suc (next + v.1))) rs (body_of scope w.0)
      → OwnTask 2 scope (suc next) (suc next) ls v j → OwnTask 1 scope (suc (suc (next + v.1))) (suc (suc (next + v.1))) rs w k
      → OwnTask 2 scope next first bs (
        xor_task next (suc (next + v.1)),
        suc v.1 + suc w.1,
        (body_of scope v.0 ∷ v.2) ++ body_of scope w.0
            ∷ w.2,
      ) (1 + max j k)
  own_external v w ls rs j k left right o q =
      let whole = let z : TaskMeaning = (
        xor_task next (suc (next + v.1)),
        suc v.1 + suc w.1,
        (body_of scope v.0 ∷ v.2) ++ body_of scope w.0
            ∷ w.2,
      ) in z in
      let texts =
      ap (λ b. body_at 2 b ++ codes "<?>" ∷ task_at 1 (suc (suc (next + v.1))) rs w.0) (sym left)
      ∙ ap (λ b. body_at 2 (body_numbered first bs next) ++ codes "<?>" ∷ body_at 1 b) (sym right) in
      task_here 2 scope next first bs whole refl
      (subst (λ ts. Shown (task_in 2 scope next) whole (1 + max j k) ts) texts
      (token_between 1 (symbol signs.ExternalChoice 0) (sign_spelled signs.ExternalChoice 0)
      (λ x n y. grammar.joined grammar.choice x grammar.external n y) (λ x n y. refl)
      (λ x n y e f. external_is scope next v w (meaning x (suc next)) (bodies x) (bodies_of x scope (suc next)) (meaning y) (bodies y)
      (bodies_of y scope) e f) (λ x n y. refl)
      (task_place 2 scope (suc next) (suc next) ls v o) (task_place 1 scope (suc (suc (next + v.1))) (suc (suc (next + v.1))) rs w q)))

  pub own_then :
      (x : Text) (v w : TaskMeaning) (ls : List BodyText) (j k : ℕ) → IsSpelled (name x 0)
      → body_numbered first bs (next + v.1) ≡ body_text (suc (next + v.1)) ls (step_body scope x w.0)
      → OwnTask 2 scope next first bs v j → OwnTask 3 (scope ++ x ∷ []) (suc (next + v.1)) (suc (next + v.1)) ls w k
      → OwnTask 3 scope next first bs (then_task v.0 (next + v.1), v.1 + suc w.1, v.2 ++ step_body scope x w.0 ∷ w.2) (suc (max j k))
  own_then x v w ls j k s there o q =
      let whole = let z : TaskMeaning = (then_task v.0 (next + v.1), v.1 + suc w.1, v.2 ++ step_body scope x w.0 ∷ w.2) in z in
      task_here 3 scope next first bs whole refl
      (subst (λ ts. Shown (task_in 3 scope next) whole (suc (max j k)) ts)
      (ap (λ b. task_at 2 first bs v.0 ++ codes ">>=" ∷ step_tokens b) (sym there))
      (three_tokens_between (symbol signs.InternalStep 0) (name x 0) (symbol signs.Dot 0) (sign_spelled signs.InternalStep 0) s
      (sign_spelled signs.Dot 0)
      (λ a n m r b. grammar.task_then a n x m r b) (λ a n m r b. refl)
      (λ a n m r b e f.
      step_is then_task scope x next v w (meaning a next) (bodies a) (bodies_of a scope next) (meaning b) (bodies b)
      (bodies_of b (scope ++ x ∷ [])) e f)
      (λ a n m r b. refl)
      (task_place 2 scope next first bs v o) (task_place 3 (scope ++ x ∷ []) (suc (next + v.1)) (suc (next + v.1)) ls w q)))

  pub own_next :
      (x : Text) (v w : TaskMeaning) (ls : List BodyText) (j k : ℕ) → IsSpelled (name x 0)
      → body_numbered first bs (next + v.1) ≡ body_text (suc (next + v.1)) ls (step_body scope x w.0)
      → OwnTask 2 scope next first bs v j → OwnTask 3 (scope ++ x ∷ []) (suc (next + v.1)) (suc (next + v.1)) ls w k
      → OwnTask 3 scope next first bs (next_task v.0 (next + v.1), v.1 + suc w.1, v.2 ++ step_body scope x w.0 ∷ w.2) (suc (max j k))
  own_next x v w ls j k s there o q =
      let whole = let z : TaskMeaning = (next_task v.0 (next + v.1), v.1 + suc w.1, v.2 ++ step_body scope x w.0 ∷ w.2) in z in
      task_here 3 scope next first bs whole refl
      (subst (λ ts. Shown (task_in 3 scope next) whole (suc (max j k)) ts)
      (ap (λ b. task_at 2 first bs v.0 ++ codes ">>?" ∷ step_tokens b) (sym there))
      (three_tokens_between (symbol signs.UserStep 0) (name x 0) (symbol signs.Dot 0) (sign_spelled signs.UserStep 0) s
      (sign_spelled signs.Dot 0)
      (λ a n m r b. grammar.task_next a n x m r b) (λ a n m r b. refl)
      (λ a n m r b e f.
      step_is next_task scope x next v w (meaning a next) (bodies a) (bodies_of a scope next) (meaning b) (bodies b)
      (bodies_of b (scope ++ x ∷ [])) e f)
      (λ a n m r b. refl)
      (task_place 2 scope next first bs v o) (task_place 3 (scope ++ x ∷ []) (suc (next + v.1)) (suc (next + v.1)) ls w q)))

  -- ---- tasks
  pub own_task_let : (x : Text) (e : HostTerm) (v : TaskMeaning) (j k : ℕ) → IsSpelled (name x 0) → Own 8 e j
      → OwnTask 3 (scope ++ x ∷ []) next first bs v k → OwnTask 3 scope next first bs (let_task x e v.0, v.1, v.2) (suc (max j k))
  own_task_let x e v j k s o q =
      task_here 3 scope next first bs (let_task x e v.0, v.1, v.2) refl
      (three_tokens_and_two_parts (keyword words.Let 0) (name x 0) (symbol signs.Define 0) (keyword words.In 0) (word_spelled words.Let 0) s
      (sign_spelled signs.Define 0) (word_spelled words.In 0)
      (λ n m r a p b. grammar.task_let n x m r a p b) (λ n m r a p b. refl)
      (λ n m r a p b f g. ap {A = HostTerm} {B = TaskMeaning}
      (λ z. (let_task x z (meaning b next), bodies b, bodies_of b (scope ++ x ∷ []) next)) f ∙ one_is (let_task x e) g)
      (λ n m r a p b. refl)
      (at_place 8 e (omega arith) o) (task_place 3 (scope ++ x ∷ []) next first bs v q))

  pub own_task_new : (x : Text) (e : HostTerm) (v : TaskMeaning) (j k : ℕ) → IsSpelled (name x 0) → Own 8 e j
      → OwnTask 3 (scope ++ x ∷ []) next first bs v k → OwnTask 3 scope next first bs (new_task x e v.0, v.1, v.2) (suc (max j k))
  own_task_new x e v j k s o q =
      task_here 3 scope next first bs (new_task x e v.0, v.1, v.2) refl
      (three_tokens_and_two_parts (keyword words.New 0) (name x 0) (symbol signs.Define 0) (keyword words.In 0) (word_spelled words.New 0) s
      (sign_spelled signs.Define 0) (word_spelled words.In 0)
      (λ n m r a p b. grammar.task_new n x m r a p b) (λ n m r a p b. refl)
      (λ n m r a p b f g. ap {A = HostTerm} {B = TaskMeaning}
      (λ z. (new_task x z (meaning b next), bodies b, bodies_of b (scope ++ x ∷ []) next)) f ∙ one_is (new_task x e) g)
      (λ n m r a p b. refl)
      (at_place 8 e (omega arith) o) (task_place 3 (scope ++ x ∷ []) next first bs v q))

  pub own_put : (x : Text) (e : HostTerm) (v : TaskMeaning) (j k : ℕ) → IsSpelled (name x 0) → Own 8 e j → OwnTask 3 scope next first bs v k
      → OwnTask 3 scope next first bs (put_task x e v.0, v.1, v.2) (suc (max j k))
  own_put x e v j k s o q =
      task_here 3 scope next first bs (put_task x e v.0, v.1, v.2) refl
      (two_tokens_and_two_parts (name x 0) (symbol signs.Assign 0) (symbol signs.Semicolon 0) s (sign_spelled signs.Assign 0)
      (sign_spelled signs.Semicolon 0)
      (λ n m a p b. grammar.task_put x n m a p b) (λ n m a p b. refl)
      (λ n m a p b f g. ap {A = HostTerm} {B = TaskMeaning} (λ z. (put_task x z (meaning b next), bodies b, bodies_of b scope next)) f
      ∙ one_is (put_task x e) g) (λ n m a p b. refl)
      (at_place 8 e (omega arith) o) (task_place 3 scope next first bs v q))

  pub own_task_if :
      (e : HostTerm) (v w : TaskMeaning) (i j k : ℕ) → Own 8 e i → OwnTask 3 scope next first bs v j
      → OwnTask 3 scope (next + v.1) first bs w k
      → OwnTask 3 scope next first bs (if_task e v.0 w.0, v.1 + w.1, v.2 ++ w.2) (suc (max i (max j k)))
  own_task_if e v w i j k p o q =
      task_here 3 scope next first bs (if_task e v.0 w.0, v.1 + w.1, v.2 ++ w.2) refl
      (token_before_each (keyword words.If 0) (keyword words.Then 0) (keyword words.Else 0) (word_spelled words.If 0)
      (word_spelled words.Then 0)
      (word_spelled words.Else 0)
      (λ n x m y r z. grammar.task_if n x m y r z) (λ n x m y r z. refl)
      (λ n x m y r z f g h. ap {A = HostTerm} {B = TaskMeaning}
      (λ c. (
        if_task c (meaning y next) (meaning z (next + bodies y)),
        bodies y + bodies z,
        bodies_of y scope next
            ++ bodies_of z scope (next + bodies y),
      )) f
      ∙ two_are (if_task e) next v w (meaning y next) (bodies y) (bodies_of y scope next) (meaning z) (bodies z) (bodies_of z scope) g h)
      (λ n x m y r z. refl)
      (at_place 8 e (omega arith) p) (task_place 3 scope next first bs v o) (task_place 3 scope (next + v.1) first bs w q))

  pub own_task_case :
      (x y : Text) (e : HostTerm) (v w : TaskMeaning) (i j k : ℕ) → IsSpelled (name x 0) → IsSpelled (name y 0) → Own 8 e i
      → OwnTask 3 scope next first bs v j → OwnTask 3 (scope ++ x ∷ y ∷ []) (next + v.1) first bs w k
      → OwnTask 3 scope next first bs (case_task e v.0 x y w.0, v.1 + w.1, v.2 ++ w.2) (suc (max i (max j k)))
  own_task_case x y e v w i j k sx sy p o q =
      task_here 3 scope next first bs (case_task e v.0 x y w.0, v.1 + w.1, v.2 ++ w.2) refl
      (case_of_three_parts x y sx sy (λ n d o1 o2 o3 o4 a p1 p2 p3 p4 p5 z. grammar.task_case n d o1 o2 o3 o4 a p1 x p2 p3 y p4 p5 z)
      (λ n d o1 o2 o3 o4 a p1 p2 p3 p4 p5 z. refl)
      (λ n d o1 o2 o3 o4 a p1 p2 p3 p4 p5 z f g h.
      ap {A = HostTerm} {B = TaskMeaning}
      (λ c. (
        case_task c (meaning a next) x y (meaning z (next + bodies a)),
        bodies a + bodies z,
        bodies_of a scope next
            ++ bodies_of z (scope ++ x ∷ y ∷ []) (next + bodies a),
      )) f
      ∙ two_are (λ s t. case_task e s x y t) next v w (meaning a next) (bodies a) (bodies_of a scope next) (meaning z) (bodies z)
      (bodies_of z (scope ++ x ∷ y ∷ [])) g h)
      (λ n d o1 o2 o3 o4 a p1 p2 p3 p4 p5 z. refl) (at_place 8 e (omega arith) p) (task_place 3 scope next first bs v o)
      (task_place 3 (scope ++ x ∷ y ∷ []) (next + v.1) first bs w q))
