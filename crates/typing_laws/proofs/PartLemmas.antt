-- The parts of a task that stands in a program stand there.
use Rattle.std.proofs.Common.{◌≡◌, ◌⊎◌, inl, inr, ℕ, zero, suc, ◌+◌, ◌<◌, ◌≤◌, true, false, cond, List, [], ◌∷◌, ◌++◌, length, drop, Option, Some, None, refl, sym, ap, ◌∙◌, subst, arith, append_assoc}
use Rattle.std.specs.Prelude.{slice_get, ◌==◌}
use Rattle.std.specs.List.{All, AllByRecursion}
use Rattle.std.proofs.lemmas.Bool.{cases_lt}
use Rattle.std.proofs.lemmas.Bool.Decides.{nat_tests}
use Rattle.std.proofs.lemmas.List.{drop-drop}
use Rattle.std.proofs.Math.Seq.{drop-append_seam}
use Rattle.std.proofs.lemmas.List.Elements.{All-from_recursion, recursion_from_All}
use Rattle.task_model.specs.Terms.Text.{Text}
use Rattle.task_model.specs.Terms.Task.{TaskTerm, edit, enter, share, fail, call_task, then_task, next_task, and_task, or_task, xor_task, let_task, if_task, case_task, new_task, put_task, BodyTerm}
use Rattle.task_model.specs.Terms.Program.{ParamTerm, ProgramTerm}
use Rattle.task_model.specs.Running.Checked.{nodes_in, body_nodes, counts_from, nodes_of}
use Rattle.task_model.specs.Checking.FullTask.{FullTask, full_step, FullBody, full_body_numbered, step_with, step_over, sides_of, full_in, full_body, full_bodies}
use Rattle.task_model.specs.Checking.TypeOf.{listed_types}
use Rattle.task_model.specs.Checking.Placed.{Placed, edit_nodes}
use Rattle.task_laws.proofs.ParseLemmas.{both, body_passed}
use Rattle.task_laws.proofs.CountLemmas.{count_passed, count_here}
use Rattle.host_types.proofs.CountLemmas.{counted}

-- ---- lists
-- the first and the second part of what stands behind n items, and the first item
pub drop_first : {X : Type 0} (xs ys zs l : List X) (n : ℕ) → drop n l ≡ (xs ++ ys) ++ zs → drop n l ≡ xs ++ (ys ++ zs)
drop_first xs ys zs l n e = e ∙ append_assoc xs ys zs

pub drop_second : {X : Type 0} (xs ys zs l : List X) (n m : ℕ) → m ≡ length xs → drop n l ≡ (xs ++ ys) ++ zs → drop (n + m) l ≡ ys ++ zs
drop_second xs ys zs l n m is e =
    sym (drop-drop m n l) ∙ ap (λ z. drop m z) (drop_first xs ys zs l n e) ∙ ap (λ k. drop k (xs ++ (ys ++ zs))) is
    ∙ drop-append_seam xs (ys ++ zs)

pub drop_head : {X : Type 0} (l : List X) (n : ℕ) (x : X) (xs : List X) → drop n l ≡ x ∷ xs → slice_get l n ≡ Some x
drop_head [] zero x xs e = absurd (cc)
drop_head [] (suc n) x xs e = absurd (cc)
drop_head (y ∷ l) zero x xs e = cc
drop_head (y ∷ l) (suc n) x xs e = drop_head l n x xs e

module _ {X : Type 0} (P : X → Type 0) where
  pub recursion_first : (xs ys : List X) → AllByRecursion P (xs ++ ys) → AllByRecursion P xs
  recursion_first [] ys h = tt
  recursion_first (x ∷ xs) ys h = (h.0, recursion_first xs ys h.1)

  pub recursion_second : (xs ys : List X) → AllByRecursion P (xs ++ ys) → AllByRecursion P ys
  recursion_second [] ys h = h
  recursion_second (x ∷ xs) ys h = recursion_second xs ys h.1

  pub all_first : (xs ys : List X) → All P (xs ++ ys) → All P xs
  all_first xs ys h = All-from_recursion P xs (recursion_first xs ys (recursion_from_All P (xs ++ ys) h))

  pub all_second : (xs ys : List X) → All P (xs ++ ys) → All P ys
  all_second xs ys h = All-from_recursion P ys (recursion_second xs ys (recursion_from_All P (xs ++ ys) h))

-- ---- bodies that are there
-- a step over a body that is there
pub record IsStep (o : Option FullBody) (t : FullTask) : Type 0 where
  pub body : FullBody
  pub is : o ≡ Some body
  pub name : Text
  pub binder : body.binder ≡ Some name
  pub same : step_over t o ≡ full_step t body.scope name body.task

-- where nothing is absent, a step's body is there and binds a name
pub step_there : (xs : List Text) (t : FullTask) (o : Option FullBody) → Placed xs (step_over t o) → IsStep o t
step_there xs t None h = absurd h
step_there xs t (Some b) h = by_binder b.binder refl h
  where
    by_binder : (x : Option Text) → b.binder ≡ x → Placed xs (step_over t (Some b)) → IsStep (Some b) t
    by_binder None e h = absurd (subst (λ z. Placed xs (step_with t b.scope b.task z)) e h)
    by_binder (Some x) e h = record { body = b; is = refl; name = x; binder = e; same = ap (step_with t b.scope b.task) e }

-- a choice of bodies that are there
pub record AreSides (o q : Option FullBody) : Type 0 where
  pub left : FullBody
  pub right : FullBody
  pub first : o ≡ Some left
  pub second : q ≡ Some right

-- and both sides of a choice are there
pub sides_there : (xs : List Text) (o q : Option FullBody) → Placed xs (sides_of o q) → AreSides o q
sides_there xs None q h = absurd h
sides_there xs (Some b) None h = absurd h
sides_there xs (Some b) (Some c) h = record { left = b; right = c; first = refl; second = refl }

-- ---- counts of nodes
module _ (i : ℕ) (cs : List ℕ) (fs : List FullBody)
    (there : (j : ℕ) (b : FullBody) (xs : List Text) → full_body_numbered i fs j ≡ Some b → Placed xs b.task
    → body_nodes cs i j ≡ edit_nodes b.task) where
  -- the nodes of a step are those of its left and of its body
  step_nodes : (t : TaskTerm) (j : ℕ) (xs : List Text) → nodes_in cs i t ≡ edit_nodes (full_in i fs t)
      → Placed xs (step_over (full_in i fs t) (full_body_numbered i fs j))
      → nodes_in cs i t + body_nodes cs i j ≡ edit_nodes (step_over (full_in i fs t) (full_body_numbered i fs j))
  step_nodes t j xs e h =
      let s = step_there xs (full_in i fs t) (full_body_numbered i fs j) h in
      let is = s.same in
      let p = subst (Placed xs) is h in
      both (λ y z. y + z) e (there j s.body (xs ++ s.name ∷ []) s.is p.2) ∙ ap edit_nodes (sym is)

  -- where bodies have as many nodes as are counted, so has a task
  nodes_if : (t : TaskTerm) (xs : List Text) → Placed xs (full_in i fs t) → nodes_in cs i t ≡ edit_nodes (full_in i fs t)
  nodes_if (edit e) xs h = refl
  nodes_if (enter b) xs h = refl
  nodes_if (share x) xs h = refl
  nodes_if (fail b) xs h = refl
  nodes_if (call_task f es) xs h = refl
  nodes_if (then_task t j) xs h =
      let s = step_there xs (full_in i fs t) (full_body_numbered i fs j) h in
      step_nodes t j xs (nodes_if t xs (subst (Placed xs) s.same h).0) h
  nodes_if (next_task t j) xs h =
      let s = step_there xs (full_in i fs t) (full_body_numbered i fs j) h in
      step_nodes t j xs (nodes_if t xs (subst (Placed xs) s.same h).0) h
  nodes_if (and_task t u) xs h = both (λ y z. y + z) (nodes_if t xs h.0) (nodes_if u xs h.1)
  nodes_if (or_task t u) xs h = both (λ y z. y + z) (nodes_if t xs h.0) (nodes_if u xs h.1)
  nodes_if (xor_task j k) xs h =
      let s = sides_there xs (full_body_numbered i fs j) (full_body_numbered i fs k) h in
      let same = both sides_of s.first s.second in
      let p = subst (Placed xs) same h in
      both (λ y z. y + z) (there j s.left xs s.first p.1) (there k s.right xs s.second p.3) ∙ ap edit_nodes (sym same)
  nodes_if (let_task x e t) xs h = nodes_if t (xs ++ x ∷ []) h
  nodes_if (if_task e t u) xs h = both (λ y z. y + z) (nodes_if t xs h.0) (nodes_if u xs h.1)
  nodes_if (case_task e t x y u) xs h = both (λ y z. y + z) (nodes_if t xs h.0) (nodes_if u ((xs ++ x ∷ []) ++ y ∷ []) h.1)
  nodes_if (new_task x e t) xs h = nodes_if t (xs ++ x ∷ []) h
  nodes_if (put_task x e t) xs h = nodes_if t xs h

-- a body that is found has the first number or a later one
numbered_from : (fs : List FullBody) (i j : ℕ) (b : FullBody) → full_body_numbered i fs j ≡ Some b → i ≤ j
numbered_from [] i j b e = absurd (cc)
numbered_from (f ∷ fs) i j b e = by_order (cases_lt j i) (numbered_from fs (suc i) j b)
  where
    by_order : (j < i) ⊎ (i ≤ j) → (full_body_numbered (suc i) fs j ≡ Some b → suc i ≤ j) → i ≤ j
    by_order (inr le) rest = le
    by_order (inl lt) rest =
        let apart : (j == i) ≡ false = grind (arith, nat_tests, lt) in
        let le = rest (ap (λ c. cond c (Some f) (full_body_numbered (suc i) fs j)) (sym apart) ∙ e) in
        omega (arith, lt, le)

-- of these bodies, from number i on, the nodes are counted
abbrev AreCounted : ℕ → List BodyTerm → Type 0
AreCounted i bs = (j : ℕ) (b : FullBody) (xs : List Text) → full_body_numbered i (full_bodies i bs) j ≡ Some b → Placed xs b.task
    → body_nodes (counts_from i bs) i j ≡ edit_nodes b.task

pub body_nodes_are : (bs : List BodyTerm) (i j : ℕ) (b : FullBody) (xs : List Text) → full_body_numbered i (full_bodies i bs) j ≡ Some b
    → Placed xs b.task → body_nodes (counts_from i bs) i j ≡ edit_nodes b.task
body_nodes_are [] i j b xs e h = absurd (cc)
body_nodes_are (d ∷ bs) i j b xs e h = by_order (cases_lt i j) (body_nodes_are bs (suc i))
  where
    by_order : (i < j) ⊎ (j ≤ i) → AreCounted (suc i) bs → body_nodes (counts_from i (d ∷ bs)) i j ≡ edit_nodes b.task
    by_order (inl lt) rest =
        let le : suc i ≤ j = omega (arith, lt) in
        count_passed i d bs j le ∙ rest j b xs (sym (body_passed i d bs j le) ∙ e) h
    by_order (inr le) rest =
        let from = numbered_from (full_bodies i (d ∷ bs)) i j b e in
        let same : i ≡ j = omega (arith, le, from) in
        let here : (j == i) ≡ true = grind (arith, nat_tests, same) in
        let found : Some (full_body (suc i) (full_bodies (suc i) bs) d) ≡ Some b =
        ap (λ c. cond c (Some (full_body (suc i) (full_bodies (suc i) bs) d)) (full_body_numbered (suc i) (full_bodies (suc i) bs) j))
        (sym here) ∙ e in
        let is : full_body (suc i) (full_bodies (suc i) bs) d ≡ b = cc in
        let task = ap (λ (f : FullBody). f.task) is in
        subst (λ k. body_nodes (counts_from i (d ∷ bs)) i k ≡ edit_nodes b.task) same
        (count_here i d bs ∙ nodes_if (suc i) (counts_from (suc i) bs) (full_bodies (suc i) bs) rest d.task xs (subst (Placed xs)
        (sym task) h)
        ∙ ap edit_nodes task)

-- where no body is absent, a task has as many nodes as are counted, and a type for each
pub nodes_are : (p : ProgramTerm) (t : TaskTerm) (xs : List Text) → Placed xs (full_in 0 (full_bodies 0 p.bodies) t)
    → nodes_of p t ≡ edit_nodes (full_in 0 (full_bodies 0 p.bodies) t)
nodes_are p t xs h = nodes_if 0 (counts_from 0 p.bodies) (full_bodies 0 p.bodies) (body_nodes_are p.bodies 0) t xs h

pub types_are : (p : ProgramTerm) (s : List ParamTerm) (t : TaskTerm) (xs : List Text) → Placed xs (full_in 0 (full_bodies 0 p.bodies) t)
    → nodes_of p t ≡ length (listed_types p.defs s (full_in 0 (full_bodies 0 p.bodies) t))
types_are p s t xs h = nodes_are p t xs h ∙ sym (counted p.defs s (full_in 0 (full_bodies 0 p.bodies) t))
