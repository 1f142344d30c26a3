-- Tasks as they stand in a parse, with their bodies in place.
use Rattle.std.proofs.Common.{◌≡◌, ℕ, suc, ◌+◌, ◌≤◌, true, false, List, [], ◌∷◌, ◌++◌, length, refl, ap, ◌∙◌, subst, arith, le_refl, append_assoc}
use Rattle.std.specs.Prelude.{Option, Some, None, ◌==◌}
use Rattle.std.proofs.lemmas.Bool.Decides.{nat_tests}
use Rattle.task_model.specs.Terms.Text.{Text}
use Rattle.task_model.specs.Terms.Task.{TaskTerm, share, BodyTerm}
use Rattle.task_model.specs.Syntax.Grammar.{Form, task, task_atom, series, choice, chain, internal, external, Parse, task_let, task_if, task_case, task_new, task_put, task_plain, task_then, task_next, task_edit, task_enter, task_share, task_fail, task_call, task_group, single, joined}
use Rattle.task_model.specs.Syntax.Meaning.{Meaning, meaning, bodies, bodies_of}
use Rattle.task_model.proofs.BodyCounts.{bodies_count}
use Rattle.task_model.specs.Checking.FullTask.{FullTask, full_edit, full_enter, full_share, full_fail, full_call, full_step, full_and, full_or, full_xor, full_let, full_if, full_case, full_new, full_put, full_absent, FullBody, full_body_numbered, step_over, sides_of, full_in, full_body, full_bodies}

-- the forms of tasks
abbrev pub IsTask : Form → Type 0
IsTask task = Unit {0}
IsTask task_atom = Unit {0}
IsTask (series choice) = Unit {0}
IsTask (series chain) = Unit {0}
IsTask f = ⊥

-- the term of what stands for a task, where its first body has this number
abbrev pub term_at : (f : Form) → Meaning f → ℕ → TaskTerm
term_at task m next = m next
term_at task_atom m next = m next
term_at (series choice) m next = m next
term_at (series chain) m next = m next
term_at f m next = share []

-- the body of this number, whose task is this
abbrev pub body_of : {f : Form} → Parse f → List Text → Option Text → ℕ → BodyTerm
body_of {f} d xs binder next = record { scope = xs; binder = binder; task = term_at f (meaning d) (suc next) }

-- the task of a parse with its bodies in place, where these names are in scope
abbrev pub whole : {f : Form} → Parse f → List Text → FullTask
whole (task_let p x q r e s t) xs = full_let x (meaning e) (whole t (xs ++ x ∷ []))
whole (task_if p e q t r u) xs = full_if (meaning e) (whole t xs) (whole u xs)
whole (task_case p e q r s a t b x i j y k c u) xs = full_case (meaning e) (whole t xs) x y (whole u (xs ++ x ∷ y ∷ []))
whole (task_new p x q r e s t) xs = full_new x (meaning e) (whole t (xs ++ x ∷ []))
whole (task_put x p q e r t) xs = full_put x (meaning e) (whole t xs)
whole (task_plain t) xs = whole t xs
whole (task_then t p x q r u) xs = full_step (whole t xs) xs x (whole u (xs ++ x ∷ []))
whole (task_next t p x q r u) xs = full_step (whole t xs) xs x (whole u (xs ++ x ∷ []))
whole (task_edit p e) xs = full_edit (meaning e)
whole (task_enter p b) xs = full_enter (meaning b)
whole (task_share p x q) xs = full_share x
whole (task_fail p b) xs = full_fail (meaning b)
whole (task_call x p es) xs = full_call x (meaning es)
whole (task_group p t q) xs = whole t xs
whole (single choice t) xs = whole t xs
whole (single chain t) xs = whole t xs
whole (joined choice t internal p u) xs = full_or (whole t xs) (whole u xs)
whole (joined choice t external p u) xs = full_xor xs (whole t xs) xs (whole u xs)
whole (joined chain t o p u) xs = full_and (whole t xs) (whole u xs)
whole d xs = full_absent

-- ---- bodies by their numbers
-- of a function that looks up the bodies of a list, of which the first has a given number, and passes those before
module _ {X : Type 0} (look : ℕ → List BodyTerm → ℕ → X)
    (pass : (n : ℕ) (b : BodyTerm) (bs : List BodyTerm) (j : ℕ) → suc n ≤ j → look n (b ∷ bs) j ≡ look (suc n) bs j) where
  -- from this number on, these bodies are found
  abbrev pub Finds : (ℕ → X) → ℕ → List BodyTerm → Type 0
  Finds f next bs = (j : ℕ) → next ≤ j → f j ≡ look next bs j

  found_behind : (next m : ℕ) (front bs : List BodyTerm) (j : ℕ) → m ≡ next + length front → m ≤ j
      → look next (front ++ bs) j ≡ look m bs j
  found_behind next m [] bs j e le = let same : next ≡ m = omega (arith, e) in ap (λ n. look n bs j) same
  found_behind next m (b ∷ front) bs j e le =
      pass next b (front ++ bs) j (omega (arith, e, le)) ∙ found_behind (suc next) m front bs j (omega (arith, e)) le

  -- the bodies of a first part, and those of what follows it
  pub finds_first : (f : ℕ → X) (next : ℕ) (front more after : List BodyTerm) → Finds f next ((front ++ more) ++ after)
      → Finds f next (front ++ (more ++ after))
  finds_first f next front more after h = subst (Finds f next) (append_assoc front more after) h

  pub finds_second : (f : ℕ → X) (next m : ℕ) (front more after : List BodyTerm) → m ≡ next + length front
      → Finds f next ((front ++ more) ++ after) → Finds f m (more ++ after)
  finds_second f next m front more after e h = λ j le.
      finds_first f next front more after h j (omega (arith, e, le)) ∙ found_behind next m front (more ++ after) j e le

-- ---- bodies in place
pub body_passed : (n : ℕ) (b : BodyTerm) (bs : List BodyTerm) (j : ℕ) → suc n ≤ j
    → full_body_numbered n (full_bodies n (b ∷ bs)) j ≡ full_body_numbered (suc n) (full_bodies (suc n) bs) j
body_passed n b bs j le = let apart : (j == n) ≡ false = grind (arith, nat_tests, le) in rw apart refl

pub body_here : (n : ℕ) (b : BodyTerm) (bs : List BodyTerm)
    → full_body_numbered n (full_bodies n (b ∷ bs)) n ≡ Some (full_body (suc n) (full_bodies (suc n) bs) b)
body_here n b bs = let here : (n == n) ≡ true = grind (arith, nat_tests) in rw here refl

-- from this number on, the bodies in place are these
abbrev pub Places : ℕ → List FullBody → ℕ → List BodyTerm → Type 0
Places i fs next bs = Finds (λ n bs j. full_body_numbered n (full_bodies n bs) j) body_passed (full_body_numbered i fs) next bs

pub places_first : (i : ℕ) (fs : List FullBody) (next : ℕ) (front more after : List BodyTerm) → Places i fs next ((front ++ more) ++ after)
    → Places i fs next (front ++ (more ++ after))
places_first i fs next front more after h =
    finds_first (λ n bs j. full_body_numbered n (full_bodies n bs) j) body_passed (full_body_numbered i fs) next front more after h

pub places_second : (i : ℕ) (fs : List FullBody) (next m : ℕ) (front more after : List BodyTerm) → m ≡ next + length front
    → Places i fs next ((front ++ more) ++ after) → Places i fs m (more ++ after)
places_second i fs next m front more after e h =
    finds_second (λ n bs j. full_body_numbered n (full_bodies n bs) j) body_passed (full_body_numbered i fs) next m front more after e h

pub both : {A B C : Type 0} (make : A → B → C) {a a' : A} {b b' : B} → a ≡ a' → b ≡ b' → make a b ≡ make a' b'
both make {a' = a'} {b = b} e k = ap (λ z. make z b) e ∙ ap (λ z. make a' z) k

-- where the list has the bodies of a parse, its task is whole
abbrev pub IsInPlace : {f : Form} → Parse f → List Text → ℕ → Type 0
IsInPlace {f} d xs next = (after : List BodyTerm) (i : ℕ) (fs : List FullBody) → Places i fs next (bodies_of d xs next ++ after)
    → full_in i fs (term_at f (meaning d) next) ≡ whole d xs

halves_in_place : {f g : Form} (make : FullTask → FullTask → FullTask) (t : Parse f) (u : Parse g) (xs ys : List Text) (next : ℕ)
    → IsInPlace t xs next → IsInPlace u ys (next + bodies t) → (after : List BodyTerm) (i : ℕ) (fs : List FullBody)
    → Places i fs next ((bodies_of t xs next ++ bodies_of u ys (next + bodies t)) ++ after)
    → make (full_in i fs (term_at f (meaning t) next)) (full_in i fs (term_at g (meaning u) (next + bodies t)))
    ≡ make (whole t xs) (whole u ys)
halves_in_place make t u xs ys next one two after i fs k =
    let many = bodies_count t xs next in
    let m = next + bodies t in
    let inner = bodies_of u ys m in
    both make (one (inner ++ after) i fs (places_first i fs next (bodies_of t xs next) inner after k))
    (two after i fs (places_second i fs next m (bodies_of t xs next) inner after (omega (arith, many)) k))

step_in_place : (t : Parse (series choice)) (p : ℕ) (x : Text) (q r : ℕ) (u : Parse task) (xs : List Text) (next : ℕ)
    → IsInPlace t xs next → IsInPlace u (xs ++ x ∷ []) (suc (next + bodies t)) → IsInPlace (task_then t p x q r u) xs next
step_in_place t p x q r u xs next one two after i fs k =
    let many = bodies_count t xs next in
    let m = next + bodies t in
    let b = body_of u xs (Some x) m in
    let inner = bodies_of u (xs ++ x ∷ []) (suc m) in
    let there = places_second i fs next m (bodies_of t xs next) (b ∷ inner) after (omega (arith, many)) k in
    ap (λ z. step_over (full_in i fs (meaning t next)) z) (there m (le_refl m) ∙ body_here m b (inner ++ after))
    ∙ both (λ y z. full_step y xs x z) (one (b ∷ inner ++ after) i fs (places_first i fs next (bodies_of t xs next) (b ∷ inner) after k))
    (two after (suc m) (full_bodies (suc m) (inner ++ after)) (λ j le. refl))

pub in_place : {f : Form} (d : Parse f) → IsTask f → (xs : List Text) (next : ℕ) → IsInPlace d xs next
in_place (task_let p x q r e s t) h xs next after i fs k = ap (λ z. full_let x (meaning e) z) (in_place t tt _ next after i fs k)
in_place (task_if p e q t r u) h xs next after i fs k =
    halves_in_place (λ y z. full_if (meaning e) y z) t u xs xs next (in_place t tt xs next) (in_place u tt xs (next + bodies t))
    after i fs k
in_place (task_case p e q r s a t b x i' j y k' c u) h xs next after i fs k =
    let ys = xs ++ x ∷ y ∷ [] in
    halves_in_place (λ v z. full_case (meaning e) v x y z) t u xs ys next (in_place t tt xs next) (in_place u tt ys (next + bodies t))
    after i fs k
in_place (task_new p x q r e s t) h xs next after i fs k = ap (λ z. full_new x (meaning e) z) (in_place t tt _ next after i fs k)
in_place (task_put x p q e r t) h xs next after i fs k = ap (λ z. full_put x (meaning e) z) (in_place t tt xs next after i fs k)
in_place (task_plain t) h xs next after i fs k = in_place t tt xs next after i fs k
in_place (task_then t p x q r u) h xs next after i fs k =
    step_in_place t p x q r u xs next (in_place t tt xs next) (in_place u tt (xs ++ x ∷ []) (suc (next + bodies t))) after i fs k
in_place (task_next t p x q r u) h xs next after i fs k =
    step_in_place t p x q r u xs next (in_place t tt xs next) (in_place u tt (xs ++ x ∷ []) (suc (next + bodies t))) after i fs k
in_place (task_edit p e) h xs next after i fs k = refl
in_place (task_enter p b) h xs next after i fs k = refl
in_place (task_share p x q) h xs next after i fs k = refl
in_place (task_fail p b) h xs next after i fs k = refl
in_place (task_call x p es) h xs next after i fs k = refl
in_place (task_group p t q) h xs next after i fs k = in_place t tt xs next after i fs k
in_place (single choice t) h xs next after i fs k = in_place t tt xs next after i fs k
in_place (single chain t) h xs next after i fs k = in_place t tt xs next after i fs k
in_place (joined choice t internal p u) h xs next after i fs k =
    halves_in_place (λ y z. full_or y z) t u xs xs next (in_place t tt xs next) (in_place u tt xs (next + bodies t)) after i fs k
in_place (joined choice t external p u) h xs next after i fs k =
    let many = bodies_count t xs (suc next) in
    let m = suc (next + bodies t) in
    let left = body_of t xs None next in
    let right = body_of u xs None m in
    let first = bodies_of t xs (suc next) in
    let second = bodies_of u xs (suc m) in
    let there = places_second i fs next m (left ∷ first) (right ∷ second) after (omega (arith, many)) k in
    let whole_first : (first ++ right ∷ second) ++ after ≡ first ++ (right ∷ second ++ after) = append_assoc first (right ∷ second) after in
    both (λ y z. sides_of y z)
    (k next (le_refl next) ∙ body_here next left ((first ++ right ∷ second) ++ after))
    (there m (le_refl m) ∙ body_here m right (second ++ after))
    ∙ both (λ y z. full_xor xs y xs z)
    (in_place t tt xs (suc next) (right ∷ second ++ after) (suc next) (full_bodies (suc next) ((first ++ right ∷ second) ++ after))
    (subst (λ l. Places (suc next) (full_bodies (suc next) ((first ++ right ∷ second) ++ after)) (suc next) l) whole_first (λ j le. refl)))
    (in_place u tt xs (suc m) after (suc m) (full_bodies (suc m) (second ++ after)) (λ j le. refl))
in_place (joined chain t o p u) h xs next after i fs k =
    halves_in_place (λ y z. full_and y z) t u xs xs next (in_place t tt xs next) (in_place u tt xs (next + bodies t)) after i fs k
in_place d h xs next after i fs k = absurd h
