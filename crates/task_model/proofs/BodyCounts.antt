-- A parse has as many bodies as it says.
use Rattle.std.proofs.Common.{◌≡◌, ℕ, suc, ◌+◌, List, [], ◌∷◌, ◌++◌, length, refl, ap, arith, length-append}
use Rattle.std.specs.Prelude.{None, Some}
use Rattle.task_model.specs.Terms.Text.{Text}
use Rattle.task_model.specs.Syntax.Grammar.{parameters, arguments, list, choice, chain, internal, external, Form, Parse, more_definitions, task_named, task_let, task_if, task_case, task_new, task_put, task_plain, task_then, task_next, task_group, single, joined, full}
use Rattle.task_model.specs.Syntax.Meaning.{meaning, bodies, bodies_of}

pub two : {A : Type 0} (xs ys : List A) {n m : ℕ} → length xs ≡ n → length ys ≡ m → length (xs ++ ys) ≡ n + m
two xs ys h k = let e = length-append xs ys in omega (arith, e, h, k)

pub bodies_count : {f : Form} (d : Parse f) (scope : List Text) (next : ℕ) → length (bodies_of d scope next) ≡ bodies d
bodies_count (more_definitions ds d) scope next = two _ _ (bodies_count ds scope next) (bodies_count d scope (next + bodies ds))
bodies_count (task_named p x q ps r b s t) scope next = bodies_count t _ next
bodies_count (task_let p x q r e s t) scope next = bodies_count t _ next
bodies_count (task_if p e q t r u) scope next = two _ _ (bodies_count t scope next) (bodies_count u scope (next + bodies t))
bodies_count (task_case p e q r s a t b x i j y k c u) scope next = two _ _ (bodies_count t scope next) (bodies_count u _ (next + bodies t))
bodies_count (task_new p x q r e s t) scope next = bodies_count t _ next
bodies_count (task_put x p q e r t) scope next = bodies_count t scope next
bodies_count (task_plain t) scope next = bodies_count t scope next
bodies_count (task_then t p x q r u) scope next =
    two (bodies_of t scope next) (record { scope = scope; binder = Some x; task = meaning u (suc (next + bodies t)) }
    ∷ bodies_of u (scope ++ x ∷ []) (suc (next + bodies t)))
    (bodies_count t scope next) (ap suc (bodies_count u _ (suc (next + bodies t))))
bodies_count (task_next t p x q r u) scope next =
    two (bodies_of t scope next) (record { scope = scope; binder = Some x; task = meaning u (suc (next + bodies t)) }
    ∷ bodies_of u (scope ++ x ∷ []) (suc (next + bodies t)))
    (bodies_count t scope next) (ap suc (bodies_count u _ (suc (next + bodies t))))
bodies_count (task_group p t q) scope next = bodies_count t scope next
bodies_count (single choice t) scope next = bodies_count t scope next
bodies_count (single chain t) scope next = bodies_count t scope next
bodies_count (joined choice t internal p u) scope next = two _ _ (bodies_count t scope next) (bodies_count u scope (next + bodies t))
bodies_count (joined choice t external p u) scope next =
    two (record { scope = scope; binder = None; task = meaning t (suc next) } ∷ bodies_of t scope (suc next))
    (record { scope = scope; binder = None; task = meaning u (suc (suc (next + bodies t))) }
    ∷ bodies_of u scope (suc (suc (next + bodies t))))
    (ap suc (bodies_count t scope (suc next))) (ap suc (bodies_count u scope (suc (suc (next + bodies t)))))
bodies_count (joined chain t o p u) scope next = two _ _ (bodies_count t scope next) (bodies_count u scope (next + bodies t))
bodies_count (single (list parameters) d) scope next = refl
bodies_count (single (list arguments) d) scope next = refl
bodies_count (joined (list parameters) d o p e) scope next = refl
bodies_count (joined (list arguments) d o p e) scope next = refl
bodies_count (full parameters p ps q) scope next = refl
bodies_count (full arguments p es q) scope next = refl
bodies_count d scope next = refl
