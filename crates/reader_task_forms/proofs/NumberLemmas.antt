-- The numbers of a task's bodies: what it stands for where they have the next ones, and how far they go.
use Rattle.std.proofs.Common.{◌≡◌, ℕ, suc, ◌+◌, ◌≤◌, List, [], ◌∷◌, ◌++◌, length, map, All, refl, sym, ap, ◌∙◌, subst, arith}
use Rattle.std.specs.Prelude.{Option, None, Some}
use Rattle.std.proofs.lemmas.List.{map-append}
use Rattle.std.proofs.lemmas.List.Elements.{All-append, All-cons, All-nil}
use Rattle.task_model.specs.Terms.Text.{Text}
use Rattle.task_model.specs.Terms.Task.{TaskTerm, share, BodyTerm}
use Rattle.task_model.specs.Terms.Task as tasks
use Rattle.task_model.specs.Syntax.Grammar.{Form, task, task_atom, series, choice, chain, internal, external, Parse, more_definitions, task_named, task_let, task_if, task_case, task_new, task_put, task_plain, task_then, task_next, task_group, list, parameters, arguments, single, joined, full}
use Rattle.task_model.specs.Syntax.Meaning.{Meaning, meaning, bodies, bodies_of}
use Rattle.task_model.proofs.BodyCounts.{bodies_count}
use Rattle.reader_grammar.specs.Parts.{ParsedTerm}
use Rattle.reader_tasks.specs.Tasks.{shown_choice}
use Rattle.reader_tasks.specs.Numbers.{renumbered, body_renumbered, IsNumberedBelow, IsBodyNumberedBelow}

later : (next n : ℕ) → suc next + n ≡ suc (next + n)
later next n = omega arith

-- the term of what stands for a task
abbrev pub term_at : (f : Form) → Meaning f → ℕ → TaskTerm
term_at task m next = m next
term_at task_atom m next = m next
term_at (series choice) m next = m next
term_at (series chain) m next = m next
term_at f m next = share []

pub term_next : {f : Form} (d : Parse f) (next : ℕ) → term_at f (meaning d) (suc next) ≡ renumbered (term_at f (meaning d) next)
term_next (task_let p x q r e s t) next = ap (λ k. tasks.let_task x (meaning e) k) (term_next t next)
term_next (task_if p e q t r u) next =
    ap (λ n. tasks.if_task (meaning e) (meaning t (suc next)) (meaning u n)) (later next (bodies t))
    ∙ ap (λ k. tasks.if_task (meaning e) k (meaning u (suc (next + bodies t)))) (term_next t next)
    ∙ ap (λ k. tasks.if_task (meaning e) (renumbered (meaning t next)) k) (term_next u (next + bodies t))
term_next (task_case p e q r s a t b x i j y k c u) next =
    ap (λ n. tasks.case_task (meaning e) (meaning t (suc next)) x y (meaning u n)) (later next (bodies t))
    ∙ ap (λ v. tasks.case_task (meaning e) v x y (meaning u (suc (next + bodies t)))) (term_next t next)
    ∙ ap (λ v. tasks.case_task (meaning e) (renumbered (meaning t next)) x y v) (term_next u (next + bodies t))
term_next (task_new p x q r e s t) next = ap (λ k. tasks.new_task x (meaning e) k) (term_next t next)
term_next (task_put x p q e r t) next = ap (λ k. tasks.put_task x (meaning e) k) (term_next t next)
term_next (task_plain t) next = term_next t next
term_next (task_then t p x q r u) next = ap (λ n. tasks.then_task (meaning t (suc next)) n) (later next (bodies t))
    ∙ ap (λ k. tasks.then_task k (suc (next + bodies t))) (term_next t next)
term_next (task_next t p x q r u) next = ap (λ n. tasks.next_task (meaning t (suc next)) n) (later next (bodies t))
    ∙ ap (λ k. tasks.next_task k (suc (next + bodies t))) (term_next t next)
term_next (task_group p t q) next = term_next t next
term_next (single choice t) next = term_next t next
term_next (single chain t) next = term_next t next
term_next (joined choice t internal p u) next =
    ap (λ n. tasks.or_task (meaning t (suc next)) (meaning u n)) (later next (bodies t))
    ∙ ap (λ k. tasks.or_task k (meaning u (suc (next + bodies t)))) (term_next t next)
    ∙ ap (λ k. tasks.or_task (renumbered (meaning t next)) k) (term_next u (next + bodies t))
term_next (joined choice t external p u) next = ap (λ n. tasks.xor_task (suc next) (suc n)) (later next (bodies t))
term_next (joined chain t o p u) next =
    ap (λ n. tasks.and_task (meaning t (suc next)) (meaning u n)) (later next (bodies t))
    ∙ ap (λ k. tasks.and_task k (meaning u (suc (next + bodies t)))) (term_next t next)
    ∙ ap (λ k. tasks.and_task (renumbered (meaning t next)) k) (term_next u (next + bodies t))
term_next d next = refl

both : (xs ys us vs : List BodyTerm) → xs ≡ map body_renumbered us → ys ≡ map body_renumbered vs → xs ++ ys ≡ map body_renumbered (us ++ vs)
both xs ys us vs h k = ap (λ l. l ++ ys) h ∙ ap (λ l. map body_renumbered us ++ l) k ∙ sym (map-append body_renumbered us vs)

behind : (scope : List Text) (binder : Option Text) (t u : TaskTerm) (ys vs : List BodyTerm) → t ≡ renumbered u
    → ys ≡ map body_renumbered vs → ◌≡◌ {A = List BodyTerm} (record {
      scope = scope;
      binder = binder;
      task = t;
    } ∷ ys) (map body_renumbered (record { scope = scope; binder = binder; task = u } ∷ vs))
behind scope binder t u ys vs h k = ap (λ t. record {
  scope = scope;
  binder = binder;
  task = t;
} ∷ ys) h ∙ ap (λ l. record { scope = scope; binder = binder; task = renumbered u } ∷ l) k

-- the bodies of two parts, the second behind the first, and of a step, by those of both
two_next : {f g : Form} (t : Parse f) (u : Parse g) (scope inner : List Text) (next : ℕ)
    → bodies_of t scope (suc next) ≡ map body_renumbered (bodies_of t scope next)
    → bodies_of u inner (suc (next + bodies t)) ≡ map body_renumbered (bodies_of u inner (next + bodies t))
    → bodies_of t scope (suc next) ++ bodies_of u inner (suc next + bodies t)
    ≡ map body_renumbered (bodies_of t scope next ++ bodies_of u inner (next + bodies t))
two_next t u scope inner next left right =
    ap (λ n. bodies_of t scope (suc next) ++ bodies_of u inner n) (later next (bodies t)) ∙ both _ _ _ _ left right

step_next : (t : Parse (series choice)) (p : ℕ) (x : Text) (q r : ℕ) (u : Parse task) (scope : List Text) (next : ℕ)
    → bodies_of t scope (suc next) ≡ map body_renumbered (bodies_of t scope next)
    → bodies_of u (scope ++ x ∷ []) (suc (suc (next + bodies t)))
    ≡ map body_renumbered (bodies_of u (scope ++ x ∷ []) (suc (next + bodies t)))
    → bodies_of (task_then t p x q r u) scope (suc next) ≡ map body_renumbered (bodies_of (task_then t p x q r u) scope next)
step_next t p x q r u scope next left right =
    ap (λ n. bodies_of t scope (suc next) ++ (record {
      scope = scope;
      binder = Some x;
      task = meaning u (suc n);
    } ∷ bodies_of u (scope ++ x ∷ []) (suc n))) (later next (bodies t))
    ∙ both _ _ _ _ left (behind _ _ _ _ _ _ (term_next u (suc (next + bodies t))) right)

pub bodies_next : {f : Form} (d : Parse f) (scope : List Text) (next : ℕ) → bodies_of d scope (suc next)
    ≡ map body_renumbered (bodies_of d scope next)
bodies_next (more_definitions ds d) scope next = two_next ds d scope scope next (bodies_next ds scope next)
    (bodies_next d scope (next + bodies ds))
bodies_next (task_named p x q ps r b s t) scope next = bodies_next t _ next
bodies_next (task_let p x q r e s t) scope next = bodies_next t _ next
bodies_next (task_if p e q t r u) scope next = two_next t u scope scope next (bodies_next t scope next)
    (bodies_next u scope (next + bodies t))
bodies_next (task_case p e q r s a t b x i j y k c u) scope next = two_next t u scope (scope ++ x ∷ y ∷ []) next
    (bodies_next t scope next) (bodies_next u _ (next + bodies t))
bodies_next (task_new p x q r e s t) scope next = bodies_next t _ next
bodies_next (task_put x p q e r t) scope next = bodies_next t scope next
bodies_next (task_plain t) scope next = bodies_next t scope next
bodies_next (task_then t p x q r u) scope next = step_next t p x q r u scope next (bodies_next t scope next)
    (bodies_next u _ (suc (next + bodies t)))
bodies_next (task_next t p x q r u) scope next = step_next t p x q r u scope next (bodies_next t scope next)
    (bodies_next u _ (suc (next + bodies t)))
bodies_next (task_group p t q) scope next = bodies_next t scope next
bodies_next (single choice t) scope next = bodies_next t scope next
bodies_next (single chain t) scope next = bodies_next t scope next
bodies_next (joined choice t internal p u) scope next = two_next t u scope scope next (bodies_next t scope next)
    (bodies_next u scope (next + bodies t))
bodies_next (joined choice t external p u) scope next =
    ap (λ n. (record {
      scope = scope;
      binder = None;
      task = meaning t (suc (suc next));
    } ∷ bodies_of t scope (suc (suc next))) ++ (record {
      scope = scope;
      binder = None;
      task = meaning u (suc (suc n));
    } ∷ bodies_of u scope (suc (suc n)))) (later next (bodies t))
    ∙ both (record {
      scope = scope;
      binder = None;
      task = meaning t (suc (suc next));
    } ∷ bodies_of t scope (suc (suc next))) (record {
      scope = scope;
      binder = None;
      task = meaning u (suc (suc (suc (next + bodies t))));
    }
    ∷ bodies_of u scope (suc (suc (suc (next + bodies t)))))
    (record { scope = scope; binder = None; task = meaning t (suc next) } ∷ bodies_of t scope (suc next)) (record {
      scope = scope;
      binder = None;
      task = meaning u (suc (suc (next + bodies t)));
    } ∷ bodies_of u scope (suc (suc (next + bodies t))))
    (behind _ _ _ _ _ _ (term_next t (suc next)) (bodies_next t scope (suc next)))
    (behind _ _ _ _ _ _ (term_next u (suc (suc (next + bodies t)))) (bodies_next u scope (suc (suc (next + bodies t)))))
bodies_next (joined chain t o p u) scope next = two_next t u scope scope next (bodies_next t scope next)
    (bodies_next u scope (next + bodies t))
bodies_next (single (list parameters) a) scope next = refl
bodies_next (single (list arguments) a) scope next = refl
bodies_next (joined (list parameters) a o p b) scope next = refl
bodies_next (joined (list arguments) a o p b) scope next = refl
bodies_next (full parameters p ps q) scope next = refl
bodies_next (full arguments p es q) scope next = refl
bodies_next d scope next = refl

-- ---- how far they go
pub term_below : {f : Form} (d : Parse f) (next n : ℕ) → next + bodies d ≤ n → IsNumberedBelow n (term_at f (meaning d) next)
term_below (task_let p x q r e s t) next n le = term_below t next n le
term_below (task_if p e q t r u) next n le =
    (term_below t next n (omega (arith, le)), term_below u (next + bodies t) n (omega (arith, le)))
term_below (task_case p e q r s a t b x i j y k c u) next n le =
    (term_below t next n (omega (arith, le)), term_below u (next + bodies t) n (omega (arith, le)))
term_below (task_new p x q r e s t) next n le = term_below t next n le
term_below (task_put x p q e r t) next n le = term_below t next n le
term_below (task_plain t) next n le = term_below t next n le
term_below (task_then t p x q r u) next n le = (term_below t next n (omega (arith, le)), omega (arith, le))
term_below (task_next t p x q r u) next n le = (term_below t next n (omega (arith, le)), omega (arith, le))
term_below (task_group p t q) next n le = term_below t next n le
term_below (single choice t) next n le = term_below t next n le
term_below (single chain t) next n le = term_below t next n le
term_below (joined choice t internal p u) next n le =
    (term_below t next n (omega (arith, le)), term_below u (next + bodies t) n (omega (arith, le)))
term_below (joined choice t external p u) next n le = (omega (arith, le), omega (arith, le))
term_below (joined chain t o p u) next n le =
    (term_below t next n (omega (arith, le)), term_below u (next + bodies t) n (omega (arith, le)))
term_below d next n le = tt

two_below : (n : ℕ) (xs ys : List BodyTerm) → All (IsBodyNumberedBelow n) xs → All (IsBodyNumberedBelow n) ys
    → All (IsBodyNumberedBelow n) (xs ++ ys)
two_below n xs ys h k = All-append (IsBodyNumberedBelow n) xs ys h k

one_below : (n : ℕ) (b : BodyTerm) (bs : List BodyTerm) → IsBodyNumberedBelow n b → All (IsBodyNumberedBelow n) bs
    → All (IsBodyNumberedBelow n) (b ∷ bs)
one_below n b bs h k = All-cons (IsBodyNumberedBelow n) b bs h k

pub bodies_below : {f : Form} (d : Parse f) (scope : List Text) (next n : ℕ) → next + bodies d ≤ n
    → All (IsBodyNumberedBelow n) (bodies_of d scope next)
bodies_below (more_definitions ds d) scope next n le =
    two_below n _ _ (bodies_below ds scope next n (omega (arith, le))) (bodies_below d scope (next + bodies ds) n (omega (arith, le)))
bodies_below (task_named p x q ps r b s t) scope next n le = bodies_below t _ next n le
bodies_below (task_let p x q r e s t) scope next n le = bodies_below t _ next n le
bodies_below (task_if p e q t r u) scope next n le =
    two_below n _ _ (bodies_below t scope next n (omega (arith, le))) (bodies_below u scope (next + bodies t) n (omega (arith, le)))
bodies_below (task_case p e q r s a t b x i j y k c u) scope next n le =
    two_below n _ _ (bodies_below t scope next n (omega (arith, le))) (bodies_below u _ (next + bodies t) n (omega (arith, le)))
bodies_below (task_new p x q r e s t) scope next n le = bodies_below t _ next n le
bodies_below (task_put x p q e r t) scope next n le = bodies_below t scope next n le
bodies_below (task_plain t) scope next n le = bodies_below t scope next n le
bodies_below (task_then t p x q r u) scope next n le =
    two_below n _ _ (bodies_below t scope next n (omega (arith, le)))
    (one_below n _ _ (term_below u (suc (next + bodies t)) n (omega (arith, le)))
    (bodies_below u _ (suc (next + bodies t)) n (omega (arith, le))))
bodies_below (task_next t p x q r u) scope next n le =
    two_below n _ _ (bodies_below t scope next n (omega (arith, le)))
    (one_below n _ _ (term_below u (suc (next + bodies t)) n (omega (arith, le)))
    (bodies_below u _ (suc (next + bodies t)) n (omega (arith, le))))
bodies_below (task_group p t q) scope next n le = bodies_below t scope next n le
bodies_below (single choice t) scope next n le = bodies_below t scope next n le
bodies_below (single chain t) scope next n le = bodies_below t scope next n le
bodies_below (joined choice t internal p u) scope next n le =
    two_below n _ _ (bodies_below t scope next n (omega (arith, le))) (bodies_below u scope (next + bodies t) n (omega (arith, le)))
bodies_below (joined choice t external p u) scope next n le =
    let m = suc (suc (next + bodies t)) in
    two_below n (record { scope = scope; binder = None; task = meaning t (suc next) } ∷ bodies_of t scope (suc next))
    (record { scope = scope; binder = None; task = meaning u m } ∷ bodies_of u scope m)
    (one_below n (record { scope = scope; binder = None; task = meaning t (suc next) }) (bodies_of t scope (suc next))
    (term_below t (suc next) n (omega (arith, le))) (bodies_below t scope (suc next) n (omega (arith, le))))
    (one_below n (record { scope = scope; binder = None; task = meaning u m }) (bodies_of u scope m)
    (term_below u m n (omega (arith, le))) (bodies_below u scope m n (omega (arith, le))))
bodies_below (joined chain t o p u) scope next n le =
    two_below n _ _ (bodies_below t scope next n (omega (arith, le))) (bodies_below u scope (next + bodies t) n (omega (arith, le)))
bodies_below (single (list parameters) a) scope next n le = All-nil (IsBodyNumberedBelow n)
bodies_below (single (list arguments) a) scope next n le = All-nil (IsBodyNumberedBelow n)
bodies_below (joined (list parameters) a o p b) scope next n le = All-nil (IsBodyNumberedBelow n)
bodies_below (joined (list arguments) a o p b) scope next n le = All-nil (IsBodyNumberedBelow n)
bodies_below (full parameters p ps q) scope next n le = All-nil (IsBodyNumberedBelow n)
bodies_below (full arguments p es q) scope next n le = All-nil (IsBodyNumberedBelow n)
bodies_below d scope next n le = All-nil (IsBodyNumberedBelow n)

-- what was read of a choice has the numbers of its own bodies
module _ (scope : List Text) (next n : ℕ) (d : Parse (series choice)) {left : ParsedTerm TaskTerm} (e : shown_choice scope next d ≡ left)
    (le : next + length left.bodies ≤ n) where
  enough : next + bodies d ≤ n
  enough =
      let many = bodies_count d scope next in
      let same = ap (λ w. length w.bodies) e in
      omega (arith, le, many, same)

  pub left_term_below : IsNumberedBelow n left.term
  left_term_below = subst (λ w. IsNumberedBelow n w.term) e (term_below d next n enough)

  pub left_bodies_below : All (IsBodyNumberedBelow n) left.bodies
  left_bodies_below = subst (λ w. All (IsBodyNumberedBelow n) w.bodies) e (bodies_below d scope next n enough)
