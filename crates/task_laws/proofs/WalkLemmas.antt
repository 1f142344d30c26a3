-- The starts of all bodies of a program, as they are passed in the order of their numbers.
use Rattle.std.proofs.Common.{◌≡◌, inl, inr, ℕ, suc, ◌+◌, List, [], ◌∷◌, ◌++◌, refl, subst, arith, append_assoc}
use Rattle.std.specs.Prelude.{Option, Some, None}
use Rattle.std.specs.List.{All}
use Rattle.task_model.specs.Terms.Text.{Text}
use Rattle.task_model.specs.Terms.Task.{TaskTerm, BodyTerm}
use Rattle.task_model.specs.Terms.Program.{ProgramTerm}
use Rattle.task_model.specs.Running.Checked.{Start, starts_in, nodes_of}
use Rattle.task_model.specs.Syntax.Grammar.{Form, task, series, choice, chain, internal, external, Parse, task_let, task_if, task_case, task_new, task_put, task_plain, task_then, task_next, task_edit, task_enter, task_share, task_fail, task_call, task_group, single, joined}
use Rattle.task_model.specs.Syntax.Meaning.{meaning, bodies, bodies_of}
use Rattle.task_model.specs.Checking.Placed.{edit_nodes, task_firsts}
use Rattle.task_laws.proofs.ParseLemmas.{IsTask, term_at, whole, body_of}
use Rattle.task_laws.proofs.CountLemmas.{lists_head}
use Rattle.task_laws.proofs.StartLemmas.{Known, known_first, known_second, Walked, Right, Stands, stands_tail, halves, parts, sides, right_starts, stay, composed, relisted, passed}

module _ (program : ProgramTerm) (table : List ℕ) where
  -- the bodies from one number to another are passed
  abbrev pub Walk : List Start → ℕ → ℕ → List BodyTerm → List BodyTerm → Type 0
  Walk ss next m bs after = Walked program table ss next m bs after

  -- what is known of the second starts is known of the first
  abbrev pub Covers : List Start → List Start → Type 0
  Covers ss ts = (j : ℕ) → Known ts j → Known ss j

  pub cover_first : (ss ts us : List Start) → Covers ss (ts ++ us) → Covers ss ts
  cover_first ss ts us h = λ j k. h j (known_first ts us j k)

  cover_pair : (ss : List Start) (t u : TaskTerm) (n c : ℕ) → nodes_of program t ≡ c
      → Covers ss (starts_in program n t ++ starts_in program (n + nodes_of program t) u) → Covers ss (starts_in program (n + c) u)
  cover_pair ss t u n c e h =
      subst (λ k. Covers ss (starts_in program (n + k) u)) e
      (λ j k. h j (known_second (starts_in program n t) (starts_in program (n + nodes_of program t) u) j k))

  cover_kept : (ss ts us : List Start) → Covers ts ss → Covers ss us → Covers ts us
  cover_kept ss ts us h k = λ j z. h j (k j z)

  -- So many bodies are passed where they stand in the program with these entries and these starts are known.
  abbrev pub Passing : ℕ → ℕ → List BodyTerm → List ℕ → List Start → Type 0
  Passing next many bs ns ts = (after : List BodyTerm) (m : ℕ) → m ≡ next + many → Stands program table next (bs ++ after) ns
      → (ss : List Start) → All (Right program table) ss → Covers ss ts → Walk ss next m (bs ++ after) after

  -- the bodies of a task are passed, and those inside them
  abbrev pub Passes : {f : Form} → Parse f → List Text → ℕ → Type 0
  Passes {f} d xs next = (n : ℕ)
      → Passing next (bodies d) (bodies_of d xs next) (task_firsts n (whole d xs)) (starts_in program n (term_at f (meaning d) next))

  -- two tasks side by side
  halves_passed : {f g : Form} (t : Parse f) → IsTask f → (u : Parse g) (xs ys : List Text) (next : ℕ) → Passes t xs next
      → Passes u ys (next + bodies t) → (n : ℕ)
      → Passing next (bodies t + bodies u) (bodies_of t xs next ++ bodies_of u ys (next + bodies t))
      (task_firsts n (whole t xs) ++ task_firsts (n + edit_nodes (whole t xs)) (whole u ys))
      (starts_in program n (term_at f (meaning t) next)
      ++ starts_in program (n + nodes_of program (term_at f (meaning t) next)) (term_at g (meaning u) (next + bodies t)))
  halves_passed {f} {g} t h u xs ys next one two n after m is s ss a cov =
      let l = next + bodies t in
      let c = edit_nodes (whole t xs) in
      let left = term_at f (meaning t) next in
      let right = term_at g (meaning u) l in
      let k = halves program table t h u xs ys next n after s in
      let mid = bodies_of u ys l ++ after in
      let rest = starts_in program (n + nodes_of program left) right in
      let w = one n mid l refl k.1 ss a (cover_first ss (starts_in program n left) rest cov) in
      let v = two (n + c) after m (omega (arith, is)) k.2 w.starts w.right
      (cover_kept ss w.starts _ w.keeps (cover_pair ss left right n c k.0 cov)) in
      relisted program table ss next m _ _ after (append_assoc (bodies_of t xs next) (bodies_of u ys l) after)
      (composed program table ss next l m (bodies_of t xs next ++ mid) mid after w v)

  -- a task, and then a body of number l and those inside it
  parts_passed : {f g : Form} (t : Parse f) → IsTask f → (u : Parse g) → IsTask g → (xs ys : List Text) (o : Option Text) (next l : ℕ)
      → l ≡ next + bodies t → Passes t xs next → Passes u ys (suc l) → (n : ℕ) (after : List BodyTerm) (m : ℕ) → m ≡ suc l + bodies u
      → Stands program table next ((bodies_of t xs next ++ body_of u xs o l ∷ bodies_of u ys (suc l)) ++ after)
      (task_firsts n (whole t xs) ++ (n + edit_nodes (whole t xs)) ∷ task_firsts (n + edit_nodes (whole t xs)) (whole u ys))
      → (ss : List Start) → All (Right program table) ss → Covers ss (starts_in program n (term_at f (meaning t) next)) → Known ss l
      → Walk ss next m ((bodies_of t xs next ++ body_of u xs o l ∷ bodies_of u ys (suc l)) ++ after) after
  parts_passed t h u h' xs ys o next l is one two n after m is' s ss a cov known =
      let v = n + edit_nodes (whole t xs) in
      let b = body_of u xs o l in
      let inner = bodies_of u ys (suc l) in
      let k = parts program table t h xs next n l is b inner after v (task_firsts v (whole u ys)) s in
      let w = one n (b ∷ inner ++ after) l is k.1 ss a cov in
      let z = passed program table b (inner ++ after) w.starts l v (w.keeps l known) w.right k.2
      (right_starts program table u h' ys (suc l) v after k.3) in
      let y = two v after m is' k.3 z.0.starts z.0.right z.1 in
      relisted program table ss next m _ _ after (append_assoc (bodies_of t xs next) (b ∷ inner) after)
      (composed program table ss next l m (bodies_of t xs next ++ (b ∷ inner ++ after)) (b ∷ inner ++ after) after w
      (composed program table w.starts l (suc l) m (b ∷ inner ++ after) (inner ++ after) after z.0 y))

  -- a step over a task, whichever it is
  step_passed : (t : Parse (series choice)) (p : ℕ) (x : Text) (q r : ℕ) (u : Parse task) (xs : List Text) (next : ℕ) → Passes t xs next
      → Passes u (xs ++ x ∷ []) (suc (next + bodies t)) → Passes (task_then t p x q r u) xs next
  step_passed t p x q r u xs next one two n after m is s ss a cov =
      let l = next + bodies t in
      let front = starts_in program n (meaning t next) in
      let here : Start = record { body = l; first = n + nodes_of program (meaning t next) } in
      parts_passed t tt u tt xs (xs ++ x ∷ []) (Some x) next l refl one two n after m (omega (arith, is)) s ss a
      (cover_first ss front (here ∷ []) cov) (cov l (known_second front (here ∷ []) l (inl refl)))

  -- both sides of an external choice, of which each is a body
  sides_passed : (t : Parse (series choice)) (p : ℕ) (u : Parse (series chain)) (xs : List Text) (next : ℕ)
      → Passes t xs (suc next) → Passes u xs (suc (suc (next + bodies t))) → Passes (joined choice t external p u) xs next
  sides_passed t p u xs next one two n after m is s ss a cov =
      let l = suc (next + bodies t) in
      let left = body_of t xs None next in
      let first = bodies_of t xs (suc next) in
      let more = body_of u xs None l ∷ bodies_of u xs (suc l) in
      let all = (first ++ more) ++ after in
      let v = n + edit_nodes (whole t xs) in
      let ns = task_firsts n (whole t xs) in
      let k = sides program table t p u xs next n after s in
      let z = passed program table left all ss next n (cov next (inl refl)) a (lists_head table next n ns k.0.2)
      (right_starts program table t tt xs (suc next) n (more ++ after)
      (stands_tail program table next left (first ++ (more ++ after)) n ns k.0)) in
      composed program table ss next (suc next) m (left ∷ all) all after z.0
      (parts_passed t tt u tt xs xs None (suc next) l (omega arith) one two n after m (omega (arith, is))
      (stands_tail program table next left all n (ns ++ v ∷ task_firsts v (whole u xs)) s) z.0.starts z.0.right z.1
      (z.0.keeps l (cov l (inr (inl refl)))))

  no_body_passed : (next n : ℕ) → Passing next 0 [] [] []
  no_body_passed next n after m is s ss a cov = stay program table ss next m after (omega (arith, is)) a

  pub walked : {f : Form} (d : Parse f) → IsTask f → (xs : List Text) (next : ℕ) → Passes d xs next
  walked (task_let p x q r e i t) h xs next = walked t tt (xs ++ x ∷ []) next
  walked (task_if p e q t r u) h xs next = halves_passed t tt u xs xs next (walked t tt xs next) (walked u tt xs (next + bodies t))
  walked (task_case p e q r s a t b x i j y k c u) h xs next =
      halves_passed t tt u xs (xs ++ x ∷ y ∷ []) next (walked t tt xs next) (walked u tt (xs ++ x ∷ y ∷ []) (next + bodies t))
  walked (task_new p x q r e i t) h xs next = walked t tt (xs ++ x ∷ []) next
  walked (task_put x p q e r t) h xs next = walked t tt xs next
  walked (task_plain t) h xs next = walked t tt xs next
  walked (task_then t p x q r u) h xs next =
      step_passed t p x q r u xs next (walked t tt xs next) (walked u tt (xs ++ x ∷ []) (suc (next + bodies t)))
  walked (task_next t p x q r u) h xs next =
      step_passed t p x q r u xs next (walked t tt xs next) (walked u tt (xs ++ x ∷ []) (suc (next + bodies t)))
  walked (task_edit p e) h xs next = no_body_passed next
  walked (task_enter p b) h xs next = no_body_passed next
  walked (task_share p x q) h xs next = no_body_passed next
  walked (task_fail p b) h xs next = no_body_passed next
  walked (task_call x p es) h xs next = no_body_passed next
  walked (task_group p t q) h xs next = walked t tt xs next
  walked (single choice t) h xs next = walked t tt xs next
  walked (single chain t) h xs next = walked t tt xs next
  walked (joined choice t internal p u) h xs next =
      halves_passed t tt u xs xs next (walked t tt xs next) (walked u tt xs (next + bodies t))
  walked (joined choice t external p u) h xs next =
      sides_passed t p u xs next (walked t tt xs (suc next)) (walked u tt xs (suc (suc (next + bodies t))))
  walked (joined chain t o p u) h xs next = halves_passed t tt u xs xs next (walked t tt xs next) (walked u tt xs (next + bodies t))
  walked d h xs next = absurd h
