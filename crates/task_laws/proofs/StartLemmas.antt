-- Where the bodies of a task start: what the rules read at a body's number is the entry of a table that lists the task's bodies.
use Rattle.std.proofs.Common.{◌≡◌, ◌⊎◌, inl, inr, ℕ, suc, ◌+◌, ◌<◌, ◌≤◌, true, false, List, [], ◌∷◌, ◌++◌, length, nat_eq, if◌then◌else◌, refl, sym, ap, ◌∙◌, subst, arith, le_refl}
use Rattle.std.specs.Prelude.{Some, None, slice_get}
use Rattle.std.specs.List.{All, AllByRecursion}
use Rattle.std.proofs.lemmas.Bool.{cases_lt}
use Rattle.std.proofs.lemmas.Bool.Decides.{eqb_tells}
use Rattle.std.proofs.lemmas.List.Elements.{All-nil, All-cons, All-push, All-append, recursion_from_All}
use Rattle.task_model.specs.Terms.Text.{Text}
use Rattle.task_model.specs.Terms.Task.{TaskTerm, BodyTerm}
use Rattle.task_model.specs.Terms.Program.{ProgramTerm}
use Rattle.task_model.specs.Running.Checked.{Start, nodes_in, starts_in, start_of, all_starts, nodes_of, counts_of, counts_from, body_nodes}
use Rattle.task_model.specs.Syntax.Grammar.{Form, task, series, choice, chain, internal, external, Parse, task_let, task_if, task_case, task_new, task_put, task_plain, task_then, task_next, task_edit, task_enter, task_share, task_fail, task_call, task_group, single, joined}
use Rattle.task_model.specs.Syntax.Meaning.{meaning, bodies, bodies_of}
use Rattle.task_model.specs.Checking.TaskDemands.{bodies_in_place}
use Rattle.task_model.specs.Checking.Placed.{edit_nodes, task_firsts}
use Rattle.task_model.proofs.BodyCounts.{bodies_count}
use Rattle.task_laws.proofs.ParseLemmas.{IsTask, term_at, whole, body_of, Places, places_first, places_second, body_passed}
use Rattle.task_laws.proofs.CountLemmas.{Counts, counts_first, counts_second, count_passed, count_here, counted, firsts_long, Lists, lists_first, lists_second, lists_tail, lists_head, item_passed, Items, items_first, items_second}

-- a body's start is among these
abbrev pub Known : List Start → ℕ → Type 0
Known [] j = ⊥
Known (s ∷ ss) j = (s.body ≡ j) ⊎ Known ss j

pub known_first : (ss ts : List Start) (j : ℕ) → Known ss j → Known (ss ++ ts) j
known_first [] ts j k = absurd k
known_first (s ∷ ss) ts j (inl e) = inl e
known_first (s ∷ ss) ts j (inr k) = inr (known_first ss ts j k)

pub known_second : (ss ts : List Start) (j : ℕ) → Known ts j → Known (ss ++ ts) j
known_second [] ts j k = k
known_second (s ∷ ss) ts j k = inr (known_second ss ts j k)

-- what comes of some starts where the bodies from one number to another are passed
pub record Walked (program : ProgramTerm) (table : List ℕ) (ss : List Start) (next m : ℕ) (bs after : List BodyTerm) : Type 0 where
  pub starts : List Start
  pub same : all_starts program ss next bs ≡ all_starts program starts m after
  pub right : All (λ s. slice_get table s.body ≡ Some s.first) starts
  pub keeps : (j : ℕ) → Known ss j → Known starts j
  pub knows : (j : ℕ) → next ≤ j → j < m → Known starts j

module _ (program : ProgramTerm) (table : List ℕ) where
  -- a start is its body's entry
  abbrev pub Right : Start → Type 0
  Right s = slice_get table s.body ≡ Some s.first

  pub start_found : (ss : List Start) → AllByRecursion Right ss → (j v : ℕ) → Known ss j → slice_get table j ≡ Some v → start_of ss j ≡ v
  start_found [] h j v k e = absurd k
  start_found (s ∷ ss) h j v k e = by_test (λ z. start_found ss h.1 j v z e) k (eqb_tells s.body j)
    where
      by_test : (Known ss j → start_of ss j ≡ v) → Known (s ∷ ss) j
          → ((nat_eq s.body j ≡ true) × (s.body ≡ j)) ⊎ ((nat_eq s.body j ≡ false) × (s.body ≡ j → ⊥)) → start_of (s ∷ ss) j ≡ v
      by_test rest z (inl t) =
          let same : Some s.first ≡ Some v = sym h.0 ∙ ap (λ i. slice_get table i) t.1 ∙ e in
          let is : s.first ≡ v = cc in
          ap (λ c. if c then s.first else start_of ss j) t.0 ∙ is
      by_test rest (inl y) (inr t) = absurd (t.1 y)
      by_test rest (inr y) (inr t) = ap (λ c. if c then s.first else start_of ss j) t.0 ∙ rest y

  -- ---- where a task stands in the program
  -- from this number on, the program has these bodies, in place too, and the table these entries
  abbrev pub Stands : ℕ → List BodyTerm → List ℕ → Type 0
  Stands next bs ns =
      Places 0 (bodies_in_place program) next bs × Counts 0 (counts_of program) next bs × Lists table next ns × Items program.bodies next bs

  pub stands_first : (next : ℕ) (front more after : List BodyTerm) (ns ms : List ℕ) → Stands next ((front ++ more) ++ after) (ns ++ ms)
      → Stands next (front ++ (more ++ after)) ns
  stands_first next front more after ns ms s = (
    places_first 0 (bodies_in_place program) next front more after s.0,
    counts_first 0 (counts_of program) next front more after s.1,
    lists_first table next ns ms s.2,
    items_first program.bodies next front more after s.3,
  )

  pub stands_second : (next m : ℕ) (front more after : List BodyTerm) (ns ms : List ℕ) → m ≡ next + length front
      → m ≡ next + length ns → Stands next ((front ++ more) ++ after) (ns ++ ms) → Stands m (more ++ after) ms
  stands_second next m front more after ns ms e l s = (
    places_second 0 (bodies_in_place program) next m front more after e s.0,
    counts_second 0 (counts_of program) next m front more after e s.1,
    lists_second table next m ns ms l s.2,
    items_second program.bodies next m front more after e s.3,
  )

  pub stands_tail : (next : ℕ) (b : BodyTerm) (bs : List BodyTerm) (v : ℕ) (ns : List ℕ) → Stands next (b ∷ bs) (v ∷ ns)
      → Stands (suc next) bs ns
  stands_tail next b bs v ns s = (
    λ j le. s.0 j (omega (arith, le)) ∙ body_passed next b bs j le,
    λ j le. s.1 j (omega (arith, le)) ∙ count_passed next b bs j le,
    lists_tail table next v ns s.2,
    λ j le. s.3 j (omega (arith, le)) ∙ item_passed next b bs j le,
  )

  -- two tasks side by side
  pub halves : {f g : Form} (t : Parse f) → IsTask f → (u : Parse g) (xs ys : List Text) (next n : ℕ) (after : List BodyTerm)
      → Stands next ((bodies_of t xs next ++ bodies_of u ys (next + bodies t)) ++ after)
      (task_firsts n (whole t xs) ++ task_firsts (n + edit_nodes (whole t xs)) (whole u ys))
      → (nodes_of program (term_at f (meaning t) next) ≡ edit_nodes (whole t xs))
      × Stands next (bodies_of t xs next ++ (bodies_of u ys (next + bodies t) ++ after)) (task_firsts n (whole t xs))
      × Stands (next + bodies t) (bodies_of u ys (next + bodies t) ++ after) (task_firsts (n + edit_nodes (whole t xs)) (whole u ys))
  halves t h u xs ys next n after s =
      let many = bodies_count t xs next in
      let long = firsts_long t h xs n in
      let m = next + bodies t in
      let ns = task_firsts n (whole t xs) in
      let ms = task_firsts (n + edit_nodes (whole t xs)) (whole u ys) in
      let left = stands_first next (bodies_of t xs next) (bodies_of u ys m) after ns ms s in (
        counted t h xs next (bodies_of u ys m ++ after) 0 (counts_of program) left.1,
        left,
        stands_second next m (bodies_of t xs next) (bodies_of u ys m) after ns ms (omega (arith, many)) (omega (arith, long)) s,
      )

  -- a task, and then a body of number m and those inside it
  pub parts : {f : Form} (t : Parse f) → IsTask f → (xs : List Text) (next n m : ℕ) → m ≡ next + bodies t
      → (b : BodyTerm) (inner after : List BodyTerm) (v : ℕ) (ms : List ℕ)
      → Stands next ((bodies_of t xs next ++ b ∷ inner) ++ after) (task_firsts n (whole t xs) ++ v ∷ ms)
      → (nodes_of program (term_at f (meaning t) next) ≡ edit_nodes (whole t xs))
      × Stands next (bodies_of t xs next ++ (b ∷ inner ++ after)) (task_firsts n (whole t xs))
      × (slice_get table m ≡ Some v) × Stands (suc m) (inner ++ after) ms × Stands m (b ∷ inner ++ after) (v ∷ ms)
  parts t h xs next n m is b inner after v ms s =
      let many = bodies_count t xs next in
      let long = firsts_long t h xs n in
      let ns = task_firsts n (whole t xs) in
      let left = stands_first next (bodies_of t xs next) (b ∷ inner) after ns (v ∷ ms) s in
      let behind : m ≡ next + length (bodies_of t xs next) = omega (arith, is, many) in
      let there = stands_second next m (bodies_of t xs next) (b ∷ inner) after ns (v ∷ ms) behind (omega (arith, is, long))
      s in (
        counted t h xs next (b ∷ inner ++ after) 0 (counts_of program) left.1,
        left,
        lists_head table m v ms there.2,
        stands_tail m b (inner ++ after) v ms there,
        there,
      )

  -- both sides of an external choice, each of which is a body
  pub sides : (t : Parse (series choice)) (p : ℕ) (u : Parse (series chain)) (xs : List Text) (next n : ℕ) (after : List BodyTerm)
      → Stands next (bodies_of (joined choice t external p u) xs next ++ after) (task_firsts n (whole (joined choice t external p u) xs))
      → Stands next (body_of t xs None next ∷ (bodies_of t xs (suc next)
      ++ (body_of u xs None (suc (next + bodies t)) ∷ bodies_of u xs (suc (suc (next + bodies t))) ++ after)))
      (n ∷ task_firsts n (whole t xs))
      × Stands (suc (next + bodies t)) (body_of u xs None (suc (next + bodies t)) ∷ bodies_of u xs (suc (suc (next + bodies t))) ++ after)
      ((n + edit_nodes (whole t xs)) ∷ task_firsts (n + edit_nodes (whole t xs)) (whole u xs))
  sides t p u xs next n after s =
      let m = suc (next + bodies t) in
      let c = n + edit_nodes (whole t xs) in
      let first = body_of t xs None next ∷ bodies_of t xs (suc next) in
      let second = body_of u xs None m ∷ bodies_of u xs (suc m) in
      let ns = n ∷ task_firsts n (whole t xs) in
      let ms = c ∷ task_firsts c (whole u xs) in
      let many = bodies_count t xs (suc next) in
      let long = firsts_long t tt xs n in (
        stands_first next first second after ns ms s,
        stands_second next m first second after ns ms (omega (arith, many)) (omega (arith, long)) s,
      )

  -- ---- starts that are right
  pair_right : (t u : TaskTerm) (n c : ℕ) → nodes_of program t ≡ c → All Right (starts_in program n t)
      → All Right (starts_in program (n + c) u) → All Right (starts_in program n t ++ starts_in program (n + nodes_of program t) u)
  pair_right t u n c e a b =
      All-append Right (starts_in program n t) (starts_in program (n + nodes_of program t) u) a
      (subst (λ k. All Right (starts_in program (n + k) u)) (sym e) b)

  step_right : (t : TaskTerm) (m n c : ℕ) → nodes_of program t ≡ c → All Right (starts_in program n t) → slice_get table m ≡ Some (n + c)
      → All Right (starts_in program n t ++ record { body = m; first = n + nodes_of program t } ∷ [])
  step_right t m n c e a g =
      All-push Right (starts_in program n t) (record { body = m; first = n + nodes_of program t }) a (g ∙ ap (λ k. Some (n + k)) (sym e))

  -- both sides of an external choice, the first of which has this number
  sides_right : (next m n k c : ℕ) → k ≡ c → slice_get table next ≡ Some n → slice_get table m ≡ Some (n + c)
      → All Right (record { body = next; first = n } ∷ record { body = m; first = n + k } ∷ [])
  sides_right next m n k c e g g' =
      All-cons Right (record { body = next; first = n }) (record { body = m; first = n + k } ∷ []) g
      (All-cons Right (record { body = m; first = n + k }) [] (g' ∙ ap (λ z. Some (n + z)) (sym e)) (All-nil Right))

  -- how many nodes the first side has
  first_side : {f : Form} (t : Parse f) → IsTask f → (xs : List Text) (next : ℕ) (b : BodyTerm) → b.task ≡ term_at f (meaning t) (suc next)
      → (more after : List BodyTerm) → Counts 0 (counts_of program) next (b ∷ ((bodies_of t xs (suc next) ++ more) ++ after))
      → body_nodes (counts_of program) 0 next ≡ edit_nodes (whole t xs)
  first_side t h xs next b is more after s =
      let all = (bodies_of t xs (suc next) ++ more) ++ after in
      let cs = counts_from (suc next) all in
      s next (le_refl next) ∙ count_here next b all ∙ ap (λ z. nodes_in cs (suc next) z) is
      ∙ counted t h xs (suc next) (more ++ after) (suc next) cs
      (counts_first (suc next) cs (suc next) (bodies_of t xs (suc next)) more after (λ j le. refl))

  -- where a task stands in the program, the starts of its bodies are right
  abbrev pub StartsRight : {f : Form} → Parse f → List Text → ℕ → Type 0
  StartsRight {f} d xs next = (n : ℕ) (after : List BodyTerm) → Stands next (bodies_of d xs next ++ after) (task_firsts n (whole d xs))
      → All Right (starts_in program n (term_at f (meaning d) next))

  halves_right : {f g : Form} (t : Parse f) → IsTask f → (u : Parse g) (xs ys : List Text) (next : ℕ) → StartsRight t xs next
      → StartsRight u ys (next + bodies t) → (n : ℕ) (after : List BodyTerm)
      → Stands next ((bodies_of t xs next ++ bodies_of u ys (next + bodies t)) ++ after)
      (task_firsts n (whole t xs) ++ task_firsts (n + edit_nodes (whole t xs)) (whole u ys))
      → All Right (starts_in program n (term_at f (meaning t) next)
      ++ starts_in program (n + nodes_of program (term_at f (meaning t) next)) (term_at g (meaning u) (next + bodies t)))
  halves_right {f} {g} t h u xs ys next one two n after s =
      let k = halves t h u xs ys next n after s in
      let m = next + bodies t in
      let c = edit_nodes (whole t xs) in
      pair_right (term_at f (meaning t) next) (term_at g (meaning u) m) n c k.0 (one n (bodies_of u ys m ++ after) k.1)
      (two (n + c) after k.2)

  over_right : (t : Parse (series choice)) (p : ℕ) (x : Text) (q r : ℕ) (u : Parse task) (xs : List Text) (next : ℕ)
      → StartsRight t xs next → StartsRight (task_then t p x q r u) xs next
  over_right t p x q r u xs next one n after s =
      let m = next + bodies t in
      let c = edit_nodes (whole t xs) in
      let b = body_of u xs (Some x) m in
      let inner = bodies_of u (xs ++ x ∷ []) (suc m) in
      let k = parts t tt xs next n m refl b inner after (n + c) (task_firsts (n + c) (whole u (xs ++ x ∷ []))) s in
      step_right (meaning t next) m n c k.0 (one n (b ∷ inner ++ after) k.1) k.2

  pub right_starts : {f : Form} (d : Parse f) → IsTask f → (xs : List Text) (next : ℕ) → StartsRight d xs next
  right_starts (task_let p x q r e i t) h xs next n after s = right_starts t tt (xs ++ x ∷ []) next n after s
  right_starts (task_if p e q t r u) h xs next n after s =
      halves_right t tt u xs xs next (right_starts t tt xs next) (right_starts u tt xs (next + bodies t)) n after s
  right_starts (task_case p e q r i a t b x i' j y k' c u) h xs next n after s =
      let ys = xs ++ x ∷ y ∷ [] in
      halves_right t tt u xs ys next (right_starts t tt xs next) (right_starts u tt ys (next + bodies t)) n after s
  right_starts (task_new p x q r e i t) h xs next n after s = right_starts t tt (xs ++ x ∷ []) next n after s
  right_starts (task_put x p q e r t) h xs next n after s = right_starts t tt xs next n after s
  right_starts (task_plain t) h xs next n after s = right_starts t tt xs next n after s
  right_starts (task_then t p x q r u) h xs next n after s = over_right t p x q r u xs next (right_starts t tt xs next) n after s
  right_starts (task_next t p x q r u) h xs next n after s = over_right t p x q r u xs next (right_starts t tt xs next) n after s
  right_starts (task_edit p e) h xs next n after s = All-nil Right
  right_starts (task_enter p b) h xs next n after s = All-nil Right
  right_starts (task_share p x q) h xs next n after s = All-nil Right
  right_starts (task_fail p b) h xs next n after s = All-nil Right
  right_starts (task_call x p es) h xs next n after s = All-nil Right
  right_starts (task_group p t q) h xs next n after s = right_starts t tt xs next n after s
  right_starts (single choice t) h xs next n after s = right_starts t tt xs next n after s
  right_starts (single chain t) h xs next n after s = right_starts t tt xs next n after s
  right_starts (joined choice t internal p u) h xs next n after s =
      halves_right t tt u xs xs next (right_starts t tt xs next) (right_starts u tt xs (next + bodies t)) n after s
  right_starts (joined choice t external p u) h xs next n after s =
      let m = suc (next + bodies t) in
      let c = n + edit_nodes (whole t xs) in
      let k = sides t p u xs next n after s in
      sides_right next m n (body_nodes (counts_of program) 0 next) (edit_nodes (whole t xs))
      (first_side t tt xs next (body_of t xs None next) refl (body_of u xs None m ∷ bodies_of u xs (suc m)) after s.1)
      (lists_head table next n (task_firsts n (whole t xs)) k.0.2) (lists_head table m c (task_firsts c (whole u xs)) k.1.2)
  right_starts (joined chain t o p u) h xs next n after s =
      halves_right t tt u xs xs next (right_starts t tt xs next) (right_starts u tt xs (next + bodies t)) n after s
  right_starts d h xs next n after s = absurd h

  -- ---- passing bodies
  pub stay : (ss : List Start) (next m : ℕ) (after : List BodyTerm) → m ≡ next → All Right ss → Walked program table ss next m after after
  stay ss next m after e a = record {
    starts = ss;
    same = ap (λ i. all_starts program ss i after) (sym e);
    right = a;
    keeps = λ j k. k;
    knows = λ j le lt. absurd (omega (arith, e, le, lt));
  }

  pub composed : (ss : List Start) (next l m : ℕ) (bs mid after : List BodyTerm) (w : Walked program table ss next l bs mid)
      → Walked program table w.starts l m mid after → Walked program table ss next m bs after
  composed ss next l m bs mid after w v = record {
    starts = v.starts;
    same = w.same ∙ v.same;
    right = v.right;
    keeps = λ j k. v.keeps j (w.keeps j k);
    knows = λ j le lt. by_order j le lt (cases_lt j l);
  }
    where
      by_order : (j : ℕ) → next ≤ j → j < m → (j < l) ⊎ (l ≤ j) → Known v.starts j
      by_order j le lt (inl below) = v.keeps j (w.knows j le below)
      by_order j le lt (inr above) = v.knows j above lt

  pub relisted : (ss : List Start) (next m : ℕ) (bs cs after : List BodyTerm) → bs ≡ cs → Walked program table ss next m cs after
      → Walked program table ss next m bs after
  relisted ss next m bs cs after e w = subst (λ l. Walked program table ss next m l after) (sym e) w

  -- a body whose start is known is passed, and the starts of those inside it are known then
  pub passed : (b : BodyTerm) (rest : List BodyTerm) (ss : List Start) (i v : ℕ) → Known ss i → All Right ss → slice_get table i ≡ Some v
      → All Right (starts_in program v b.task) → (w : Walked program table ss i (suc i) (b ∷ rest) rest)
      × ((j : ℕ) → Known (starts_in program v b.task) j → Known w.starts j)
  passed b rest ss i v k a g a' = (
    record {
      starts = ss ++ starts_in program v b.task;
      same = ap (λ z. all_starts program (ss ++ starts_in program z b.task) (suc i) rest)
          (start_found ss (recursion_from_All Right ss a) i v k g);
      right = All-append Right ss (starts_in program v b.task) a a';
      keeps = λ j z. known_first ss (starts_in program v b.task) j z;
      knows = λ j le lt.
          let same : i ≡ j = omega (arith, le, lt) in known_first ss (starts_in program v b.task) j (subst (Known ss) same k);
    },
    λ j z. known_second ss (starts_in program v b.task) j z,
  )
