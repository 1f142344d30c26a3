-- How many nodes tasks have, and how many stand before their bodies, by their parses.
use Rattle.std.proofs.Common.{◌≡◌, ℕ, zero, suc, ◌+◌, ◌-◌, ◌≤◌, List, [], ◌∷◌, ◌++◌, length, refl, ap, ◌∙◌, subst, arith, le_refl}
use Rattle.std.specs.Prelude.{Some, None, slice_get, unwrap_or}
use Rattle.task_model.specs.Terms.Text.{Text}
use Rattle.task_model.specs.Terms.Task.{BodyTerm}
use Rattle.task_model.specs.Running.Checked.{nodes_in, body_nodes, counts_from}
use Rattle.task_model.specs.Syntax.Grammar.{Form, task, series, choice, chain, internal, external, Parse, task_let, task_if, task_case, task_new, task_put, task_plain, task_then, task_next, task_edit, task_enter, task_share, task_fail, task_call, task_group, single, joined}
use Rattle.task_model.specs.Syntax.Meaning.{meaning, bodies, bodies_of}
use Rattle.task_model.specs.Checking.Placed.{edit_nodes, task_firsts}
use Rattle.task_model.proofs.BodyCounts.{two, bodies_count}
use Rattle.task_laws.proofs.ParseLemmas.{IsTask, term_at, whole, body_of, both, Finds, finds_first, finds_second}

-- ---- counts by their numbers
pub count_passed : (n : ℕ) (b : BodyTerm) (bs : List BodyTerm) (j : ℕ) → suc n ≤ j
    → body_nodes (counts_from n (b ∷ bs)) n j ≡ body_nodes (counts_from (suc n) bs) (suc n) j
count_passed n b bs j le =
    let e : j - n ≡ suc (j - suc n) = omega (arith, le) in ap (λ k. unwrap_or (slice_get (counts_from n (b ∷ bs)) k) 0) e

pub count_here : (n : ℕ) (b : BodyTerm) (bs : List BodyTerm)
    → body_nodes (counts_from n (b ∷ bs)) n n ≡ nodes_in (counts_from (suc n) bs) (suc n) b.task
count_here n b bs = let e : n - n ≡ 0 = omega arith in ap (λ k. unwrap_or (slice_get (counts_from n (b ∷ bs)) k) 0) e

-- from this number on, the counts are those of these bodies
abbrev pub Counts : ℕ → List ℕ → ℕ → List BodyTerm → Type 0
Counts i cs next bs = Finds (λ n bs j. body_nodes (counts_from n bs) n j) count_passed (body_nodes cs i) next bs

pub counts_first : (i : ℕ) (cs : List ℕ) (next : ℕ) (front more after : List BodyTerm) → Counts i cs next ((front ++ more) ++ after)
    → Counts i cs next (front ++ (more ++ after))
counts_first i cs next front more after h =
    finds_first (λ n bs j. body_nodes (counts_from n bs) n j) count_passed (body_nodes cs i) next front more after h

pub counts_second : (i : ℕ) (cs : List ℕ) (next m : ℕ) (front more after : List BodyTerm) → m ≡ next + length front
    → Counts i cs next ((front ++ more) ++ after) → Counts i cs m (more ++ after)
counts_second i cs next m front more after e h =
    finds_second (λ n bs j. body_nodes (counts_from n bs) n j) count_passed (body_nodes cs i) next m front more after e h

-- ---- bodies by their numbers
pub item_passed : (n : ℕ) (b : BodyTerm) (bs : List BodyTerm) (j : ℕ) → suc n ≤ j → slice_get (b ∷ bs) (j - n) ≡ slice_get bs (j - suc n)
item_passed n b bs j le = let e : j - n ≡ suc (j - suc n) = omega (arith, le) in ap (λ k. slice_get (b ∷ bs) k) e

-- from this number on, all bodies are these
abbrev pub Items : List BodyTerm → ℕ → List BodyTerm → Type 0
Items all next bs = Finds (λ n bs j. slice_get bs (j - n)) item_passed (λ j. slice_get all j) next bs

module _ (all : List BodyTerm) where
  pub items_first : (next : ℕ) (front more after : List BodyTerm) → Items all next ((front ++ more) ++ after)
      → Items all next (front ++ (more ++ after))
  items_first next front more after h =
      finds_first (λ n bs j. slice_get bs (j - n)) item_passed (λ j. slice_get all j) next front more after h

  pub items_second : (next m : ℕ) (front more after : List BodyTerm) → m ≡ next + length front
      → Items all next ((front ++ more) ++ after) → Items all m (more ++ after)
  items_second next m front more after e h =
      finds_second (λ n bs j. slice_get bs (j - n)) item_passed (λ j. slice_get all j) next m front more after e h

  pub items_head : (next : ℕ) (b : BodyTerm) (bs : List BodyTerm) → Items all next (b ∷ bs) → slice_get all next ≡ Some b
  items_head next b bs h =
      let e : next - next ≡ 0 = omega arith in h next (le_refl next) ∙ ap (λ k. slice_get (b ∷ bs) k) e

-- a task has as many `edit` and `share` nodes as are counted
abbrev pub IsCounted : {f : Form} → Parse f → List Text → ℕ → Type 0
IsCounted {f} d xs next = (after : List BodyTerm) (i : ℕ) (cs : List ℕ) → Counts i cs next (bodies_of d xs next ++ after)
    → nodes_in cs i (term_at f (meaning d) next) ≡ edit_nodes (whole d xs)

halves_counted : {f g : Form} (t : Parse f) (u : Parse g) (xs ys : List Text) (next : ℕ) → IsCounted t xs next
    → IsCounted u ys (next + bodies t) → (after : List BodyTerm) (i : ℕ) (cs : List ℕ)
    → Counts i cs next ((bodies_of t xs next ++ bodies_of u ys (next + bodies t)) ++ after)
    → nodes_in cs i (term_at f (meaning t) next) + nodes_in cs i (term_at g (meaning u) (next + bodies t))
    ≡ edit_nodes (whole t xs) + edit_nodes (whole u ys)
halves_counted t u xs ys next one two after i cs k =
    let many = bodies_count t xs next in
    let m = next + bodies t in
    let inner = bodies_of u ys m in
    both (λ y z. y + z) (one (inner ++ after) i cs (counts_first i cs next (bodies_of t xs next) inner after k))
    (two after i cs (counts_second i cs next m (bodies_of t xs next) inner after (omega (arith, many)) k))

step_counted : (t : Parse (series choice)) (p : ℕ) (x : Text) (q r : ℕ) (u : Parse task) (xs : List Text) (next : ℕ)
    → IsCounted t xs next → IsCounted u (xs ++ x ∷ []) (suc (next + bodies t)) → IsCounted (task_then t p x q r u) xs next
step_counted t p x q r u xs next one two after i cs k =
    let many = bodies_count t xs next in
    let m = next + bodies t in
    let b = body_of u xs (Some x) m in
    let inner = bodies_of u (xs ++ x ∷ []) (suc m) in
    let there = counts_second i cs next m (bodies_of t xs next) (b ∷ inner) after (omega (arith, many)) k in
    both (λ y z. y + z) (one (b ∷ inner ++ after) i cs (counts_first i cs next (bodies_of t xs next) (b ∷ inner) after k))
    (there m (le_refl m) ∙ count_here m b (inner ++ after) ∙ two after (suc m) (counts_from (suc m) (inner ++ after)) (λ j le. refl))

pub counted : {f : Form} (d : Parse f) → IsTask f → (xs : List Text) (next : ℕ) → IsCounted d xs next
counted (task_let p x q r e s t) h xs next after i cs k = counted t tt _ next after i cs k
counted (task_if p e q t r u) h xs next after i cs k =
    halves_counted t u xs xs next (counted t tt xs next) (counted u tt xs (next + bodies t)) after i cs k
counted (task_case p e q r s a t b x i' j y k' c u) h xs next after i cs k =
    let ys = xs ++ x ∷ y ∷ [] in
    halves_counted t u xs ys next (counted t tt xs next) (counted u tt ys (next + bodies t)) after i cs k
counted (task_new p x q r e s t) h xs next after i cs k = counted t tt _ next after i cs k
counted (task_put x p q e r t) h xs next after i cs k = counted t tt xs next after i cs k
counted (task_plain t) h xs next after i cs k = counted t tt xs next after i cs k
counted (task_then t p x q r u) h xs next after i cs k =
    step_counted t p x q r u xs next (counted t tt xs next) (counted u tt (xs ++ x ∷ []) (suc (next + bodies t))) after i cs k
counted (task_next t p x q r u) h xs next after i cs k =
    step_counted t p x q r u xs next (counted t tt xs next) (counted u tt (xs ++ x ∷ []) (suc (next + bodies t))) after i cs k
counted (task_edit p e) h xs next after i cs k = refl
counted (task_enter p b) h xs next after i cs k = refl
counted (task_share p x q) h xs next after i cs k = refl
counted (task_fail p b) h xs next after i cs k = refl
counted (task_call x p es) h xs next after i cs k = refl
counted (task_group p t q) h xs next after i cs k = counted t tt xs next after i cs k
counted (single choice t) h xs next after i cs k = counted t tt xs next after i cs k
counted (single chain t) h xs next after i cs k = counted t tt xs next after i cs k
counted (joined choice t internal p u) h xs next after i cs k =
    halves_counted t u xs xs next (counted t tt xs next) (counted u tt xs (next + bodies t)) after i cs k
counted (joined choice t external p u) h xs next after i cs k =
    let many = bodies_count t xs (suc next) in
    let m = suc (next + bodies t) in
    let left = body_of t xs None next in
    let right = body_of u xs None m in
    let first = bodies_of t xs (suc next) in
    let second = bodies_of u xs (suc m) in
    let there = counts_second i cs next m (left ∷ first) (right ∷ second) after (omega (arith, many)) k in
    let all = (first ++ right ∷ second) ++ after in
    both (λ y z. y + z)
    (k next (le_refl next) ∙ count_here next left all
    ∙ counted t tt xs (suc next) (right ∷ second ++ after) (suc next) (counts_from (suc next) all)
    (counts_first (suc next) (counts_from (suc next) all) (suc next) first (right ∷ second) after (λ j le. refl)))
    (there m (le_refl m) ∙ count_here m right (second ++ after)
    ∙ counted u tt xs (suc m) after (suc m) (counts_from (suc m) (second ++ after)) (λ j le. refl))
counted (joined chain t o p u) h xs next after i cs k =
    halves_counted t u xs xs next (counted t tt xs next) (counted u tt xs (next + bodies t)) after i cs k
counted d h xs next after i cs k = absurd h

-- there is an entry for each body of a task
pub firsts_long : {f : Form} (d : Parse f) → IsTask f → (xs : List Text) (n : ℕ) → length (task_firsts n (whole d xs)) ≡ bodies d
firsts_long (task_let p x q r e s t) h xs n = firsts_long t tt _ n
firsts_long (task_if p e q t r u) h xs n = two _ _ (firsts_long t tt xs n) (firsts_long u tt xs (n + edit_nodes (whole t xs)))
firsts_long (task_case p e q r s a t b x i j y k c u) h xs n =
    two _ _ (firsts_long t tt xs n) (firsts_long u tt (xs ++ x ∷ y ∷ []) (n + edit_nodes (whole t xs)))
firsts_long (task_new p x q r e s t) h xs n = firsts_long t tt _ n
firsts_long (task_put x p q e r t) h xs n = firsts_long t tt xs n
firsts_long (task_plain t) h xs n = firsts_long t tt xs n
firsts_long (task_then t p x q r u) h xs n =
    two _ _ (firsts_long t tt xs n) (ap suc (firsts_long u tt (xs ++ x ∷ []) (n + edit_nodes (whole t xs))))
firsts_long (task_next t p x q r u) h xs n =
    two _ _ (firsts_long t tt xs n) (ap suc (firsts_long u tt (xs ++ x ∷ []) (n + edit_nodes (whole t xs))))
firsts_long (task_edit p e) h xs n = refl
firsts_long (task_enter p b) h xs n = refl
firsts_long (task_share p x q) h xs n = refl
firsts_long (task_fail p b) h xs n = refl
firsts_long (task_call x p es) h xs n = refl
firsts_long (task_group p t q) h xs n = firsts_long t tt xs n
firsts_long (single choice t) h xs n = firsts_long t tt xs n
firsts_long (single chain t) h xs n = firsts_long t tt xs n
firsts_long (joined choice t internal p u) h xs n = two _ _ (firsts_long t tt xs n) (firsts_long u tt xs (n + edit_nodes (whole t xs)))
firsts_long (joined choice t external p u) h xs n =
    let m = n + edit_nodes (whole t xs) in
    two (n ∷ task_firsts n (whole t xs)) (m ∷ task_firsts m (whole u xs)) (ap suc (firsts_long t tt xs n)) (ap suc (firsts_long u tt xs m))
firsts_long (joined chain t o p u) h xs n = two _ _ (firsts_long t tt xs n) (firsts_long u tt xs (n + edit_nodes (whole t xs)))
firsts_long d h xs n = absurd h

-- ---- entries by their numbers
get_first : (xs ys : List ℕ) (k v : ℕ) → slice_get xs k ≡ Some v → slice_get (xs ++ ys) k ≡ Some v
get_first [] ys k v e = absurd (cc)
get_first (x ∷ xs) ys zero v e = e
get_first (x ∷ xs) ys (suc k) v e = get_first xs ys k v e

get_second : (xs ys : List ℕ) (k : ℕ) → slice_get (xs ++ ys) (length xs + k) ≡ slice_get ys k
get_second [] ys k = let e : 0 + k ≡ k = omega arith in ap (λ j. slice_get ys j) e
get_second (x ∷ xs) ys k =
    let e : suc (length xs) + k ≡ suc (length xs + k) = omega arith in
    ap (λ j. slice_get (x ∷ xs ++ ys) j) e ∙ get_second xs ys k

-- from this number on, the table has these entries
abbrev pub Lists : List ℕ → ℕ → List ℕ → Type 0
Lists table next ns = (k v : ℕ) → slice_get ns k ≡ Some v → slice_get table (next + k) ≡ Some v

module _ (table : List ℕ) where
  pub lists_first : (next : ℕ) (ns ms : List ℕ) → Lists table next (ns ++ ms) → Lists table next ns
  lists_first next ns ms h = λ k v e. h k v (get_first ns ms k v e)

  pub lists_second : (next m : ℕ) (ns ms : List ℕ) → m ≡ next + length ns → Lists table next (ns ++ ms) → Lists table m ms
  lists_second next m ns ms is h = λ k v e.
      let same : next + (length ns + k) ≡ m + k = omega (arith, is) in
      subst (λ j. slice_get table j ≡ Some v) same (h (length ns + k) v (get_second ns ms k ∙ e))

  pub lists_tail : (next v : ℕ) (ns : List ℕ) → Lists table next (v ∷ ns) → Lists table (suc next) ns
  lists_tail next v ns h = λ k w e.
      let same : next + suc k ≡ suc next + k = omega arith in subst (λ j. slice_get table j ≡ Some w) same (h (suc k) w e)

  pub lists_head : (next v : ℕ) (ns : List ℕ) → Lists table next (v ∷ ns) → slice_get table next ≡ Some v
  lists_head next v ns h = let same : next + 0 ≡ next = omega arith in subst (λ j. slice_get table j ≡ Some v) same (h 0 v refl)
