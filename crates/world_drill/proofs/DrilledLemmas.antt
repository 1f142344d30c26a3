-- Sessions of a drill, from its opening to the closed world.
use Rattle.std.proofs.Common.{◌≡◌, ◌⊎◌, ◌∙◌, ℕ, zero, suc, ◌+◌, ◌*◌, ◌<◌, ◌≤◌, List, [], ◌∷◌, ◌++◌, length, map, slice_index, slice_index_or, replicate, Result, Ok, Err, IfOk, refl, ap, sym, subst, inl, inr, ⊎_elim, arith}
use Rattle.std.proofs.lemmas.Bool.{cases_lt}
use mathlib.Core.List.{IsPrefix}
use Rattle.task_model.specs.Terms.Input.{EntryTerm}
use Rattle.task_model.specs.Terms.Item.{ItemTerm}
use Rattle.task_model.specs.Running.State.{entries_of, version_of}
use Rattle.session_desk.specs.Desks.{DeskTerm}
use Rattle.world_lock.specs.Closings.{Among, HasSessionOf, IsClosed, IsMissing, own_total}
use Rattle.world_lock.specs.Openings.{newcomer, newcomers}
use Rattle.world_lock.specs.Sessions.{SeenSession, session_term}
use Rattle.task_model.specs.declared.memory.OutOfMemory.{OutOfMemory}
use Rattle.world_lock.proofs.ClosingLemmas.{counts, sum_to}
use Rattle.world_lock.proofs.ListLemmas.{no_items}
use Rattle.drill_program.specs.Drill.{drill_start, drill_entries}
use Rattle.drill_program.proofs.DrillLemmas.{entries_count}
use Rattle.world_drill.specs.Drilled.{HasGiven, HaveGiven, IsDrilled}

-- ---- sessions of a world that was just opened
has_last : (xs : List DeskTerm) (x : DeskTerm) → HasSessionOf (xs ++ x ∷ []) x.seat
has_last [] x = inl refl
has_last (y ∷ ys) x = inr (has_last ys x)

has_front : (xs : List DeskTerm) (x : DeskTerm) (seat : ℕ) → HasSessionOf xs seat → HasSessionOf (xs ++ x ∷ []) seat
has_front [] x seat h = absurd h
has_front (y ∷ ys) x seat h =
    ⊎_elim (λ (e : y.seat ≡ seat). inl e) (λ (more : HasSessionOf ys seat). inr (has_front ys x seat more)) h

every_seat : (start : List ItemTerm) (n seat : ℕ) → 1 ≤ seat → seat ≤ n → HasSessionOf (newcomers start n) seat
every_seat start zero seat low high = absurd (omega (arith, low, high))
every_seat start (suc n) seat low high = ⊎_elim
    (λ (less : seat < suc n). has_front (newcomers start n) (newcomer start (suc n)) seat
    (every_seat start n seat low (omega (arith, less))))
    (λ (more : suc n ≤ seat). let e : suc n ≡ seat = omega (arith, more, high) in
    subst (HasSessionOf (newcomers start (suc n))) e (has_last (newcomers start n) (newcomer start (suc n))))
    (cases_lt seat (suc n))

among_last : (s : DeskTerm) (xs : List DeskTerm) (x : DeskTerm) → Among s (xs ++ x ∷ []) → Among s xs ⊎ (x ≡ s)
among_last s [] x a = ⊎_elim (λ (e : x ≡ s). inr e) (λ (none : ⊥). absurd none) a
among_last s (y ∷ ys) x a = ⊎_elim (λ (e : y ≡ s). inl (inl e))
    (λ (more : Among s (ys ++ x ∷ [])). ⊎_elim (λ (b : Among s ys). inl (inr b)) (λ (e : x ≡ s). inr e) (among_last s ys x more)) a

no_own : (start : List ItemTerm) (n : ℕ) (s : DeskTerm) → Among s (newcomers start n) → s.own ≡ []
no_own start zero s a = absurd a
no_own start (suc n) s a = ⊎_elim (λ (b : Among s (newcomers start n)). no_own start n s b)
    (λ (e : newcomer start (suc n) ≡ s). subst (λ (t : DeskTerm). t.own ≡ []) e refl)
    (among_last s (newcomers start n) (newcomer start (suc n)) a)

-- ---- sessions that have given their inputs
given_seats : (each : ℕ) (olds news : List DeskTerm) → HaveGiven each olds news → (seat : ℕ) → HasSessionOf olds seat
    → HasSessionOf news seat
given_seats each [] [] g seat h = h
given_seats each [] (t ∷ ts) g seat h = absurd g
given_seats each (s ∷ ss) [] g seat h = absurd g
given_seats each (s ∷ ss) (t ∷ ts) g seat h = ⊎_elim (λ (e : s.seat ≡ seat). inl (g.0.seat ∙ e))
    (λ (more : HasSessionOf ss seat). inr (given_seats each ss ts g.1 seat more)) h

abbrev HasAll : ℕ → DeskTerm → Type 0
HasAll each s = s.own ≡ drill_entries s.seat each

given_own : (each : ℕ) (olds news : List DeskTerm) → HaveGiven each olds news → ((s : DeskTerm) → Among s olds → s.own ≡ [])
    → (t : DeskTerm) → Among t news → HasAll each t
given_own each [] [] g none t a = absurd a
given_own each [] (n ∷ ns) g none t a = absurd g
given_own each (s ∷ ss) [] g none t a = absurd g
given_own each (s ∷ ss) (n ∷ ns) g none t a = ⊎_elim (λ (e : n ≡ t). subst (HasAll each) e first)
    (λ (more : Among t ns). given_own each ss ns g.1 (λ x b. none x (inr b)) t more) a
  where
    first : HasAll each n
    first = g.0.own ∙ ap (λ (es : List EntryTerm). es ++ drill_entries s.seat each) (none s (inl refl))
        ∙ ap (λ (k : ℕ). drill_entries k each) (sym g.0.seat)

-- what each call gave, and all of them
pub given_each : (each : ℕ) (olds news : List SeenSession) → length news ≡ length olds
    → ((i : ℕ) (d : SeenSession) (e : Result SeenSession OutOfMemory) → i < length olds
    → IfOk (slice_index_or (map Ok news) i e) (λ t. HasGiven each (session_term (slice_index_or olds i d)) (session_term t)))
    → HaveGiven each (map session_term olds) (map session_term news)
given_each each [] [] same given = tt
given_each each [] (t ∷ ts) same given = absurd (omega (arith, same))
given_each each (s ∷ ss) [] same given = absurd (omega (arith, same))
given_each each (s ∷ ss) (t ∷ ts) same given =
    (given 0 s (Ok t) (omega arith), given_each each ss ts (omega (arith, same)) (λ i d e less. given (suc i) d e (omega (arith, less))))

-- ---- counts
own_each : (each : ℕ) (ss : List DeskTerm) → ((s : DeskTerm) → Among s ss → HasAll each s) → own_total ss ≡ length ss * each
own_each each [] all = omega arith
own_each each (s ∷ ss) all =
    let one : length s.own ≡ each = ap length (all s (inl refl)) ∙ entries_count s.seat each in
    let rest = own_each each ss (λ t a. all t (inr a)) in
    omega (arith, one, rest)

all_same : (xs : List ℕ) (n e : ℕ) → length xs ≡ n → ((k : ℕ) → k < n → slice_index xs k ≡ e) → xs ≡ replicate n e
all_same [] zero e same h = refl
all_same [] (suc n) e same h = absurd (omega (arith, same))
all_same (x ∷ xs) zero e same h = absurd (omega (arith, same))
all_same (x ∷ xs) (suc n) e same h =
    ap (λ (y : ℕ). y ∷ xs) (h 0 (omega arith))
    ∙ ap (λ (ys : List ℕ). e ∷ ys) (all_same xs n e (omega (arith, same)) (λ k less. h (suc k) (omega (arith, less))))

-- ---- sums over seats
sum_over : (f : ℕ → ℕ) (n e : ℕ) → ((k : ℕ) → 1 ≤ k → k ≤ n → f k ≡ e) → sum_to f n ≡ n * e
sum_over f zero e all = omega arith
sum_over f (suc n) e all =
    let here = all (suc n) (omega arith) (omega arith) in
    let before = sum_over f n e (λ k low high. all k low (omega (arith, high))) in
    omega (arith, here, before)

sum_grows : (f : ℕ → ℕ) (n m : ℕ) → n ≤ m → sum_to f n ≤ sum_to f m
sum_grows f zero zero le = omega arith
sum_grows f (suc n) zero le = absurd (omega (arith, le))
sum_grows f n (suc m) le = ⊎_elim
    (λ (less : n < suc m). let before = sum_grows f n m (omega (arith, less)) in omega (arith, before))
    (λ (more : suc m ≤ n). let e : suc m ≡ n = omega (arith, more, le) in subst (λ (k : ℕ). sum_to f k ≤ sum_to f (suc m)) e (omega arith))
    (cases_lt n (suc m))

-- a seat beyond the first n
sum_beyond : (f : ℕ → ℕ) (n seat : ℕ) → n < seat → f seat + sum_to f n ≤ sum_to f seat
sum_beyond f n zero less = absurd (omega (arith, less))
sum_beyond f n (suc seat) less = let before = sum_grows f n seat (omega (arith, less)) in omega (arith, before)

-- ---- the closed world
session_of : (ss : List DeskTerm) (seat : ℕ) → HasSessionOf ss seat → (s : DeskTerm) × Among s ss × (s.seat ≡ seat)
session_of [] seat h = absurd h
session_of (s ∷ ss) seat h = ⊎_elim (λ (e : s.seat ≡ seat). (s, inl refl, e))
    (λ (more : HasSessionOf ss seat). let found = session_of ss seat more in (found.0, inr found.1, found.2)) h

module _ (start : List ItemTerm) (seats each : ℕ) (olds news : List DeskTerm) (new : olds ≡ newcomers start seats)
    (given : HaveGiven each olds news) where
  -- a session of each seat is back
  pub none_missing : (seat : ℕ) → IsMissing news seats seat → ⊥
  none_missing seat m = m.missing (given_seats each olds news given seat
      (subst (λ (ss : List DeskTerm). HasSessionOf ss seat) (sym new) (every_seat start seats seat m.some_seat.0 m.some_seat.1)))

  own : (s : DeskTerm) → Among s news → HasAll each s
  own = given_own each olds news given
      (λ s a. no_own start seats s (subst (λ (ss : List DeskTerm). Among s ss) new a))

  entries : (h : List ItemTerm) (taken : List ℕ) → IsClosed start seats news h taken → (seat : ℕ) → 1 ≤ seat → seat ≤ seats
      → entries_of h seat ≡ drill_entries seat each
  entries h taken closed seat low high =
      let found = session_of news seat (closed.every seat low high) in
      subst (λ (k : ℕ). entries_of h k ≡ drill_entries k each) found.2
      (sym (closed.own found.0 found.1).0 ∙ own found.0 found.1)

  version : (h : List ItemTerm) (taken : List ℕ) → IsClosed start seats news h taken → version_of h ≡ seats * each
  version h taken closed = sym closed.total ∙ own_each each news own ∙ ap (λ (n : ℕ). n * each) closed.no_more

  no_others : (h : List ItemTerm) (taken : List ℕ) → IsClosed start seats news h taken → (seat : ℕ) → seats < seat
      → entries_of h seat ≡ []
  no_others h taken closed seat more =
      let f : ℕ → ℕ = λ k. length (entries_of h k) in
      let first = sum_over f seats each (λ k low high. ap length (entries h taken closed k low high) ∙ entries_count k each) in
      let beyond = sum_beyond f seats seat more in
      no_items (entries_of h seat) (omega (arith, first, beyond, counts seat h, version h taken closed))

  pub drilled : (h : List ItemTerm) (taken : List ℕ) → start ≡ drill_start → IsClosed start seats news h taken
      → IsDrilled seats each h taken
  drilled h taken is closed = record {
    legal = closed.legal;
    begins = subst (λ (xs : List ItemTerm). IsPrefix xs h) is closed.begins;
    entries = entries h taken closed;
    no_others = no_others h taken closed;
    taken_is = all_same taken seats each closed.many (λ k less.
        closed.counted k less ∙ ap length (entries h taken closed (k + 1) (omega arith) (omega (arith, less)))
        ∙ entries_count (k + 1) each);
    version = version h taken closed;
  }

-- ---- answers
pub if_ok : {A E : Type 0} (r : Result A E) (P Q : A → Type 0) → ((a : A) → P a → Q a) → IfOk r P → IfOk r Q
if_ok (Ok a) P Q f h = f a h
if_ok (Err e) P Q f h = tt

abbrev came : SeenSession → Result SeenSession OutOfMemory
came s = Ok s

pub oks_length : (ss : List SeenSession) → length (map came ss) ≡ length ss
oks_length [] = refl
oks_length (s ∷ ss) = ap suc (oks_length ss)
