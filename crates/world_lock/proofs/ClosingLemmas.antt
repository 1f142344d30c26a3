-- Why each session's own entries are all entries of its seat, once all seats are together.
use Rattle.std.proofs.Common.{◌≡◌, ◌≢◌, ℕ, zero, suc, ◌+◌, ◌<◌, ◌≤◌, ◌==◌, Bool, true, false, if◌then◌else◌, List, [], ◌∷◌, length, slice_index, refl, ap, sym, subst, ◌∙◌, arith, inl, inr, ⊎_elim}
use mathlib.Core.List.{IsPrefix}
use Rattle.std.proofs.lemmas.Bool.Decides.{nat_tests}
use Rattle.task_model.specs.Terms.Input.{EntryTerm}
use Rattle.task_model.specs.Terms.Item.{ItemTerm, opened, took}
use Rattle.task_model.specs.Running.State.{IsLegal, entries_of, version_of}
use Rattle.session_desk.specs.Desks.{DeskTerm}
use Rattle.world_lock.specs.Closings.{Among, HasSessionOf, HasAllSeats, CountsOwn, Holds, own_total, IsClosed}
use Rattle.world_lock.proofs.WithinLemmas.{within_length, within_whole}

abbrev pub weigh : (DeskTerm → ℕ) → List DeskTerm → ℕ
weigh f [] = 0
weigh f (s ∷ ss) = f s + weigh f ss

-- f 1 + .. + f n
abbrev pub sum_to : (ℕ → ℕ) → ℕ → ℕ
sum_to f zero = 0
sum_to f (suc n) = f (suc n) + sum_to f n

-- the sessions without one of that seat
pub record Without (ss : List DeskTerm) (seat : ℕ) : Type 0 where
  pub rest : List DeskTerm
  pub weight : (f : ℕ → ℕ) → weigh (λ s. f s.seat) ss ≡ f seat + weigh (λ s. f s.seat) rest
  pub one_less : suc (length rest) ≡ length ss
  pub others : (k : ℕ) → k ≢ seat → HasSessionOf ss k → HasSessionOf rest k

without : (ss : List DeskTerm) (seat : ℕ) → HasSessionOf ss seat → Without ss seat
without [] seat has = absurd has
without (s ∷ ss) seat has = ⊎_elim
    (λ (here : s.seat ≡ seat). record {
      rest = ss;
      weight = λ f. ap (λ (k : ℕ). f k + weigh (λ s. f s.seat) ss) here;
      one_less = refl;
      others = λ k apart other. ⊎_elim (λ (e : s.seat ≡ k). absurd (apart (sym e ∙ here))) (λ (more : HasSessionOf ss k). more) other;
    })
    (λ (more : HasSessionOf ss seat). let w = without ss seat more in record {
      rest = s ∷ w.rest;
      weight = λ f. (let e = w.weight f in omega arith);
      one_less = ap suc w.one_less;
      others = λ k apart other. ⊎_elim (λ (e : s.seat ≡ k). inl e) (λ (m : HasSessionOf ss k). inr (w.others k apart m)) other;
    }) has

-- n seats take at least n sessions, and where there are no more, each seat weighs once
pub record Fills (ss : List DeskTerm) (n : ℕ) : Type 0 where
  pub many : n ≤ length ss
  pub once : length ss ≤ n → (f : ℕ → ℕ) → weigh (λ s. f s.seat) ss ≡ sum_to f n

none_weigh : (ss : List DeskTerm) → length ss ≤ 0 → (f : ℕ → ℕ) → weigh (λ s. f s.seat) ss ≡ 0
none_weigh [] le f = refl
none_weigh (s ∷ ss) le f = absurd (omega arith)

pub fills : (n : ℕ) (ss : List DeskTerm) → HasAllSeats ss n → Fills ss n
fills zero ss has = record { many = omega arith; once = λ le f. none_weigh ss le f }
fills (suc n) ss has =
    let w = without ss (suc n) (has (suc n) (omega arith) (omega arith)) in
    let ih = fills n w.rest (λ k low high. w.others k (λ (e : k ≡ suc n). omega arith) (has k low (omega arith))) in
    record {
      many = omega (arith, ih.many, w.one_less);
      once = λ le f. (let e = w.weight f in let i = ih.once (omega (arith, w.one_less)) f in omega arith);
    }

sum_none : (n : ℕ) → sum_to (λ k. 0) n ≡ 0
sum_none zero = refl
sum_none (suc n) = let ih = sum_none n in omega arith

sum_both : (f g : ℕ → ℕ) (n : ℕ) → sum_to (λ k. f k + g k) n ≡ sum_to f n + sum_to g n
sum_both f g zero = refl
sum_both f g (suc n) = let ih = sum_both f g n in omega arith

sum_same : (f g : ℕ → ℕ) → ((k : ℕ) → f k ≡ g k) → (n : ℕ) → sum_to f n ≡ sum_to g n
sum_same f g e zero = refl
sum_same f g e (suc n) = let here = e (suc n) in let ih = sum_same f g e n in omega arith

abbrev bit : Bool → ℕ
bit true = 1
bit false = 0

abbrev is_one : ℕ → ℕ → ℕ
is_one x k = bit (x == k)

one_below : (x n : ℕ) → n < x → sum_to (is_one x) n ≡ 0
one_below x zero less = refl
one_below x (suc n) less = let ih = one_below x n (omega arith) in let here = apart x (suc n) (x == suc n) refl (omega arith) in omega arith
  where
    apart : (x k : ℕ) (b : Bool) → (x == k) ≡ b → k < x → bit b ≡ 0
    apart x k true e less = absurd (let same : x ≡ k = grind (arith, nat_tests) in omega arith)
    apart x k false e less = refl

-- no number is two of those up to n
one_in : (x n : ℕ) → sum_to (is_one x) n ≤ 1
one_in x zero = omega arith
one_in x (suc n) = at (x == suc n) refl (one_in x n)
  where
    at : (b : Bool) → (x == suc n) ≡ b → sum_to (is_one x) n ≤ 1 → bit b + sum_to (is_one x) n ≤ 1
    at true e ih = let same : x ≡ suc n = grind (arith, nat_tests) in let below = one_below x n (omega arith) in omega arith
    at false e ih = omega arith

of_more : (e : EntryTerm) (h : List ItemTerm) (k : ℕ) (b : Bool) → (e.seat == k) ≡ b
    → length (if b then e ∷ entries_of h k else entries_of h k) ≡ bit b + length (entries_of h k)
of_more e h k true is = omega arith
of_more e h k false is = omega arith

-- the entries of the seats up to n are no more than all entries
pub counts : (n : ℕ) (h : List ItemTerm) → sum_to (λ k. length (entries_of h k)) n ≤ version_of h
counts n [] = let e = sum_none n in omega arith
counts n (opened p b ∷ h) = counts n h
counts n (took e ∷ h) =
    let split = sum_same (λ k. length (entries_of (took e ∷ h) k)) (λ k. is_one e.seat k + length (entries_of h k))
    (λ k. of_more e h k (e.seat == k) refl) n in
    let both = sum_both (is_one e.seat) (λ k. length (entries_of h k)) n in
    let one = one_in e.seat n in
    let ih = counts n h in
    omega arith

pub weigh_le : (f g : DeskTerm → ℕ) (ss : List DeskTerm) → ((s : DeskTerm) → Among s ss → f s ≤ g s) → weigh f ss ≤ weigh g ss
weigh_le f g [] le = omega arith
weigh_le f g (s ∷ ss) le = let here = le s (inl refl) in let ih = weigh_le f g ss (λ t among. le t (inr among)) in omega arith

-- where the sums are equal, so is each pair
pub weigh_tight : (f g : DeskTerm → ℕ) (ss : List DeskTerm) → ((s : DeskTerm) → Among s ss → f s ≤ g s) → weigh g ss ≤ weigh f ss
    → (s : DeskTerm) → Among s ss → g s ≤ f s
weigh_tight f g [] le sums s among = absurd among
weigh_tight f g (x ∷ ss) le sums s among =
    let here = le x (inl refl) in
    let rest = weigh_le f g ss (λ t a. le t (inr a)) in
    ⊎_elim (λ (e : x ≡ s). subst (λ (t : DeskTerm). g t ≤ f t) e (omega arith))
    (λ (a : Among s ss). weigh_tight f g ss (λ t a. le t (inr a)) (omega arith) s a) among

own_weigh : (ss : List DeskTerm) → own_total ss ≡ weigh (λ s. length s.own) ss
own_weigh [] = refl
own_weigh (s ∷ ss) = let ih = own_weigh ss in omega arith

pub has_among : (ss : List DeskTerm) (s : DeskTerm) (seat : ℕ) → Among s ss → s.seat ≡ seat → HasSessionOf ss seat
has_among [] s seat among is = absurd among
has_among (x ∷ ss) s seat among is =
    ⊎_elim (λ (e : x ≡ s). inl (ap (λ (t : DeskTerm). t.seat) e ∙ is))
    (λ (a : Among s ss). inr (has_among ss s seat a is)) among

-- every number told is of a session, so all seats are there
pub has_told : (ss : List DeskTerm) (n : ℕ) (taken : List ℕ)
    → ((k : ℕ) → k < n → CountsOwn ss (k + 1) (slice_index taken k)) → HasAllSeats ss n
has_told ss n taken tells zero low high = absurd (omega arith)
has_told ss n taken tells (suc k) low high =
    let t = tells k (omega arith) in has_among ss t.0 (suc k) t.1 (let is : t.0.seat ≡ suc k = omega (arith, t.2) in is)

-- once all sessions are together, the history has their own entries and no others
pub closes : (start : List ItemTerm) (seats : ℕ) (ss : List DeskTerm) (h : List ItemTerm) (taken : List ℕ)
    → IsLegal h → IsPrefix start h → ((s : DeskTerm) → Among s ss → Holds h s) → length ss ≤ seats
    → (seats ≤ length ss → own_total ss ≡ version_of h)
    → length taken ≡ seats → ((k : ℕ) → k < seats → CountsOwn ss (k + 1) (slice_index taken k)) → IsClosed start seats ss h taken
closes start seats ss h taken legal begins holds few whole count tells =
    let has = has_told ss seats taken tells in
    let full = fills seats ss has in
    let sums : weigh (λ s. length (entries_of h s.seat)) ss ≤ weigh (λ s. length s.own) ss
    = omega (arith, full.once few (λ k. length (entries_of h k)), counts seats h, whole full.many, own_weigh ss) in
    let shorter : (s : DeskTerm) → Among s ss → length s.own ≤ length (entries_of h s.seat)
    = λ s a. within_length s.own (entries_of h s.seat) (holds s a).0 in
    let own : (s : DeskTerm) → Among s ss → s.own ≡ entries_of h s.seat = λ s a. within_whole s.own (entries_of h s.seat) (holds s a).0
    (weigh_tight (λ s. length s.own) (λ s. length (entries_of h s.seat)) ss shorter sums s a) in
    record {
      legal = legal;
      begins = begins;
      own = λ s a. (own s a, (holds s a).1);
      every = has;
      no_more = omega (arith, full.many, few);
      total = whole full.many;
      many = count;
      counted = λ k less. (let t = tells k less in
          t.3 ∙ (ap (λ (es : List EntryTerm). length es) (own t.0 t.1) ∙ ap (λ (n : ℕ). length (entries_of h n)) t.2));
    }
