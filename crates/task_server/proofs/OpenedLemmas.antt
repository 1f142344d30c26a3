-- The sessions of a world that was just opened.
use Rattle.std.proofs.Common.{◌≡◌, ◌⊎◌, ℕ, zero, suc, ◌+◌, ◌<◌, ◌≤◌, List, [], ◌∷◌, ◌++◌, length, map, refl, ap, sym, subst, ◌∙◌, inl, inr, ⊎_elim, arith, length-append}
use Rattle.task_model.specs.Terms.Item.{ItemTerm}
use Rattle.session_desk.specs.Desks.{DeskTerm}
use Rattle.task_server.specs.Crews.{desks, owned}
use Rattle.world_lock.specs.Closings.{HasAllSeats, HasSessionOf, own_total}
use Rattle.world_lock.specs.Openings.{newcomer, newcomers}
use Rattle.world_lock.specs.Sessions.{SeenSession, session_term}

behind : (xs : List DeskTerm) (x : DeskTerm) → HasSessionOf (xs ++ x ∷ []) x.seat
behind [] x = inl refl
behind (y ∷ ys) x = inr (behind ys x)

before : (xs : List DeskTerm) (x : DeskTerm) (seat : ℕ) → HasSessionOf xs seat → HasSessionOf (xs ++ x ∷ []) seat
before [] x seat h = absurd h
before (y ∷ ys) x seat h = ⊎_elim (λ (e : y.seat ≡ seat). inl e) (λ (m : HasSessionOf ys seat). inr (before ys x seat m)) h

last_or : (n seat : ℕ) → seat ≤ suc n → (seat ≤ n) ⊎ (seat ≡ suc n)
last_or zero zero le = inl (omega arith)
last_or zero (suc zero) le = inr refl
last_or zero (suc (suc k)) le = absurd (omega arith)
last_or (suc n) zero le = inl (omega arith)
last_or (suc n) (suc k) le = ⊎_elim (λ (low : k ≤ n). inl (omega (arith, low))) (λ (e : k ≡ suc n). inr (ap suc e)) (last_or n k (omega (arith, le)))

all_seats : (start : List ItemTerm) (n : ℕ) → HasAllSeats (newcomers start n) n
all_seats start zero seat low high = absurd (omega (arith, low, high))
all_seats start (suc n) seat low high = ⊎_elim
    (λ (le : seat ≤ n). before (newcomers start n) (newcomer start (suc n)) seat (all_seats start n seat low le))
    (λ (e : seat ≡ suc n). subst (HasSessionOf (newcomers start (suc n))) (sym e) (behind (newcomers start n) (newcomer start (suc n))))
    (last_or n seat high)

own_push : (xs : List DeskTerm) (x : DeskTerm) → own_total (xs ++ x ∷ []) ≡ own_total xs + length x.own
own_push [] x = omega arith
own_push (y ∷ ys) x = let ih = own_push ys x in omega arith

no_own : (start : List ItemTerm) (n : ℕ) → own_total (newcomers start n) ≡ 0
no_own start zero = refl
no_own start (suc n) = own_push (newcomers start n) (newcomer start (suc n)) ∙ omega (arith, no_own start n)

count : (start : List ItemTerm) (n : ℕ) → length (newcomers start n) ≡ n
count start zero = refl
count start (suc n) = length-append (newcomers start n) (newcomer start (suc n) ∷ []) ∙ omega (arith, count start n)

desks_length : (ss : List SeenSession) → length (desks ss) ≡ length ss
desks_length [] = refl
desks_length (s ∷ ss) = ap suc (desks_length ss)

module _ (start : List ItemTerm) (n : ℕ) (sessions : List SeenSession) (new : desks sessions ≡ newcomers start n) where
  pub new_seats : HasAllSeats (desks sessions) n
  new_seats = subst (λ (ds : List DeskTerm). HasAllSeats ds n) (sym new) (all_seats start n)

  pub new_owned : owned sessions ≡ 0
  new_owned = ap own_total new ∙ no_own start n

  pub new_count : length sessions ≡ n
  new_count = sym (desks_length sessions) ∙ ap length new ∙ count start n
