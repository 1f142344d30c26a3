-- Queues of texts, along the lines.
use Rattle.std.proofs.Common.{◌≡◌, ℕ, zero, suc, ◌+◌, ◌<◌, ◌==◌, true, false, List, [], ◌∷◌, ◌++◌, length, map, Option, Some, None, IfSome, IfNone, MatchOption, Global, slice_get, slice_set, slice_index_or, refl, ap, sym, ◌∙◌, subst, arith}
use Rattle.std.proofs.lemmas.Bool.{ne_eqb, eq-eqb}
use Rattle.std.specs.Option.{option_to_list}
use Rattle.std.specs.declared.collections.VecDeque.{VecDeque}
use Rattle.std.specs.VecDeque.{deque_len}
use Rattle.task_model.specs.Terms.Rowed.{Rowed}
use Rattle.task_model.specs.Terms.Text.{Text}
use Rattle.hub_lines.specs.OwnLines.{AddressedTerm, own_lines, own_texts}
use Rattle.hub_lines.specs.Queues.{AreCounted, StandAtOwn, TookAt}

-- a number is itself, and no greater one
same_number : (n k : ℕ) → n ≡ k → (n == k) ≡ true
same_number n k e = eq-eqb n k e

other_number : (n k : ℕ) → n < k → (n == k) ≡ false
other_number n k less = ne_eqb n k (λ e. omega (arith, less, e))

greater_number : (n k : ℕ) → k < n → (n == k) ≡ false
greater_number n k less = ne_eqb n k (λ e. omega (arith, less, e))

own_first : (k : ℕ) (l : AddressedTerm) (ls : List AddressedTerm) → l.world ≡ k → own_lines k (l ∷ ls) ≡ l.line ∷ own_lines k ls
own_first k l ls e = rw (same_number l.world k e) refl

texts_first : (k : ℕ) (l : AddressedTerm) (ls : List AddressedTerm) (t : Text) (ts : List Text) → l.world ≡ k
    → own_texts k (l ∷ ls) (t ∷ ts) ≡ t ∷ own_texts k ls ts
texts_first k l ls t ts e = rw (same_number l.world k e) refl

-- ---- lines of another world
-- those of greater numbers
counted_above : (k : ℕ) (qs : List (List Text)) (l : AddressedTerm) (ls : List AddressedTerm) → l.world < k → AreCounted k qs (l ∷ ls)
    → AreCounted k qs ls
counted_above k [] l ls less h = tt
counted_above k (q ∷ qs) l ls less h = (
  (h.0 ∙ (rw (other_number l.world k less) refl)),
  counted_above (k + 1) qs l ls (omega (arith, less)) h.1,
)

stand_above : (k : ℕ) (qs : List (List Text)) (l : AddressedTerm) (ls : List AddressedTerm) (t : Text) (ts : List Text) → l.world < k
    → StandAtOwn k qs ls ts → StandAtOwn k qs (l ∷ ls) (t ∷ ts)
stand_above k [] l ls t ts less h = tt
stand_above k (q ∷ qs) l ls t ts less h = (
  rw (other_number l.world k less) h.0,
  stand_above (k + 1) qs l ls t ts (omega (arith, less)) h.1,
)

-- ---- the queue of a line's world
-- it isn't empty
pub counted_some : (k j : ℕ) (qs : List (List Text)) (l : AddressedTerm) (ls : List AddressedTerm) (q : List Text) → l.world ≡ k + j
    → AreCounted k qs (l ∷ ls) → slice_get qs j ≡ Some q → q ≡ [] → ⊥
counted_some k j [] l ls q at h got none = cc
counted_some k zero (p ∷ qs) l ls q at h got none =
    let same : p ≡ q = cc in
    let count : length p ≡ length (own_lines k (l ∷ ls)) = h.0 in
    let first = ap length (own_first k l ls (omega (arith, at))) in
    let empty : length p ≡ 0 = ap length (same ∙ none) in
    omega (arith, count, first, empty)
counted_some k (suc j) (p ∷ qs) l ls q at h got none = counted_some (k + 1) j qs l ls q (omega (arith, at)) h.1 got none

-- one text less stands in it for the lines behind
pub counted_rest : (k j : ℕ) (qs rs : List (List Text)) (l : AddressedTerm) (ls : List AddressedTerm) (t : Text) → l.world ≡ k + j
    → TookAt j qs rs t → AreCounted k qs (l ∷ ls) → AreCounted k rs ls
counted_rest k j [] rs l ls t at took h = absurd took
counted_rest k j (q ∷ qs) [] l ls t at took h = absurd took
counted_rest k zero (q ∷ qs) (r ∷ rs) l ls t at took h =
    let first = ap length (own_first k l ls (omega (arith, at))) in
    let less = ap length took.0 in
    let count : length q ≡ length (own_lines k (l ∷ ls)) = h.0 in (
      omega (arith, first, less, count),
      subst (λ z. AreCounted (k + 1) z ls) took.1 (counted_above (k + 1) qs l ls (omega (arith, at)) h.1),
    )
counted_rest k (suc j) (q ∷ qs) (r ∷ rs) l ls t at took h = (
  sym (ap length took.0) ∙ (h.0 ∙ (rw (greater_number l.world k (omega (arith, at))) refl)),
  counted_rest (k + 1) j qs rs l ls t (omega (arith, at)) took.1 h.1,
)

-- and stands at the line
pub stand_first : (k j : ℕ) (qs rs : List (List Text)) (l : AddressedTerm) (ls : List AddressedTerm) (t : Text) (ts : List Text) → l.world ≡ k + j
    → TookAt j qs rs t → StandAtOwn k rs ls ts → StandAtOwn k qs (l ∷ ls) (t ∷ ts)
stand_first k j [] rs l ls t ts at took h = absurd took
stand_first k j (q ∷ qs) [] l ls t ts at took h = absurd took
stand_first k zero (q ∷ qs) (r ∷ rs) l ls t ts at took h = (
  texts_first k l ls t ts (omega (arith, at)) ∙ ap (λ z. t ∷ z) h.0 ∙ sym took.0,
  stand_above (k + 1) qs l ls t ts (omega (arith, at)) (subst (λ z. StandAtOwn (k + 1) z ls ts) (sym took.1) h.1),
)
stand_first k (suc j) (q ∷ qs) (r ∷ rs) l ls t ts at took h = (
  (rw (greater_number l.world k (omega (arith, at))) h.0) ∙ sym took.0,
  stand_first (k + 1) j qs rs l ls t ts (omega (arith, at)) took.1 h.1,
)

-- where no lines are left, no texts are
pub stand_none : (k : ℕ) (qs : List (List Text)) → AreCounted k qs [] → StandAtOwn k qs [] []
stand_none k [] h = tt
stand_none k (q ∷ qs) h = (empty q h.0, stand_none (k + 1) qs h.1)
  where
    empty : (q : List Text) → length q ≡ 0 → [] ≡ q
    empty [] e = refl
    empty (t ∷ q) e = absurd (omega (arith, e))

-- ---- one queue of several
pub took_front : {Q : Type 0} (view : Q → List Text) (at : ℕ) (queues : List Q) (d left : Q) (t : Text) → at < length queues
    → view (slice_index_or queues at d) ≡ t ∷ view left
    → TookAt at (map view queues) (map view (slice_set queues at left)) t
took_front view at [] d left t less took = absurd (omega (arith, less))
took_front view zero (q ∷ queues) d left t less took = (took, refl)
took_front view (suc at) (q ∷ queues) d left t less took = (refl, took_front view at queues d left t (omega (arith, less)) took)

pub none_there : {Q : Type 0} (view : Q → List Text) (at : ℕ) (queues : List Q) (d : Q) (queue : List Text) → at < length queues
    → view (slice_index_or queues at d) ≡ [] → slice_get (map view queues) at ≡ Some queue → queue ≡ []
none_there view at [] d queue less none got = absurd (omega (arith, less))
none_there view zero (q ∷ queues) d queue less none got = let same : view q ≡ queue = cc in sym same ∙ none
none_there view (suc at) (q ∷ queues) d queue less none got = none_there view at queues d queue (omega (arith, less)) none got

-- the texts of a queue
abbrev pub queue_texts : VecDeque (Rowed ℕ) Global → List Text
queue_texts q = map (λ (t : Rowed ℕ). t.list) q.items

pub popped : (r : Option (Rowed ℕ)) (at : ℕ) (queues : List (VecDeque (Rowed ℕ) Global)) (q left : VecDeque (Rowed ℕ) Global) → at < length queues
    → q ≡ slice_index_or queues at q → q.items ≡ option_to_list r ++ left.items
    → IfSome r (λ t. TookAt at (map queue_texts queues) (map queue_texts (slice_set queues at left)) t.list)
popped None at queues q left less here split = tt
popped (Some t) at queues q left less here split = took_front queue_texts at queues q left t.list less
    (ap queue_texts (sym here) ∙ ap (λ ts. map (λ (t : Rowed ℕ). t.list) ts) split)

pub pops_none : (r : Option (Rowed ℕ)) (at : ℕ) (queues : List (VecDeque (Rowed ℕ) Global)) (q left : VecDeque (Rowed ℕ) Global) → at < length queues
    → q ≡ slice_index_or queues at q → q.items ≡ option_to_list r ++ left.items
    → MatchOption r ((deque_len q ≡ 0) × (deque_len left ≡ 0)) (λ _. deque_len left + 1 ≡ deque_len q)
    → IfNone r ((queue : List Text) → slice_get (map queue_texts queues) at ≡ Some queue → queue ≡ [])
pops_none (Some t) at queues q left less here split empty = tt
pops_none None at queues q left less here split empty = λ queue got. none_there queue_texts at queues q queue less
    (ap queue_texts (sym here) ∙ nothing q.items (let own = q.ok.0 in let none = empty.0 in omega (arith, own, none))) got
  where
    nothing : (ts : List (Rowed ℕ)) → length ts ≡ 0 → map (λ (t : Rowed ℕ). t.list) ts ≡ []
    nothing [] e = refl
    nothing (t ∷ ts) e = absurd (omega (arith, e))

-- one text more stands in front of those to come
pub one_text_more : (done : List (Rowed ℕ)) (x : Rowed ℕ) (ts : List Text)
    → map (λ (u : Rowed ℕ). u.list) done ++ (x.list ∷ ts) ≡ map (λ (u : Rowed ℕ). u.list) (done ++ x ∷ []) ++ ts
one_text_more [] x ts = refl
one_text_more (y ∷ done) x ts = ap (λ l. y.list ∷ l) (one_text_more done x ts)

-- there is a queue at each place
pub get_some : {Q : Type 0} (view : Q → List Text) (queues : List Q) (at : ℕ) → at < length queues
    → (queue : List Text) × (slice_get (map view queues) at ≡ Some queue)
get_some view [] at less = absurd (omega (arith, less))
get_some view (q ∷ queues) zero less = (view q, refl)
get_some view (q ∷ queues) (suc at) less = get_some view queues at (omega (arith, less))
