-- The steps on the book keep its rule.
use Rattle.std.proofs.Common.{◌≡◌, ℕ, zero, suc, ◌+◌, ◌<◌, ◌≤◌, ◌==◌, Bool, true, false, List, [], ◌∷◌, ◌++◌, length, slice_set, slice_index_or, refl, ap, sym, ◌∙◌, subst, arith, inl, length-append, zero-le, None}
use Rattle.std.proofs.lemmas.List.{append-nil}
use Rattle.std.proofs.lemmas.Bool.Decides.{nat_tests}
use mathlib.Core.List.{IsPrefix}
use prog.Atomic.{either}
use Rattle.logbook.specs.Pages.{Cell, cell, keeps, gives, adds, no_nib, nib, may_write, may_make, step, Moves, Goes, Away}
use Rattle.task_model.specs.declared.item.Item.{Item}
use Rattle.page_board.specs.Rolls.{cells_away, item_cells, roll_cells, KeepsRoll, ClaimsPen, AddsItem, ToldByPen}
use Rattle.page_board.proofs.FrontLemmas.{prefix_whole, prefix_length}

abbrev pub shown : List Item → List Item
shown log = []

abbrev pub moved : List Item → List Item → ℕ → Type 0
moved xs ys n = Unit {0}

away_length : (n : ℕ) → length (cells_away n) ≡ n
away_length zero = refl
away_length (suc n) = let ih = away_length n in omega arith

row_length : (home n : ℕ) → length (item_cells home n) ≡ home + n
row_length zero n = let e = away_length n in omega arith
row_length (suc home) n = let ih = row_length home n in omega arith

away_add : (n : ℕ) → cells_away n ++ (0, false) ∷ [] ≡ cells_away (suc n)
away_add zero = refl
away_add (suc n) = ap (λ (r : List Cell). (0, false) ∷ r) (away_add n)

-- a cell is added that is away
row_add : (home n : ℕ) → item_cells home n ++ (0, false) ∷ [] ≡ item_cells home (suc n)
row_add zero n = away_add n
row_add (suc home) n = ap (λ (r : List Cell). (0, true) ∷ r) (row_add home n)

-- the first one that is away comes home
row_give : (home n : ℕ) → slice_set (item_cells home (suc n)) home (0, true) ≡ item_cells (suc home) n
row_give zero n = refl
row_give (suc home) n = ap (λ (r : List Cell). (0, true) ∷ r) (row_give home n)

-- a cell that is away stands behind those at home
row_away : (home n k : ℕ) → (slice_index_or (item_cells home n) k (0, false)).1 ≡ false → home ≤ k
row_away zero n k e = zero-le
row_away (suc home) n zero e = absurd cc
row_away (suc home) n (suc k) e = let ih = row_away home n k e in omega arith

-- an exchange of a number for itself changes nothing
same : (n : ℕ) → (b : Bool) → (n == 0) ≡ b → either b 0 n ≡ n
same n true e = grind (arith, nat_tests)
same n false e = refl

claims_goes : (log v : List Item) (e : Item) (old spare : ℕ) → old ≤ length v + 1 → IsPrefix v log → spare ≤ 2
    → (b : Bool) → (length log + spare == old) ≡ b
    → Goes KeepsRoll shown moved 0 (v, (no_nib, None)) (λ n. either (n == old) (old + 1) n) (ClaimsPen (step 0 old (old + 1) e) (v, (no_nib, None))) (roll_cells (length log) spare) log
claims_goes log v e old spare low pre few true is =
    let all : log ++ [] ≡ log = append-nil log in
    let there : length log + spare ≡ old = grind (arith, nat_tests) in
    let longer = prefix_length v log pre in
    let count : either (length log + spare == old) (old + 1) (length log + spare) ≡ length (log ++ []) + suc spare = rw (is, all) (omega arith) in
    let key : suc (suc (length (item_cells (length log) spare))) ≡ suc (suc old) = omega (arith, row_length (length log) spare) in (
      adds,
      [],
      None,
      tt,
      record { spare = suc spare; cells_are = rw (all) (ap (λ (k : ℕ). (k, true) ∷ (0, true) ∷ item_cells (length log) spare ++ (0, false) ∷ []) (count ∙ ap (λ (l : List Item). length l + suc spare) all) ∙ ap (λ (r : List Cell). (length log + suc spare, true) ∷ (0, true) ∷ r) (row_add (length log) spare)); few = omega arith },
      inl (refl, refl),
      rw is (ap (λ (k : ℕ). nib may_make k 0) key),
    )
claims_goes log v e old spare low pre few false is =
    let all : log ++ [] ≡ log = append-nil log in
    let count : either (length log + spare == old) (old + 1) (length log + spare) ≡ length log + spare = rw is refl in (
      keeps,
      [],
      None,
      tt,
      record { spare = spare; cells_are = rw all (ap (λ (k : ℕ). (k, true) ∷ (0, true) ∷ item_cells (length log) spare) count); few = few },
      inl (refl, refl),
      rw is tt,
    )

pub claims_moves : (v : List Item) (e : Item) (old : ℕ) → old ≤ length v + 1
    → Moves KeepsRoll shown moved 0 (v, (no_nib, None)) (λ n. either (n == old) (old + 1) n) (ClaimsPen (step 0 old (old + 1) e) (v, (no_nib, None)))
claims_moves v e old low cs log kept pre apart =
    let P : List Cell → Type 0 = λ c. (0 < length c) × ((cell c 0).1 ≡ true) × Goes KeepsRoll shown moved 0 (v, (no_nib, None)) (λ n. either (n == old) (old + 1) n) (ClaimsPen (step 0 old (old + 1) e) (v, (no_nib, None))) c log in
    subst P (sym kept.cells_are) (omega arith, refl, claims_goes log v e old kept.spare low pre kept.few (length log + kept.spare == old) refl)

-- the holder of the pen knows how long the list is
pen_knows : (log : List Item) (spare n : ℕ) → Away (nib may_write (suc (suc n)) 0) (roll_cells (length log) spare) → (length log ≤ n) × (n < length log + spare)
pen_knows log spare n apart =
    let here = apart refl in
    (row_away (length log) spare n here.1, omega (arith, here.0, row_length (length log) spare))

extends_goes : (log v : List Item) (e : Item) (spare : ℕ) → length log ≤ length v → length v < length log + spare → IsPrefix v log → spare ≤ 2
    → Goes KeepsRoll shown moved 0 (v, (nib may_write (suc (suc (length v))) 0, None)) (λ n. either (n == 0) 0 n) (AddsItem (step 0 0 0 e) (v, (nib may_write (suc (suc (length v))) 0, None))) (roll_cells (length log) spare) log
extends_goes log v e zero long more pre few = absurd (omega arith)
extends_goes log v e (suc spare) long more pre few =
    let whole : v ≡ log = prefix_whole v log pre long in
    let stays : either (length log + suc spare == 0) 0 (length log + suc spare) ≡ length log + suc spare = same (length log + suc spare) (length log + suc spare == 0) refl in
    let count : length log + suc spare ≡ length (log ++ e ∷ []) + spare = omega (arith, length-append log (e ∷ [])) in
    let longer : suc (length log) ≡ length (log ++ e ∷ []) = omega (arith, length-append log (e ∷ [])) in
    let cells : slice_set (item_cells (length log) (suc spare)) (length v) (0, true) ≡ item_cells (length (log ++ e ∷ [])) spare
    = ap (λ (l : List Item). slice_set (item_cells (length log) (suc spare)) (length l) (0, true)) whole ∙ (row_give (length log) spare ∙ ap (λ (k : ℕ). item_cells k spare) longer) in (
      gives,
      e ∷ [],
      None,
      refl,
      record { spare = spare; cells_are = ap (λ (k : ℕ). (k, true) ∷ (0, true) ∷ slice_set (item_cells (length log) (suc spare)) (length v) (0, true)) (stays ∙ count) ∙ ap (λ (r : List Cell). (length (log ++ e ∷ []) + spare, true) ∷ (0, true) ∷ r) cells; few = omega arith },
      inl (refl, refl),
      ap (λ (l : List Item). l ++ e ∷ []) (sym whole),
    )

pub extends_moves : (v : List Item) (e : Item)
    → Moves KeepsRoll shown moved 0 (v, (nib may_write (suc (suc (length v))) 0, None)) (λ n. either (n == 0) 0 n) (AddsItem (step 0 0 0 e) (v, (nib may_write (suc (suc (length v))) 0, None)))
extends_moves v e cs log kept pre apart =
    let P : List Cell → Type 0 = λ c. Away (nib may_write (suc (suc (length v))) 0) c → (0 < length c) × ((cell c 0).1 ≡ true) × Goes KeepsRoll shown moved 0 (v, (nib may_write (suc (suc (length v))) 0, None)) (λ n. either (n == 0) 0 n) (AddsItem (step 0 0 0 e) (v, (nib may_write (suc (suc (length v))) 0, None))) c log in
    subst P (sym kept.cells_are) (λ a. let k = pen_knows log kept.spare (length v) a in (omega arith, refl, extends_goes log v e kept.spare k.0 k.1 pre kept.few)) apart

wholes_goes : (log v : List Item) (e : Item) (spare n : ℕ) → length log ≤ n → spare ≤ 2
    → Goes KeepsRoll shown moved 0 (v, (nib may_write (suc (suc n)) 0, None)) (λ n. either (n == 0) 0 n) (ToldByPen (step 0 0 0 e) (v, (nib may_write (suc (suc n)) 0, None))) (roll_cells (length log) spare) log
wholes_goes log v e spare n long few =
    let all : log ++ [] ≡ log = append-nil log in
    let stays : either (length log + spare == 0) 0 (length log + spare) ≡ length log + spare = same (length log + spare) (length log + spare == 0) refl in (
      keeps,
      [],
      None,
      tt,
      record { spare = spare; cells_are = rw all (ap (λ (k : ℕ). (k, true) ∷ (0, true) ∷ item_cells (length log) spare) stays); few = few },
      inl (refl, refl),
      (rw all (omega arith), refl),
    )

pub wholes_moves : (v : List Item) (e : Item) (n : ℕ)
    → Moves KeepsRoll shown moved 0 (v, (nib may_write (suc (suc n)) 0, None)) (λ n. either (n == 0) 0 n) (ToldByPen (step 0 0 0 e) (v, (nib may_write (suc (suc n)) 0, None)))
wholes_moves v e n cs log kept pre apart =
    let P : List Cell → Type 0 = λ c. Away (nib may_write (suc (suc n)) 0) c → (0 < length c) × ((cell c 0).1 ≡ true) × Goes KeepsRoll shown moved 0 (v, (nib may_write (suc (suc n)) 0, None)) (λ n. either (n == 0) 0 n) (ToldByPen (step 0 0 0 e) (v, (nib may_write (suc (suc n)) 0, None))) c log in
    subst P (sym kept.cells_are) (λ a. let k = pen_knows log kept.spare n a in (omega arith, refl, wholes_goes log v e kept.spare n k.0 kept.few)) apart
