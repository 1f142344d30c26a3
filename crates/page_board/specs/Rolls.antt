-- The rule of the book that keeps the published list, and what its steps tell. The book has a cell for each item of the list, which is at
-- home, and behind them at most two that are away. Who holds the pen of the first one away can add the next item, and nobody else can.
use Rattle.std.specs.Prelude.{◌≡◌, ℕ, zero, suc, ◌+◌, ◌≤◌, ◌==◌, true, false, List, [], ◌∷◌, ◌++◌, length, MatchBool}
use Rattle.logbook.specs.Pages.{Cell, Step, View, Book, Named, nib, may_make}
use Rattle.task_model.specs.declared.item.Item.{Item}
use Rattle.task_model.specs.declared.item.Item.TheVariants.{Took}
use Rattle.task_model.specs.declared.input.Act.TheVariants.{Left}

-- so many cells that are away
abbrev pub cells_away : ℕ → List Cell
cells_away zero = []
cells_away (suc n) = (0, false) ∷ cells_away n

-- the cells of a list's items, which are at home, and then those that are away
abbrev pub item_cells : ℕ → ℕ → List Cell
item_cells zero n = cells_away n
item_cells (suc home) n = (0, true) ∷ item_cells home n

-- in front of them stand two words: the first one holds how many they are, and the second isn't used
abbrev pub roll_cells : ℕ → ℕ → List Cell
roll_cells home n = (home + n, true) ∷ (0, true) ∷ item_cells home n

-- the book has a cell for each item, and at most two that are away
pub record KeepsRoll (cells : List Cell) (log : List Item) : Type 0 where
  pub spare : ℕ
  pub cells_are : cells ≡ roll_cells (length log) spare
  pub few : spare ≤ 2

-- the first word of a book
abbrev pub count_word : Book → Named
count_word b = record { tracked = true; key = 0; book = b }

-- where the number was as expected, the caller has the pen of a new cell
abbrev pub ClaimsPen : Step Item → View Item ℕ → ℕ → View Item ℕ → Type 0
ClaimsPen s v found w = MatchBool (found == s.old) (w.1.0 ≡ nib may_make (suc (suc s.old)) 0) (Unit {0})

-- the item was added to all that had been seen
abbrev pub AddsItem : Step Item → View Item ℕ → ℕ → View Item ℕ → Type 0
AddsItem s v found w = w.0 ≡ v.0 ++ s.ask ∷ []

-- the list is no longer than the pen says, and the pen stays
abbrev pub ToldByPen : Step Item → View Item ℕ → ℕ → View Item ℕ → Type 0
ToldByPen s v found w = (suc (suc (length w.0)) ≤ v.1.0.key) × (w.1.0 ≡ v.1.0)

-- what a step that adds nothing asks for
abbrev pub no_item : Item
no_item = Took (record { seat = 0; input = record { path = record { turns = [] }; act = Left } })
