-- The rule of the board's places: what each of them knows, and what their steps tell.
use Rattle.std.specs.Prelude.{◌≡◌, ◌⊎◌, ℕ, List, []}
use mathlib.Core.Option.{some}
use mathlib.Core.List.{IsPrefix}
use lib.ListN.{get_elem?}
use Rattle.page_board.specs.BoardLists.{BoardList, board_list}

-- what a place knows before it knows anything
abbrev pub nowhere : BoardList
nowhere = board_list (record { number = 0; log_name = 0; cells_name = 0 }) []

-- what is known is nothing, or begins the list of the same board
abbrev pub IsKnownOf : BoardList → BoardList → Type 0
IsKnownOf v x = (v.list ≡ []) ⊎ ((x.board ≡ v.board) × IsPrefix v.list x.list)

-- what each place knows begins the list that is shown
abbrev pub AllKnow : BoardList → List BoardList → Type 0
AllKnow x views = (place : ℕ) (v : BoardList) → get_elem? views place ≡ some v → IsKnownOf v x

-- the place knows the shown list y from then on, which goes on from what it knew
abbrev pub LearnsShown : BoardList → BoardList → BoardList → Type 0
LearnsShown v y w = (w ≡ y) × IsKnownOf v y
