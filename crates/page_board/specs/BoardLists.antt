-- What contracts see of a board and of its readers.
use Rattle.std.specs.Prelude.{◌≡◌, ℕ, List}
use Rattle.logbook.specs.Pages.{Book}
use Rattle.task_model.specs.declared.item.Item.{Item}

-- a list of items, and the board that it is on
pub record BoardList : Type 0 where
  pub board : Book
  pub list : List Item

abbrev pub board_list : Book → List Item → BoardList
board_list board list = record { board = board; list = list }

-- the list that a reader has seen, the board that it is on, and how often the board refused the reader
pub record SeenReader : Type 0 where
  pub board : Book
  pub list : List Item
  pub refusals : ℕ

-- the reader is of the board, has seen its whole list, and was never refused
abbrev pub IsNewOn : BoardList → SeenReader → Type 0
IsNewOn x v = (v.board ≡ x.board) × (v.list ≡ x.list) × (v.refusals ≡ 0)
