-- What an opening holds and keeps, and the sessions of an opened world.
use Rattle.std.specs.Prelude.{◌≡◌, ℕ, zero, suc, ◌≤◌, List, [], ◌∷◌, ◌++◌, All, length, None}
use Rattle.logbook.specs.Pages.{Book}
use Rattle.task_model.specs.Terms.Item.{ItemTerm, history_term}
use Rattle.task_model.specs.Running.State.{IsSeat, IsLegal, version_of}
use Rattle.task_model.specs.declared.item.Item.{Item}
use Rattle.session_desk.specs.Desks.{DeskTerm}
use Rattle.page_board.specs.BoardLists.{BoardList, SeenReader, IsNewOn}
use Rattle.world_core.specs.World.{SeenWorld}

-- a board, the history of the opened world, a ledger's name, and a number of seats
pub record SeenOpening : Type 0 where
  pub board : Book
  pub history : List Item
  pub name : ℕ
  pub seats : ℕ

-- What an opening keeps: nothing is prepared, the history is legal and has no entry, the board shows it to a reader for each seat, and the
-- ledger has a part for each. There is room for a number for each seat.
pub record IsOpened (world : SeenWorld) (writer : BoardList) (readers : List SeenReader) (parts : ℕ) (taken : List ℕ) (room seats : ℕ)
    : Type 0 where
  pub rest : world.next ≡ None
  pub legal : IsLegal (history_term world.history)
  pub version : version_of (history_term world.history) ≡ 0
  pub shown : history_term writer.list ≡ history_term world.history
  pub readers_are : All (IsNewOn writer) readers
  pub many : (length readers ≡ seats) × (parts ≡ seats)
  pub some : IsSeat seats
  pub empty : (taken ≡ []) × (seats ≤ room)

-- the reader is of the board, has seen just this history, and was never refused
abbrev pub IsAtStart : Book → List ItemTerm → SeenReader → Type 0
IsAtStart board start v = (v.board ≡ board) × (history_term v.list ≡ start) × (v.refusals ≡ 0)

-- the session of a seat, which has seen the opening alone
abbrev pub newcomer : List ItemTerm → ℕ → DeskTerm
newcomer start seat = record { seat = seat; seen = start; own = []; refusals = 0; page_at_calls = 0 }

-- the sessions of the seats from 1 on
abbrev pub newcomers : List ItemTerm → ℕ → List DeskTerm
newcomers start zero = []
newcomers start (suc seats) = newcomers start seats ++ newcomer start (suc seats) ∷ []
