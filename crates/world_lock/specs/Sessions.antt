-- What contracts see of sessions and of the world under the lock, and what both keep.
use Rattle.std.specs.Prelude.{◌≡◌, ℕ, List, map, length, None}
use mathlib.Core.List.{IsPrefix}
use Rattle.logbook.specs.Pages.{Book}
use Rattle.task_model.specs.Terms.Input.{entry_term}
use Rattle.task_model.specs.Terms.Item.{ItemTerm, history_term}
use Rattle.task_model.specs.Running.State.{IsSeat, IsLegal, entries_of, version_of}
use Rattle.task_model.specs.declared.item.Item.{Item}
use Rattle.task_model.specs.declared.input.Entry.{Entry}
use Rattle.session_desk.specs.Desks.{DeskTerm}
use Rattle.world_core.specs.World.{SeenWorld}
use Rattle.page_board.specs.BoardLists.{BoardList, SeenReader}
use Rattle.world_lock.specs.Within.{StandsWithin}

-- what contracts see of a session: its seat, the items that it has seen, its own entries, how often the board refused it, and how often a
-- page of some version was asked for
pub record SeenSession : Type 0 where
  pub seat : ℕ
  pub seen : List Item
  pub own : List Entry
  pub refusals : ℕ
  pub page_at_calls : ℕ

-- a session of its parts
abbrev pub seen_session : ℕ → SeenReader → List Entry → ℕ → SeenSession
seen_session seat reader own page_at_calls =
    record { seat = seat; seen = reader.list; own = own; refusals = reader.refusals; page_at_calls = page_at_calls }

-- a session as the desk that it is
abbrev pub session_term : SeenSession → DeskTerm
session_term s = record {
  seat = s.seat;
  seen = history_term s.seen;
  own = map entry_term s.own;
  refusals = s.refusals;
  page_at_calls = s.page_at_calls;
}

-- What every session keeps: its board is the mark's, the history that it has seen is legal and begins with the opening, and its own entries
-- stand there. Its share has one part, and the number of its own entries.
pub record IsAttending (mark : Book) (start : List ItemTerm) (board : Book) (s : DeskTerm) (version parts amount : ℕ) : Type 0 where
  pub seated : IsSeat s.seat
  pub marked : board ≡ mark
  pub legal : IsLegal s.seen
  pub begins : IsPrefix start s.seen
  pub counted : version ≡ version_of s.seen
  pub stands : StandsWithin s.own (entries_of s.seen s.seat)
  pub one_part : parts ≡ 1
  pub shared : amount ≡ length s.own

-- What the value under the lock keeps: nothing is prepared, the history is what the mark's board has published, it begins with the opening,
-- and the shares sum up to its version.
pub record IsShared (mark : Book) (start : List ItemTerm) (world : SeenWorld) (writer : BoardList) (total : ℕ) : Type 0 where
  pub rest : world.next ≡ None
  pub marked : writer.board ≡ mark
  pub published : history_term writer.list ≡ history_term world.history
  pub begins : IsPrefix start (history_term world.history)
  pub counted : total ≡ version_of (history_term world.history)
