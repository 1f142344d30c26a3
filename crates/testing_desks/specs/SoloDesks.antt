-- A desk over a world of its own.
use Rattle.std.specs.Prelude.{ℕ}
use Rattle.task_model.specs.Terms.Item.{history_term}
use Rattle.task_model.specs.Running.State.{entries_of}
use Rattle.session_desk.specs.Desks.{DeskTerm}
use Rattle.world_core.specs.World.{SeenWorld}

-- It has seen the whole history, the seat's entries there are its own, and none was refused to its page.
abbrev pub solo_desk : (seat : ℕ) → SeenWorld → (calls : ℕ) → DeskTerm
solo_desk seat world calls = record {
  seat = seat;
  seen = history_term world.history;
  own = entries_of (history_term world.history) seat;
  refusals = 0;
  page_at_calls = calls;
}
