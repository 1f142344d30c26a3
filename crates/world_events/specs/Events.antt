-- What is prepared under the lock, and what is published.
use Rattle.std.specs.Prelude.{◌≡◌, ℕ, [], ◌∷◌, ◌++◌, None, Some}
use Rattle.task_model.specs.Terms.Input.{EntryTerm}
use Rattle.task_model.specs.Terms.Item.{item_term, took, history_term}
use Rattle.task_model.specs.Running.State.{IsLegal, version_of}
use Rattle.page_board.specs.BoardLists.{BoardList}
use Rattle.page_board.specs.Moments.{StandsFor}
use Rattle.page_board.specs.declared.moment.Moment.{Moment}
use Rattle.world_core.specs.World.{SeenNext, SeenWorld, world_term, at_rest}

-- the entry is prepared, and can be given up; the moment is that of the history with it
pub record IsPrepared (old new : SeenWorld) (e : EntryTerm) (m : Moment) : Type 0 where
  pub next : SeenNext
  pub is : new.next ≡ Some next
  pub item : item_term next.item ≡ took e
  pub history : history_term new.history ≡ history_term old.history
  pub back : at_rest (world_term new) ≡ world_term old
  pub stands : StandsFor m (history_term old.history ++ took e ∷ [])

-- the entry is the last of the history, which is published and told, and this is its version
pub record IsPublished (old new : SeenWorld) (shown showing told : BoardList) (e : EntryTerm) (version : ℕ) : Type 0 where
  pub history : history_term new.history ≡ history_term old.history ++ took e ∷ []
  pub legal : IsLegal (history_term new.history)
  pub rest : new.next ≡ None
  pub board : showing.board ≡ shown.board
  pub published : history_term showing.list ≡ history_term new.history
  pub told_is : told ≡ showing
  pub version_is : version ≡ version_of (history_term new.history)
