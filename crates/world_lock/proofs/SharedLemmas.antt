-- What is kept under the lock once an entry was taken.
use Rattle.std.proofs.Common.{◌≡◌, ℕ, ◌+◌, List, [], ◌∷◌, ◌++◌, sym, ap, ◌∙◌, arith, append_assoc}
use Rattle.logbook.specs.Pages.{Book}
use Rattle.task_model.specs.Terms.Input.{EntryTerm}
use Rattle.task_model.specs.Terms.Item.{ItemTerm, took, history_term}
use Rattle.task_model.specs.Running.State.{version_of}
use Rattle.task_laws.proofs.EntryLemmas.{version_behind}
use Rattle.page_board.specs.BoardLists.{BoardList}
use Rattle.world_core.specs.World.{SeenWorld}
use Rattle.world_events.specs.Events.{IsPublished}
use Rattle.world_lock.specs.Sessions.{IsShared}

module _ {mark : Book} {start : List ItemTerm} {world : SeenWorld} {writer : BoardList} {total : ℕ}
    (d : IsShared mark start world writer total) where
  -- an entry was taken, published and counted
  pub shared_more : {world' : SeenWorld} {writer' told : BoardList} {e : EntryTerm} {version : ℕ}
      → IsPublished world world' writer writer' told e version → (total' : ℕ) → total' ≡ total + 1
      → IsShared mark start world' writer' total'
  shared_more {e = e} p total' total_is = record {
    rest = p.rest;
    marked = p.board ∙ d.marked;
    published = p.published;
    begins = (
      d.begins.0 ++ took e ∷ [],
      sym (append_assoc start d.begins.0 (took e ∷ [])) ∙ ap (λ (h : List ItemTerm). h ++ took e ∷ []) d.begins.1 ∙ sym p.history,
    );
    counted = (let more = version_behind (history_term world.history) (took e ∷ []) in
        omega (arith, total_is, d.counted, more, ap version_of p.history));
  }
