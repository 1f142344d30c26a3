-- The sessions of an opened world, one seat more.
use Rattle.std.proofs.Common.{◌≡◌, ℕ, suc, List, [], ◌∷◌, ◌++◌, All, ap, sym, ◌∙◌, append-nil}
use mathlib.Core.List.{IsPrefix}
use Rattle.logbook.specs.Pages.{Book}
use Rattle.task_model.specs.Terms.Item.{ItemTerm, history_term}
use Rattle.page_board.specs.BoardLists.{BoardList, SeenReader, IsNewOn}
use Rattle.world_lock.specs.Openings.{IsAtStart, newcomer, newcomers}

pub newcomers_more : (start : List ItemTerm) (n m : ℕ) → m ≡ suc n → newcomers start m ≡ newcomers start n ++ newcomer start m ∷ []
newcomers_more start n m e = ap (newcomers start) e ∙ ap (λ k. newcomers start n ++ newcomer start k ∷ []) (sym e)

-- a list begins itself
pub whole_prefix : (h k : List ItemTerm) → h ≡ k → IsPrefix h k
whole_prefix h k e = ([], append-nil h ∙ e)

-- readers that have seen a board's whole list have seen its history
pub all_at_start : (board : Book) (start : List ItemTerm) (shown : BoardList) (rs : List SeenReader) → shown.board ≡ board
    → history_term shown.list ≡ start → All (IsNewOn shown) rs → All (IsAtStart board start) rs
all_at_start board start shown rs marked is all k d less =
    let one = all k d less in (one.0 ∙ marked, ap history_term one.1 ∙ is, one.2)
