use Rattle.std.proofs.Common.{◌≡◌, ◌≤◌, All, length, vec_capacity}
use Rattle.page_board.specs.BoardLists.{IsNewOn}
use Rattle.page_board.proofs.making.board.Given as goal

abbrev pub invariant-loop : goal.invariant-loop
invariant-loop g l = (l.writer ≡ l.initial.writer) × (length l.all.items ≡ l.counter) × All (IsNewOn l.writer) l.all.items × (l.fn.readers ≤ vec_capacity l.all)
