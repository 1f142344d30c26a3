use Rattle.std.proofs.Common.{◌≡◌, drop, []}
use Rattle.page_board.proofs.published.append.Given as goal

abbrev pub invariant-loop : goal.invariant-loop
invariant-loop g l =
    (goal.iterator-loop g).can_next l.iterator' × (goal.iterator-loop g).is_finite l.iterator'
    × (l.writer.desk ≡ l.fn.writer.desk) × (l.face ≡ l.fn.face) × (drop l.writer.behind l.writer.log.items ≡ [])
