use Rattle.std.proofs.Common.{◌≡◌, ◌++◌, length}
use Rattle.reader_grammar.proofs.joining.joined.Given as goal

abbrev pub invariant-loop-last : goal.invariant-loop-last
invariant-loop-last g l = l.front.items ++ l.back.items ≡ l.fn.front.items ++ l.fn.back.items

abbrev pub decreases-loop-last : goal.decreases-loop-last
decreases-loop-last g l = length l.front.items
