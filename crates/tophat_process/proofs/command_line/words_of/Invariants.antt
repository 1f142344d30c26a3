use Rattle.std.proofs.Common.{◌≡◌, ◌++◌, drop, map, string_bytes}
use Rattle.std.specs.Vec.Iter.{into_iter_items, into_iter_len}
use Rattle.tophat_process.proofs.command_line.words_of.Given as goal

abbrev pub invariant-loop-word : goal.invariant-loop-word
invariant-loop-word g l = l.words.list ++ map string_bytes (into_iter_items l.line) ≡ map string_bytes (drop 1 (into_iter_items l.fn.line))

abbrev pub decreases-loop-word : goal.decreases-loop-word
decreases-loop-word g l = into_iter_len l.line
