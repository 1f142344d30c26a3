use Rattle.std.proofs.Common.{◌≡◌, ◌++◌, take}
use Rattle.html_pages.proofs.chunk.push_copies.Given as goal

abbrev pub invariant-loop-fragment : goal.invariant-loop-fragment
invariant-loop-fragment l = l.list.items ≡ l.fn.list.items ++ take l.fragment-index l.fragments
