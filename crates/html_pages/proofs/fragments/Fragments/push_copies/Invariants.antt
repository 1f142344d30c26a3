use Rattle.std.proofs.Common.{◌≡◌, ◌++◌, take}
use Rattle.html_pages.proofs.fragments.Fragments.push_copies.Given as goal

abbrev pub invariant-loop-fragment : goal.invariant-loop-fragment
invariant-loop-fragment l = l.self ≡ l.fn.self ++ take l.fragment-index l.fragments
