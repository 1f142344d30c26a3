use Rattle.std.proofs.Common.{◌≡◌, ◌+◌, ◌≤◌, ◌++◌, length, drop, take}
use Rattle.html_pages.specs.Fragments.{chunks_list}
use Rattle.html_pages.proofs.fragments.Fragments.take_over.Given as goal

abbrev pub invariant-loop-chunk : goal.invariant-loop-chunk
invariant-loop-chunk l =
    (l.skip + l.left ≤ length (chunks_list (drop l.chunk-index l.chunks) ++ l.last))
    × (l.self ++ take l.left (drop l.skip (chunks_list (drop l.chunk-index l.chunks) ++ l.last))
    ≡ l.fn.self ++ take l.fn.count (drop l.fn.from l.fn.others))
