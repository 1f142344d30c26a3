use Rattle.std.proofs.Common.{◌≡◌, ◌++◌, map, drop}
use Rattle.task_model.specs.Terms.Program.{program_term}
use Rattle.stride_bound.specs.TextLinks.{links_from}
use Rattle.stride_bound.specs.BoundTerms.{piece_term}
use Rattle.stride_bound.proofs.links.links.Given as goal

-- so far, with those of the texts that are left, they are all links
abbrev pub invariant-loop-from : goal.invariant-loop-from
invariant-loop-from l =
    l.all.items ++ links_from (program_term l.definitions.program) l.from (map piece_term (drop l.from l.pieces))
    ≡ links_from (program_term l.definitions.program) 0 (map piece_term l.pieces)
