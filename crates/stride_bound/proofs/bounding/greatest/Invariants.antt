use Rattle.std.proofs.Common.{◌≡◌, map, drop}
use Rattle.stride_bound.specs.Sums.{either}
use Rattle.stride_bound.specs.Figures.{greatest_test}
use Rattle.stride_bound.specs.BoundTerms.{table_term, piece_term}
use Rattle.stride_bound.proofs.bounding.greatest.Given as goal

-- so far, with the rest, it is the greatest of all
abbrev pub invariant-loop-piece : goal.invariant-loop-piece
invariant-loop-piece l =
    either l.most (greatest_test (table_term l.table) (map piece_term (drop l.piece-index l.pieces)))
    ≡ greatest_test (table_term l.table) (map piece_term l.pieces)
