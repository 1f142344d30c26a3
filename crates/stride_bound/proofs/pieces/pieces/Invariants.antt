use Rattle.std.proofs.Common.{◌≡◌, ◌++◌, map, take}
use Rattle.task_model.specs.Terms.Task.{body_term}
use Rattle.task_model.specs.Terms.Program.{def_term, task_body}
use Rattle.stride_bound.specs.BoundTerms.{piece_term}
use Rattle.stride_bound.proofs.pieces.pieces.Given as goal

abbrev pub invariant-loop-def : goal.invariant-loop-def
invariant-loop-def l = map piece_term l.all.items ≡ map (λ d. (def_term d).what) (take l.def-index l.def-items)

abbrev pub invariant-loop-body : goal.invariant-loop-body
invariant-loop-body l =
    map piece_term l.all.items
    ≡ map (λ d. (def_term d).what) l.program.defs.list ++ map (λ b. task_body ((body_term b).task)) (take l.body-index l.body-items)
