-- How much there is to write of a task and of the bodies that it may name.
use Rattle.std.proofs.Common.{◌≡◌, ℕ, ◌+◌, ◌<◌, List, [], ◌∷◌, ◌++◌, arith, subst, sym}
use Rattle.task_model.specs.declared.task.Task.{size-Task}
use Rattle.task_model.specs.declared.task.Body.{Body}

abbrev pub weight : List Body → ℕ
weight [] = 0
weight (b ∷ bs) = size-Task b.task.value + 1 + weight bs

-- a body and those behind it are less than all
pub weight-later : (bodies before : List Body) (b : Body) (later : List Body) → bodies ≡ before ++ b ∷ later
    → size-Task b.task.value + weight later < weight bodies
weight-later bodies [] b later e = subst (λ l. size-Task b.task.value + weight later < weight l) (sym e) (omega arith)
weight-later [] (x ∷ before) b later e = absurd cc
weight-later (y ∷ bodies) (x ∷ before) b later e =
    let rest : bodies ≡ before ++ b ∷ later = cc in
    let less = weight-later bodies before b later rest in
    omega (arith, less)
