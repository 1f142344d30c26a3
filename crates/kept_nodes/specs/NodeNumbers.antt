-- Nodes by their numbers in pre-order.
use Rattle.std.specs.Prelude.{ℕ, zero, suc, Bool, List, [], ◌∷◌, Result, Ok, Err}
use Rattle.task_model.specs.Running.Address.{Address}
use Rattle.kept_nodes.specs.KeptMarks.{told}
use Rattle.kept_nodes.specs.declared.marks.Marks.{Marks}

-- what marks tell of the address of a number, or the number that is left behind the last one
abbrev pub numbered : Marks → List Address → ℕ → Result Bool ℕ
numbered m [] n = Err n
numbered m (a ∷ others) zero = Ok (told m a)
numbered m (a ∷ others) (suc n) = numbered m others n
