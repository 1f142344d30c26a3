-- A type is listed for each `edit` and `share` node.
use Rattle.std.proofs.Common.{◌≡◌, ℕ, ◌+◌, List, ◌++◌, length, length-append, refl, ap, ◌∙◌}
use Rattle.task_model.specs.Terms.Basic.{BasicTerm}
use Rattle.task_model.specs.Terms.Program.{ParamTerm, DefTerm}
use Rattle.task_model.specs.Checking.TypeParts.{item_part}
use Rattle.task_model.specs.Checking.Names.{bind_value, bind_place}
use Rattle.task_model.specs.Checking.FullTask.{FullTask, full_edit, full_enter, full_share, full_fail, full_call, full_step, full_and, full_or, full_xor, full_let, full_if, full_case, full_new, full_put, full_absent}
use Rattle.task_model.specs.Checking.TypeOf.{type_of, task_type, listed_types}
use Rattle.task_model.specs.Checking.Placed.{edit_nodes}

joined : (bs cs : List BasicTerm) (m n : ℕ) → length bs ≡ m → length cs ≡ n → length (bs ++ cs) ≡ m + n
joined bs cs m n e f = length-append bs cs ∙ ap (λ k. k + length cs) e ∙ ap (λ k. m + k) f

pub counted : (defs : List DefTerm) (s : List ParamTerm) (t : FullTask) → length (listed_types defs s t) ≡ edit_nodes t
counted defs s (full_edit e) = refl
counted defs s (full_enter b) = refl
counted defs s (full_share x) = refl
counted defs s (full_fail b) = refl
counted defs s (full_call f es) = refl
counted defs s (full_step t xs x u) = joined _ _ _ _ (counted defs s t) (counted defs (bind_value s x (task_type defs s t)) u)
counted defs s (full_and t u) = joined _ _ _ _ (counted defs s t) (counted defs s u)
counted defs s (full_or t u) = joined _ _ _ _ (counted defs s t) (counted defs s u)
counted defs s (full_xor xs t ys u) = joined _ _ _ _ (counted defs s t) (counted defs s u)
counted defs s (full_let x e t) = counted defs (bind_value s x (type_of defs s e)) t
counted defs s (full_if e t u) = joined _ _ _ _ (counted defs s t) (counted defs s u)
counted defs s (full_case e t x y u) =
    joined _ _ _ _ (counted defs s t) (counted defs (bind_value (bind_value s x (item_part (type_of defs s e))) y (type_of defs s e)) u)
counted defs s (full_new x e t) = counted defs (bind_place s x (type_of defs s e)) t
counted defs s (full_put x e t) = counted defs s t
counted defs s full_absent = refl
