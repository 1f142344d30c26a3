-- Definitions that are found by their numbers.
use Rattle.std.proofs.Common.{◌≡◌, ℕ, suc, Bool, true, false, cond, List, [], ◌∷◌, Some, refl}
use Rattle.task_model.specs.Terms.Text.{Text, same_text}
use Rattle.task_model.specs.Terms.Program.{DefTerm}
use Rattle.task_model.specs.Checking.Names.{first_named}
use Rattle.task_model.specs.Running.Checked.{function_of}
use Rattle.host_eval.specs.ValueWords.{option_then, function_in}

-- the function of a name is that of the first definition of that name
pub function_first : (i : ℕ) (ds : List DefTerm) (f : Text)
    → function_in ds f ≡ option_then (first_named i ds f) (λ d. function_of d.def.params d.def.what)
function_first i [] f = refl
function_first i (d ∷ ds) f = by_test (same_text d.name f) (function_first (suc i) ds f)
  where
    by_test : (b : Bool) → function_in ds f ≡ option_then (first_named (suc i) ds f) (λ d. function_of d.def.params d.def.what)
        → cond b (function_of d.params d.what) (function_in ds f)
        ≡ option_then (cond b (Some (record { index = i; def = d })) (first_named (suc i) ds f)) (λ d. function_of d.def.params d.def.what)
    by_test true e = refl
    by_test false e = e
