-- Where bodies begin, by the table.
use Rattle.std.proofs.Common.{◌≡◌, ℕ, zero, suc, ◌<◌, List, [], ◌∷◌, length, Some, refl, sym, ap, ◌∙◌, arith}
use Rattle.std.specs.Prelude.{slice_get, IsSome}
use Rattle.task_model.specs.Terms.Program.{ProgramTerm}
use Rattle.task_model.specs.Running.Checked.{body_first}
use Rattle.task_model.specs.Checking.Placed.{firsts_of}
use Rattle.task_model.specs.Syntax.Written.{IsWritten}
use Rattle.task_laws.proofs.TableLemmas.{nodes_before, entries}
use Rattle.host_eval.proofs.WellLemmas.{some_within}

within_some : {X : Type 0} (xs : List X) (i : ℕ) → i < length xs → IsSome (slice_get xs i)
within_some [] i lt = absurd (omega arith)
within_some (x ∷ xs) zero lt = refl
within_some (x ∷ xs) (suc i) lt = within_some xs i (omega arith)

pub start_there : (p : ProgramTerm) → IsWritten p → (i : ℕ) → IsSome (slice_get p.bodies i) → (starts : List ℕ) → starts ≡ firsts_of p
    → IsSome (slice_get starts i)
start_there p w i e starts is =
    let long = ap length is ∙ entries p w in
    let lt = some_within p.bodies i e in
    within_some starts i (omega (arith, long, lt))

pub start_is : (p : ProgramTerm) → IsWritten p → (i n : ℕ) (starts : List ℕ) → starts ≡ firsts_of p → slice_get starts i ≡ Some n
    → n ≡ body_first p i
start_is p w i n starts is e = sym (nodes_before p w i n (sym (ap (λ l. slice_get l i) is) ∙ e))
