-- No input of a drill is refused at what a session has seen.
use Rattle.std.proofs.Common.{◌≡◌, List, sym, subst}
use Rattle.std.specs.Prelude.{ℤ}
use mathlib.Core.List.{IsPrefix}
use Rattle.task_model.specs.Terms.Item.{ItemTerm}
use Rattle.task_model.specs.Running.Outcome.{Outcome, taken, not_offered, over_budget}
use Rattle.session_desk.specs.Outcomes.{HasOutcome}
use Rattle.drill_program.specs.Drill.{drill_start, drill_state, set_input}
use Rattle.drill_program.proofs.DrillLemmas.{always_taken}

module _ (seen : List ItemTerm) (begins : IsPrefix drill_start seen) (i : ℤ) where
  outcome : (o : Outcome) → HasOutcome seen (set_input i) o → o ≡ taken (drill_state i)
  outcome o h =
      let there = subst (λ (H : List ItemTerm). HasOutcome H (set_input i) o) (sym begins.1) h in
      always_taken begins.0 there.0 i o there.1 there.2

  pub never_lacking : HasOutcome seen (set_input i) not_offered → ⊥
  never_lacking h = let no = outcome not_offered h in absurd cc

  pub never_over : HasOutcome seen (set_input i) over_budget → ⊥
  never_over h = let no = outcome over_budget h in absurd cc
