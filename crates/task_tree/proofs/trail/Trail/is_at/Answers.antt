use Rattle.std.proofs.Common.{◌≡◌, refl, sym, ◌∙◌, Decides}
use Rattle.std.proofs.lemmas.Slice.Eq.{slice_eq-Decides}
use Rattle.task_model.specs.contracts.input.TurnPartialEq.TheImpl.{eq-value}
use Rattle.task_model.specs.declared.input.Turn.{Turn}
use Rattle.task_model.specs.declared.input.Turn.TheVariants as turns
use Rattle.task_tree.proofs.trail.Trail.is_at.Goals as goal

turns_decide : (a b : Turn) → Decides (eq-value.it a b) (a ≡ b)
turns_decide turns.First turns.First = (λ _. refl, λ _. refl)
turns_decide turns.First turns.Second = (λ e. absurd (cc), λ e. absurd (cc))
turns_decide turns.Second turns.First = (λ e. absurd (cc), λ e. absurd (cc))
turns_decide turns.Second turns.Second = (λ _. refl, λ _. refl)

pub returns : goal.returns
returns c =
    let same = slice_eq-Decides turns_decide _ _ _ c.eq.ensures in
    let own = c.as_slice-2.ensures ∙ c.self.view_is in
    (λ t. sym c.as_slice.ensures ∙ same.0 t ∙ own, λ e. same.1 (c.as_slice.ensures ∙ e ∙ sym own))
