use Rattle.std.proofs.Common.{inl, inr, true≢false, sym, ◌∙◌, refl}
use Rattle.task_engine.proofs.ChangeLemmas.{right_or}
use Rattle.task_engine.proofs.unchanged.is_right.Goals as goal

pub returns-then-is_as_before : goal.returns-then-is_as_before
returns-then-is_as_before c = (λ e. inl (c.is_as_before.ensures.0 c.if-is_as_before.true), λ e. refl)

pub returns : goal.returns
returns c = (
  λ e. inr (sym c.contains.ensures ∙ e),
  λ e. c.contains.ensures ∙ right_or (λ h. true≢false (sym (c.is_as_before.ensures.1 h) ∙ c.if-is_as_before.false)) e,
)
