use Rattle.task_laws.proofs.FootLemmas.{foot_value, foot_fails}
use Rattle.task_laws.proofs.laws.foot_frames_values_and_failing.Goals as goal

pub returns-clause-value : goal.returns-clause-value
returns-clause-value k = λ t σ τ a. foot_value t σ τ a

pub returns-clause-failing : goal.returns-clause-failing
returns-clause-failing k = λ c t σ τ a failing n h. foot_fails t σ τ a c failing n h
