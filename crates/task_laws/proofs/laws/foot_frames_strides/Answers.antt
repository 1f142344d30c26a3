use Rattle.task_laws.proofs.FootLemmas.{foot_strides, foot_settles}
use Rattle.task_laws.proofs.laws.foot_frames_strides.Goals as goal

pub returns-clause-strides : goal.returns-clause-strides
returns-clause-strides k = λ c t σ τ a s n h. foot_strides t σ τ a c s n h

pub returns-clause-settling : goal.returns-clause-settling
returns-clause-settling k = λ c t σ τ a s n h. foot_settles t σ τ a c s n h
