use Rattle.task_laws.proofs.FootLemmas.{foot_trial, foot_side}
use Rattle.task_laws.proofs.laws.foot_frames_tests.Goals as goal

pub returns-clause-trial : goal.returns-clause-trial
returns-clause-trial z = λ c k v σ τ a failing n h. foot_trial c k σ τ a v failing n h

pub returns-clause-side : goal.returns-clause-side
returns-clause-side z = λ c k σ τ a failing n h. foot_side c k σ τ a failing n h
