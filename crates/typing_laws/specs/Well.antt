-- What may be asked for, and plans that never get stuck, for one program.
use Rattle.task_model.specs.Running.Checked.{CheckedTerm}
use Rattle.task_model.specs.Running.Plan.{Judgement, Plan}
use Rattle.typing_laws.specs.Assumed.{Typing, Assumed, Guaranteed}
use Rattle.typing_laws.specs.Good.{Good}

-- a judgement of which what is assumed holds at some types
pub record MayAsk (c : CheckedTerm) (q : Judgement) : Type 0 where
  pub typing : Typing
  pub assumed : Assumed c typing q

-- A plan that never gets stuck: no name is missing, no value of another type and no unknown place is met.
pub record Well {A : Type 0} (c : CheckedTerm) (p : Plan A) : Type 0 where
  pub good : Good (Assumed c) (Guaranteed c) p (λ x. Unit {0})
