-- What a world replied to an entry that it refused.
use Rattle.std.proofs.Common.{◌≡◌, Err, subst}
use Rattle.task_model.specs.Terms.Input.{EntryTerm}
use Rattle.task_model.specs.Running.Outcome.{IsOutcome, not_offered, over_budget}
use Rattle.task_model.specs.declared.stops.ActStop.{ActStop}
use Rattle.task_model.specs.declared.stops.ActStop.TheVariants as acts
use Rattle.world_core.specs.World.{WorldTerm, Replies}

pub not_offered_in : (w new : WorldTerm) (e : EntryTerm) (stop : ActStop) → stop ≡ acts.NotOffered → Replies w e new (Err stop)
    → IsOutcome w.checked w.budget w.state e.input not_offered
not_offered_in w new e stop is r = outcome (subst (λ (s : ActStop). Replies w e new (Err s)) is r)
  where
    outcome : Replies w e new (Err acts.NotOffered) → IsOutcome w.checked w.budget w.state e.input not_offered
    outcome q = q.0

pub over_in : (w new : WorldTerm) (e : EntryTerm) (stop : ActStop) → stop ≡ acts.Over → Replies w e new (Err stop)
    → IsOutcome w.checked w.budget w.state e.input over_budget
over_in w new e stop is r = outcome (subst (λ (s : ActStop). Replies w e new (Err s)) is r)
  where
    outcome : Replies w e new (Err acts.Over) → IsOutcome w.checked w.budget w.state e.input over_budget
    outcome q = q.0
