-- What a refusal says of an input's outcome at the state of the world's history.
use Rattle.std.proofs.Common.{◌≡◌, Err, sym, subst}
use Rattle.task_model.specs.Terms.Input.{InputTerm, EntryTerm}
use Rattle.task_model.specs.Terms.Item.{history_term}
use Rattle.task_model.specs.Running.Outcome.{Outcome, IsOutcome, not_offered, over_budget}
use Rattle.task_model.specs.Running.State.{IsState}
use Rattle.task_model.specs.declared.stops.ActStop.{ActStop}
use Rattle.task_model.specs.declared.stops.ActStop.TheVariants.{NotOffered, Over}
use Rattle.session_desk.specs.Outcomes.{HasOutcome}
use Rattle.world_core.specs.World.{SeenWorld, WorldTerm, world_term, IsStanding, Prepares}
use Rattle.world_core.proofs.WorldLemmas.{typed_alone, standing_state}

-- the outcome of an input at a standing world's state is that at the state of its history
pub standing_outcome : (w : WorldTerm) → IsStanding w → (i : InputTerm) (o : Outcome) → IsOutcome w.checked w.budget w.state i o
    → HasOutcome w.history i o
standing_outcome w s i o told =
    subst (λ h. HasOutcome h i o) (sym s.begins) (
      w.state,
      subst (λ h. IsState h w.state) s.begins (standing_state w s),
      subst (λ c. IsOutcome c w.budget w.state i o) (typed_alone w.checked s.accepted) told,
    )

-- what a refusal says of the outcome
module _ (old new : SeenWorld) (e : EntryTerm) (stop : ActStop) (s : IsStanding (world_term old))
    (p : Prepares (world_term old) e (world_term new) (Err stop)) where
  pub not_offered_at : stop ≡ NotOffered → HasOutcome (history_term old.history) e.input not_offered
  not_offered_at is =
      let told = subst (λ (z : ActStop). Prepares (world_term old) e (world_term new) (Err z)) is p in
      standing_outcome (world_term old) s e.input not_offered told.0

  pub over_at : stop ≡ Over → HasOutcome (history_term old.history) e.input over_budget
  over_at is =
      let told = subst (λ (z : ActStop). Prepares (world_term old) e (world_term new) (Err z)) is p in
      standing_outcome (world_term old) s e.input over_budget told.0
