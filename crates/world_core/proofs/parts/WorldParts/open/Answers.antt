use Rattle.std.proofs.Common.{◌≡◌, [], ◌∷◌, map, sym, ◌∙◌, subst}
use Rattle.task_model.specs.Terms.Value.{value_term}
use Rattle.task_model.specs.Terms.Tree.{tree_term, State, at}
use Rattle.task_model.specs.Running.Checked.{SeenChecked, checked_term}
use Rattle.task_model.specs.Terms.Item.{opened, history_term}
use Rattle.task_model.specs.Checking.Accepted.{IsAccepted}
use Rattle.task_model.specs.Running.State.{IsOpening}
use Rattle.task_laws.proofs.RanLemmas.{stopped}
use Rattle.world_core.specs.declared.answers.OpenStop.TheVariants.{Over}
use Rattle.world_core.proofs.KeptLemmas.{opened_kept}
use Rattle.world_core.proofs.parts.WorldParts.open.Goals as goal

pub returns-in_err-live-clause-over : goal.returns-in_err-live-clause-over
returns-in_err-live-clause-over c =
    rw (stopped _ c.in_err-live.field-0.0 c.from_residual-in_err-live.ensures.1)
    (subst (λ (k : SeenChecked). c.in_err-live.field-0.0 ≡ Over → (s : State) → IsOpening (checked_term k) c.args.budget s → ⊥)
    c.in_ok-engine.ensures c.in_err-live.ensures.over)

pub returns-clause-state : goal.returns-clause-state
returns-clause-state c =
    subst (λ (k : SeenChecked). IsOpening (checked_term k) c.args.budget
    (at (tree_term c.in_ok-live.live.tree) (map value_term c.opened_tree.new.store.list))) c.in_ok-engine.ensures c.in_ok-live.ensures.ok

pub invariant_of-result : goal.invariant_of-result
invariant_of-result c =
    let same = sym c.in_ok-engine.ensures in
    opened_kept c.in_ok-engine.engine c.args.budget c.in_ok-history.history c.in_ok-live.live c.opened_tree.new.store
    (subst (λ (k : SeenChecked). IsAccepted (checked_term k)) same c.program-accepted.ensures.accepted) c.requires
    (subst (λ (k : SeenChecked). history_term c.in_ok-history.history.list ≡ opened (checked_term k).program c.args.budget ∷ []) same
    c.in_ok-history.ensures)
    (c.in_ok-live.ensures.layers ∙ c.new-store.ensures.layers) c.in_ok-live.ensures.ok c.in_ok-live.ensures.rows c.in_ok-live.ensures.quiet
