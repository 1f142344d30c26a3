use Rattle.std.proofs.Common.{◌≡◌, ◌∙◌, map}
use Rattle.std.proofs.lemmas.Result.{IfOk-weaker}
use Rattle.task_model.specs.Terms.Value.{value_term}
use Rattle.task_model.specs.Terms.Tree.{tree_term, at}
use Rattle.task_model.specs.Running.Checked.{checked_term}
use Rattle.world_core.specs.Pages.{AreStateFragments}
use Rattle.world_core.proofs.KeptLemmas.{tree_shown}
use Rattle.world_core.proofs.drawing.drawn_fragments.Goals as goal

pub returns-clause-fragments : goal.returns-clause-fragments
returns-clause-fragments g c =
    let shown = tree_shown (checked_term c.args.engine.now) c.args.budget (map value_term c.args.store.now.list) c.args.live.now c.draw.new.self
    c.fragments.result.now c.in_ok-draw.ensures.tree c.fragments.ensures c.in_ok-draw.ensures.live in
    IfOk-weaker c.copy.result (λ fs. fs ≡ c.fragments.result.now)
    (AreStateFragments (checked_term c.args.engine.now) c.args.budget (at (tree_term c.args.live.now.tree) (map value_term c.args.store.now.list)))
    (λ fs is. (shown.0, shown.1, is ∙ shown.2)) c.copy.ensures
