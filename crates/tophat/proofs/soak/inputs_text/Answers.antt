use Rattle.std.proofs.lemmas.Result.{IfOk-weaker}
use Rattle.world_core.specs.World.{world_term}
use Rattle.tophat.specs.SoakReport.{tally_term, IsSummary}
use Rattle.tophat.proofs.soak.inputs_text.Goals as goal

pub returns : goal.returns
returns c =
    IfOk-weaker c.summary.result _ (IsSummary c.args.count c.args.seed (world_term c.args.world))
    (λ text is. (world_term c.run_inputs.new.world, tally_term c.in_ok-tally.tally, c.in_ok-tally.ensures.inputs, is)) c.summary.ensures
