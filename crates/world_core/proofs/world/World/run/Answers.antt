use Rattle.std.proofs.Common.{[], ◌∷◌, ◌++◌, refl, ap, ◌∙◌}
use Rattle.world_core.specs.World.{world_term}
use Rattle.world_core.proofs.RunLemmas.{run_stops, run_more}
use Rattle.world_core.proofs.world.World.run.Goals as goal

pub returns-then-is_err : goal.returns-then-is_err
returns-then-is_err c =
    run_stops c.args.entries.now c.loop-entry.entry-index c.entry-item.result c.loop-entry-test.true c.entry-item.is
    (world_term c.args.self.now) (world_term c.loop-entry.self) (world_term c.loop-entry.self) c.loop-entry.done.list
    c.reserve.new.self.list
    c.loop-entry.invariant.0 refl c.reserve.ensures.list

pub returns-in-Err : goal.returns-in-Err
returns-in-Err c =
    run_stops c.args.entries.now c.loop-entry.entry-index c.entry-item.result c.loop-entry-test.true c.entry-item.is
    (world_term c.args.self.now) (world_term c.loop-entry.self) (world_term c.reply.new.self) c.loop-entry.done.list c.reserve.new.self.list
    c.loop-entry.invariant.0 c.in-Err.ensures.refused c.reserve.ensures.list

pub loop-entry-preserved : goal.loop-entry-preserved
loop-entry-preserved c = (
  run_more c.args.entries.now c.loop-entry.entry-index c.entry-item.result c.loop-entry-test.true c.entry-item.is
      (world_term c.args.self.now) (world_term c.loop-entry.self) (world_term c.reply.new.self) c.loop-entry.done.list
      c.push_reply.new.done.list c.in-Ok.reply c.loop-entry.invariant.0 c.in-Ok.ensures.replies
      (c.push_reply.ensures ∙ ap (λ l. l ++ c.in-Ok.reply ∷ []) c.reserve.ensures.list),
  c.reply.ensures.rest,
)
