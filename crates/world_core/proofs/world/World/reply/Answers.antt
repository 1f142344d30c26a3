use Rattle.std.proofs.Common.{Err, ap, ◌∙◌, subst}
use Rattle.task_model.specs.Terms.Input.{input_term}
use Rattle.task_model.specs.declared.stops.ActStop.TheVariants.{Over}
use Rattle.world_core.specs.World.{world_term, Replies}
use Rattle.world_core.proofs.world.World.reply.Goals as goal

pub returns-in-Err-Over-clause-replies : goal.returns-in-Err-Over-clause-replies
returns-in-Err-Over-clause-replies c =
    subst (λ i. Replies (world_term c.args.self.now) (record { seat = c.args.entry.now.seat; input = i }) (world_term c.handle.new.self)
    (Err Over)) c.in_ok-input.ensures
    (subst (Replies (world_term c.args.self.now) (record { seat = c.args.entry.now.seat; input = input_term c.in_ok-input.input })
    (world_term c.handle.new.self)) (c.in-Err-Over.is ∙ ap Err c.in-Err-Over.field-0-is) c.handle.ensures.replies)
