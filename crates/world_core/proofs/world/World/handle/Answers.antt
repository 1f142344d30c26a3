use Rattle.std.proofs.Common.{Ok, Err}
use Rattle.task_model.specs.Terms.Input.{input_term}
use Rattle.task_laws.proofs.RanLemmas.{stopped}
use Rattle.world_core.specs.World.{world_term}
use Rattle.world_core.proofs.RunLemmas.{prepared_some, replies_taken, replies_refused, rest_kept}
use Rattle.world_core.proofs.world.World.handle.Goals as goal

pub commit-requires : goal.commit-requires
commit-requires c =
    prepared_some (world_term c.args.self.now) (record { seat = c.args.seat; input = input_term c.args.input }) c.prepare.new.self
    c.in_ok-prepare.ensures.prepares

pub returns-in_err-prepare-clause-replies : goal.returns-in_err-prepare-clause-replies
returns-in_err-prepare-clause-replies c =
    rw (stopped _ c.in_err-prepare.field-0.0 c.from_residual.ensures.1)
    (replies_refused (world_term c.args.self.now) (world_term c.prepare.new.self)
    (record { seat = c.args.seat; input = input_term c.args.input }) c.in_err-prepare.field-0.0 c.in_err-prepare.ensures.prepares)

pub returns-clause-replies : goal.returns-clause-replies
returns-clause-replies c =
    replies_taken (world_term c.args.self.now) (world_term c.prepare.new.self) _ _ _ c.in_ok-prepare.ensures.prepares c.commit.ensures.commits

pub returns-in_err-prepare-clause-rest : goal.returns-in_err-prepare-clause-rest
returns-in_err-prepare-clause-rest c =
    rest_kept c.args.self.now c.prepare.new.self (record { seat = c.args.seat; input = input_term c.args.input })
    (Err c.in_err-prepare.field-0.0)
    (replies_refused (world_term c.args.self.now) (world_term c.prepare.new.self)
    (record { seat = c.args.seat; input = input_term c.args.input }) c.in_err-prepare.field-0.0 c.in_err-prepare.ensures.prepares)
    c.requires.rest

pub returns-clause-rest : goal.returns-clause-rest
returns-clause-rest c =
    rest_kept c.args.self.now c.commit.new.self (record { seat = c.args.seat; input = input_term c.args.input }) (Ok c.commit.result)
    (replies_taken (world_term c.args.self.now) (world_term c.prepare.new.self) _ _ _ c.in_ok-prepare.ensures.prepares c.commit.ensures.commits)
    c.requires.rest
