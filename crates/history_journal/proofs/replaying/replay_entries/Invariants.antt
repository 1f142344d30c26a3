use Rattle.std.proofs.Common.{◌≡◌, None, length}
use Rattle.world_core.specs.World.{world_term, IsStanding}
use Rattle.history_journal.specs.Restarting.{IsFront}
use Rattle.history_journal.specs.Replaying.{HasAloneRecords}
use Rattle.history_journal.proofs.replaying.replay_entries.Given as goal

-- the records in front were followed
abbrev pub invariant-entries : goal.invariant-entries
invariant-entries l = record {
  next : l.world.next ≡ None;
  standing : IsStanding (world_term l.world);
  front : IsFront l.bytes (world_term l.world).history l.rest;
  alone : HasAloneRecords (world_term l.world).history;
}

abbrev pub decreases-entries : goal.decreases-entries
decreases-entries l = length l.rest
