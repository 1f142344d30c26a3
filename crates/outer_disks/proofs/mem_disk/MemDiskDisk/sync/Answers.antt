use Rattle.outer_disks.proofs.Kept.{counted_syncs}
use Rattle.outer_disks.proofs.mem_disk.MemDiskDisk.sync.Goals as goal

pub returns-in-Ok-clause-syncs : goal.returns-in-Ok-clause-syncs
returns-in-Ok-clause-syncs c = counted_syncs c.args.self.now c.next_fails.new.self c.settle.new.self c.next_fails.ensures.same c.in-Ok.ensures.ok
