use Rattle.std.proofs.Common.{refl}
use Rattle.outer_disks.proofs.Kept.{counted_writes}
use Rattle.outer_disks.proofs.mem_disk.MemDiskDisk.write_at.Goals as goal

pub returns-in-Ok-clause-writes : goal.returns-in-Ok-clause-writes
returns-in-Ok-clause-writes c =
    counted_writes c.args.self.now c.next_fails.new.self c.put.new.self c.args.at c.args.piece.now c.next_fails.ensures.same (c.requires.at refl) c.in-Ok.ensures.ok
