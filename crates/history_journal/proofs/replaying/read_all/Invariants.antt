use Rattle.std.proofs.Common.{◌≡◌, ◌≤◌, ◌-◌, length, take}
use Rattle.outer_disks.specs.Disks.{IsHonest}
use Rattle.history_journal.specs.Making.{Looks}
use Rattle.history_journal.proofs.replaying.read_all.Given as goal

-- what was read is the front of what is there
abbrev pub invariant-loop-room : goal.invariant-loop-room
invariant-loop-room g l =
    let told = g.D.Disk.told in
    record {
      looks : Looks (told l.fn.disk) (told l.disk);
      count : (told l.fn.disk).faults ≤ (told l.disk).faults;
      within : length l.bytes.items ≤ l.count;
      measured : IsHonest (told l.fn.disk) → l.count ≡ length (told l.fn.disk).seen;
      front : IsHonest (told l.fn.disk) → take (length l.bytes.items) (told l.fn.disk).seen ≡ l.bytes.items;
    }

abbrev pub decreases-loop-room : goal.decreases-loop-room
decreases-loop-room g l = l.count - length l.bytes.items
