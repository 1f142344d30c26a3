use Rattle.std.proofs.Common.{◌≡◌, ◌-◌, ◌≤◌, length}
use Rattle.std.specs.Io.KnownBytes.{Consumes}
use Rattle.outer_io.proofs.system_files.read_file.Given as goal

abbrev pub invariant-file : goal.invariant-file
invariant-file g l = record {
  within : length l.bytes.list ≤ l.limit;
  read : Consumes (g.I.Source.left l.initial.file) (g.I.Source.left l.file) l.bytes.list;
  faults : g.I.Source.faults l.file ≡ g.I.Source.faults l.initial.file;
}

abbrev pub decreases-file : goal.decreases-file
decreases-file g l = l.limit - length l.bytes.list
