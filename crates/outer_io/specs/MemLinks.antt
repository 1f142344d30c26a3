-- What a link in memory tells.
use Rattle.std.specs.Prelude.{Some, drop}
use Rattle.outer_io.specs.Links.{LinkTold}
use Rattle.outer_io.specs.PlainSource.{left_of}
use Rattle.outer_io.specs.declared.mem_link.MemLink.{MemLink}

-- All of its bytes, both counts, and whether it was shut.
abbrev pub told_in_memory : MemLink → LinkTold
told_in_memory link = record {
  whole = Some (drop link.start link.source.plain.bytes.list);
  left = Some (left_of link.source.plain);
  taken = Some link.sink.bytes.list;
  read_faults = link.source.plan.faults;
  write_faults = link.sink.plan.faults;
  is_shut = link.is_shut;
}
