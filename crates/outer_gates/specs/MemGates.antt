-- What a gate in memory tells.
use Rattle.std.specs.Prelude.{Some, None, map, if◌then◌else◌}
use Rattle.outer_io.specs.MemLinks.{told_in_memory}
use Rattle.outer_io.specs.declared.failing_calls.FailingCalls.{FailingCalls}
use Rattle.outer_gates.specs.Gates.{GateTold}
use Rattle.outer_gates.specs.declared.mem_gate.MemGate.{MemGate}

-- Its links, those that were finished as long as there was room for all of them, and its count.
abbrev pub gate_in_memory : MemGate → GateTold
gate_in_memory gate = record {
  left = Some (map told_in_memory gate.links.links.items);
  finished = if gate.is_told then Some (map told_in_memory gate.finished.items) else None;
  faults = gate.faults;
}

-- Which of its calls fail.
abbrev pub gate_plan : MemGate → FailingCalls
gate_plan gate = record { failing = gate.failing; calls = gate.calls; faults = gate.faults }
