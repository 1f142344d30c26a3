-- What ports in memory tell.
use Rattle.std.specs.Prelude.{ℕ, ◌==◌, Option, None, if◌then◌else◌, option_map}
use Rattle.outer_gates.specs.Gates.{GateTold}
use Rattle.outer_gates.specs.MemGates.{gate_in_memory}
use Rattle.outer_ports.specs.declared.mem_ports.MemPorts.{MemPorts}

-- What the gate at a port tells, if it is there and wasn't handed out.
abbrev pub told_at : MemPorts → ℕ → Option GateTold
told_at ports port = if port == ports.port then option_map (λ (new : _). gate_in_memory new.gate) ports.gate else None
