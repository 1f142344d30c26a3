-- What a call for a gate answers, and what it does to that.
use Rattle.std.specs.Prelude.{◌≡◌, ℕ, List, [], Option, None, Some, Result, Ok, Err, ⊤}
use Rattle.outer_io.specs.Causes.{next_count}
use Rattle.outer_io.specs.Links.{LinkTold}
use Rattle.outer_gates.specs.Gates.{GateTold}
use Rattle.outer_gates.specs.declared.listener_gate.GateStop.{GateStop}
use Rattle.outer_gates.specs.declared.listener_gate.GateStop.TheVariants as stop
use Rattle.outer_ports.specs.declared.listening.Listening.{Listening}
use Rattle.outer_ports.specs.declared.listening.Listening.TheVariants.{Gate, Failed, Memory}

-- A gate that was not called yet: no link was finished, where it tells them, and no call failed.
pub record IsNewGate (gate : GateTold) : Type 0 where
  pub finished : (links : List LinkTold) → gate.finished ≡ Some links → links ≡ []
  pub faults : gate.faults ≡ 0

-- A gate comes only where one can be had. It tells what was told of it, and was not called yet.
abbrev pub GivesGate : {G : Type 0} → (G → GateTold) → Option GateTold → Listening G → Type 0
GivesGate tells None (Gate gate) = ⊥
GivesGate tells (Some told) (Gate gate) = (tells gate ≡ told) × IsNewGate told
GivesGate tells told Failed = ⊤
GivesGate tells told Memory = ⊤

-- What is told of a port stays, unless a gate came.
abbrev pub KeepsPort : {G : Type 0} → (old new : Option GateTold) → Listening G → Type 0
KeepsPort old new (Gate gate) = ⊤
KeepsPort old new Failed = new ≡ old
KeepsPort old new Memory = new ≡ old

-- The count of faults after an answer: one more exactly where the call failed.
abbrev pub faults_after_listening : {G : Type 0} → ℕ → Listening G → ℕ
faults_after_listening before (Gate gate) = before
faults_after_listening before Failed = next_count before
faults_after_listening before Memory = before

-- The answer where a gate was made, or wasn't.
abbrev pub listening_of : {G : Type 0} → Result G GateStop → Listening G
listening_of (Ok gate) = Gate gate
listening_of (Err stop.Failed) = Failed
listening_of (Err stop.Memory) = Memory
