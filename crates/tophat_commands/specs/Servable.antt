-- What a serving comes to where its file has a program that opens, and no call fails.
use Rattle.std.specs.Prelude.{◌≡◌, ◌⊎◌, ℕ, ◌≤◌, length, Option, Some}
use Rattle.outer_io.specs.Causes.{Rose}
use Rattle.outer_gates.specs.Gates.{GateTold}
use Rattle.task_model.specs.Terms.Text.{Text}
use Rattle.task_model.specs.Terms.Tree.{State}
use Rattle.task_model.specs.Running.Checked.{CheckedTerm}
use Rattle.task_model.specs.Running.State.{IsOpening}
use Rattle.tophat.specs.Ended.{HasRisen}
use Rattle.tophat.specs.Objects.{Around, Objects}
use Rattle.tophat.specs.Verdict.{IsVerdict, accepted}

-- The file is known to hold a program within the limit, which is accepted, and whose opening has this state within the budget.
pub record IsServable (limit budget : ℕ) (holds : Option (Option Text)) (c : CheckedTerm) (s : State) : Type 0 where
  pub bytes : Text
  pub file : holds ≡ Some (Some bytes)
  pub within : length bytes ≤ limit
  pub program : IsVerdict bytes (accepted c)
  pub opens : IsOpening c budget s

-- The count of the gate that was had has risen, against what its port told of it.
abbrev pub HasGateRisen : (entry now : Option GateTold) → Type 0
HasGateRisen (Some entry) (Some now) = Rose entry.faults now.faults
HasGateRisen entry now = ⊥

-- A call failed: of the files, of the output, of the ports, or of the gate at this port.
abbrev pub HasFailed : Objects → Around (ℕ → Option GateTold) → ℕ → Option GateTold → Type 0
HasFailed o ports port gate =
    HasRisen o.files.faults ⊎ (HasRisen o.out.faults ⊎ (HasRisen ports.faults ⊎ HasGateRisen (ports.before port) gate))
