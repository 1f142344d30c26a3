-- From the answer of a reader to what is said of whole lines.
use Rattle.std.proofs.Common.{◌≡◌, ℕ, ◌+◌, ◌≤◌, Ok, Err, [], length, refl, sym}
use Rattle.exact_reading.specs.declared.stop.FaultKind.{FaultKind}
use Rattle.exact_reading.specs.declared.stop.ParseStop.TheVariants.{Fault}
use Rattle.exact_reading.specs.Reading.{Always, Right}
use Rattle.exact_reading.proofs.Whole.{whole_only, refused, always_unexpected, no_word}
use Rattle.task_model.specs.Terms.Text.{Text}
use Rattle.line_frame.specs.declared.machine.LineStop.TheVariants.{Bad}
use Rattle.input_lines.specs.LineReading.{AtEnd}
use Rattle.hub_lines.specs.HubLines.{HubTerm, IsHubLine, IsHubLineWithin}
use Rattle.hub_lines.specs.HubPlaces.{IsBadHubLine, IsBadHubColumn}

-- a line within the limit is what was read
pub hub_only : {worlds longest : ℕ} {t : Text} {m : HubTerm} → Right (IsHubLineWithin worlds longest) Always AtEnd t (Ok (m, []))
    → (h : HubTerm) → IsHubLine worlds t h → length t ≤ longest → m ≡ h
hub_only right h is le = sym (whole_only {y = h} refl right (is, le)).1

fault_at : {worlds longest : ℕ} {t : Text} {kind : FaultKind} {left place : ℕ}
    → Right (IsHubLineWithin worlds longest) Always AtEnd t (Err (Fault kind left)) → place + left ≡ length t → IsBadHubLine worlds longest t place
fault_at right sum = always_unexpected (refused refl right sum)

pub hub_no_line : {worlds longest : ℕ} {t : Text} {kind : FaultKind} {left : ℕ} (place : ℕ)
    → Right (IsHubLineWithin worlds longest) Always AtEnd t (Err (Fault kind left)) → place + left ≡ length t
    → (h : HubTerm) → IsHubLine worlds t h → length t ≤ longest → ⊥
hub_no_line place right sum h is le = no_word (fault_at right sum) (is, le) tt

pub hub_fault : {worlds longest : ℕ} {t : Text} {kind : FaultKind} {left : ℕ} (place : ℕ)
    → Right (IsHubLineWithin worlds longest) Always AtEnd t (Err (Fault kind left)) → place + left ≡ length t
    → IsBadHubColumn worlds longest t (Bad (place + 1))
hub_fault place right sum = (place, fault_at right sum, refl)
