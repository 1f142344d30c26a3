-- What bytes are read as: a program that is accepted, or a refusal.
use Rattle.std.specs.Prelude.{◌≡◌, ℕ, List, length, Option, None, Some, Result, Ok, Err, slice_get, unwrap_or}
use Rattle.task_model.specs.Terms.Text.{Text}
use Rattle.task_model.specs.Terms.Program.{ProgramTerm}
use Rattle.task_model.specs.Running.Checked.{CheckedTerm, SeenChecked, checked_term}
use Rattle.task_model.specs.Checking.TypeFault.{TypeFaultTerm, TypeKindTerm}
use Rattle.task_model.specs.Checking.TaskDemands.{fault_of}
use Rattle.task_model.specs.Checking.Accepted.{IsAccepted}
use Rattle.task_model.specs.Syntax.ProgramText.{IsProgramText}
use Rattle.reader_grammar.specs.Faults.{IsFaultOf}
use Rattle.tophat.specs.declared.refusal.Refusal.{Refusal}
use Rattle.tophat.specs.declared.refusal.Refusal.TheVariants.{Read, Typed}
use Rattle.tophat.specs.declared.no_world.NoWorld.{NoWorld}
use Rattle.tophat.specs.declared.no_world.NoWorld.TheVariants.{Refused, OverBudget, Memory}
use Rattle.tophat.specs.TypeFaultText.{type_fault_text}

pub data Verdict : Type 0 where
  -- a program with the types that it gives
  accepted : CheckedTerm → Verdict
  -- at this byte
  refused : ℕ → Refusal → Verdict

-- the place of the node of a number, or the end of the source behind the last node
abbrev pub node_place : Text → List ℕ → ℕ → ℕ
node_place source places node = unwrap_or (slice_get places node) (length source)

-- The bytes have a program whose first demand on types that isn't met is of this node's place, and this is the text of what is wrong there.
pub record IsTypeRefusal (bytes : Text) (place : ℕ) (text : Text) : Type 0 where
  pub program : ProgramTerm
  pub places : List ℕ
  pub has : IsProgramText bytes program places
  pub fault : TypeFaultTerm
  pub first : fault_of program ≡ Some fault
  pub at : place ≡ node_place bytes places fault.node
  pub told : text ≡ type_fault_text fault.kind

-- The bytes have this program, which is accepted with these types; or they have no program, and this is their first fault; or their program
-- isn't accepted, and this is the first fault of its types.
abbrev pub IsVerdict : Text → Verdict → Type 0
IsVerdict bytes (accepted c) = (places : List ℕ) × IsProgramText bytes c.program places × IsAccepted c
IsVerdict bytes (refused place (Read kind)) = IsFaultOf bytes kind place
IsVerdict bytes (refused place (Typed text)) = IsTypeRefusal bytes place text

-- it is the verdict on the bytes, and there is no other
pub record IsOnlyVerdict (bytes : Text) (verdict : Verdict) : Type 0 where
  pub is : IsVerdict bytes verdict
  pub only : (other : Verdict) → IsVerdict bytes other → other ≡ verdict

-- the accepted program of the bytes, or why there is none, or want of memory
abbrev pub Judges : Text → Result SeenChecked NoWorld → Type 0
Judges bytes (Ok c) = IsOnlyVerdict bytes (accepted (checked_term c))
Judges bytes (Err (Refused place refusal)) = IsOnlyVerdict bytes (refused place refusal)
Judges bytes (Err OverBudget) = ⊥
Judges bytes (Err Memory) = Unit {0}

-- the refusal for a kind of fault at this byte, or want of memory
abbrev pub Refuses : ℕ → TypeKindTerm → NoWorld → Type 0
Refuses place kind (Refused at (Typed text)) = (at ≡ place) × (text ≡ type_fault_text kind)
Refuses place kind Memory = Unit {0}
Refuses place kind why = ⊥

-- a verdict on the bytes, if there are any
abbrev pub IsVerdictOf : Option Text → Verdict → Type 0
IsVerdictOf None verdict = Unit {0}
IsVerdictOf (Some bytes) verdict = IsVerdict bytes verdict

-- there is a verdict on the bytes
abbrev pub HasVerdict : Option Text → Type 0
HasVerdict file = (verdict : Verdict) × IsVerdictOf file verdict
