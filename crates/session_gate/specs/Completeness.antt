-- Bytes that a connection answers to their end (docs/RULES.md, "Connections").
use Rattle.std.specs.Prelude.{◌≡◌, List, ◌++◌, false, ⊤}
use Rattle.std.specs.List.{All}
use Rattle.outer_io.specs.Causes.{Rose}
use Rattle.outer_io.specs.Links.{LinkTold}
use Rattle.task_model.specs.Terms.Text.{Text}
use Rattle.http_requests.specs.Requests.{RequestTerm}
use Rattle.http_requests.specs.Streams.{IsIdle, ends_asked}
use Rattle.session_gate.specs.Connections.{HoldsRequests}
use Rattle.session_gate.specs.declared.ending.Ending.{Ending}
use Rattle.session_gate.specs.declared.ending.Ending.TheVariants as ending

-- The bytes are requests, none of which is refused with a closing status, and then blank lines alone.
pub record AreAnswerable (bytes : Text) : Type 0 where
  pub asked : Text
  pub blank : Text
  pub requests : List RequestTerm
  pub split : bytes ≡ asked ++ blank
  pub holds : HoldsRequests asked requests
  pub idle : IsIdle blank
  pub stay : All (λ r. ends_asked r.asked ≡ false) requests

-- No call of a link failed.
abbrev pub HasNoFault : (before after : LinkTold) → Type 0
HasNoFault before after = (Rose before.read_faults after.read_faults → ⊥) × (Rose before.write_faults after.write_faults → ⊥)

-- The end isn't a fault, a request that is cut off, or one that is refused with a closing status.
abbrev pub IsWholeEnd : Ending → Type 0
IsWholeEnd ending.Ended = ⊤
IsWholeEnd ending.Parted = ⊤
IsWholeEnd ending.Spent = ⊤
IsWholeEnd ending.Memory = ⊤
IsWholeEnd end = ⊥
