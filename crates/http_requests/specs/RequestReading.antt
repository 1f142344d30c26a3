-- What is read of the bytes of a connection (docs/FORMATS.md, "HTTP").
use Rattle.std.specs.Prelude.{◌≡◌, ◌<◌, Bool, true, length, drop}
use Rattle.task_model.specs.Terms.Text.{Text}
use Rattle.task_model.specs.Terms.Input.{input_term}
use Rattle.http_requests.specs.declared.asked.Asked.{Asked}
use Rattle.http_requests.specs.declared.asked.Asked.TheVariants.{Page, Act, Refused}
use Rattle.http_requests.specs.declared.request.Request.{Request}
use Rattle.http_requests.specs.declared.progress.Progress.{Progress}
use Rattle.http_requests.specs.declared.progress.Progress.TheVariants as progress
use Rattle.http_requests.specs.Requests.{AskedTerm, asks_page, asks_act, refused, RequestTerm}
use Rattle.http_requests.specs.Streams.{BeginsWith, HasNoRequest, BeginsSome, IsIdle}

-- What a request asks for, as a plain term.
abbrev pub asked_term : Asked → AskedTerm
asked_term (Page face at_least head_only) = asks_page face at_least head_only
asked_term (Act input) = asks_act (input_term input)
asked_term (Refused status text ends head_only) = refused status text ends head_only

-- A request as a plain term.
abbrev pub request_term : Request → RequestTerm
request_term r = record { asked = asked_term r.asked; closes = r.closes; length = r.length }

-- The bytes begin with no whole request, but with more bytes behind them they do; and they aren't both blank and ended.
pub record IsUnfinished (bytes : Text) (ended : Bool) : Type 0 where
  pub no_whole : HasNoRequest bytes
  pub some : BeginsSome bytes
  pub awaited : ended ≡ true → IsIdle bytes → ⊥
  pub short : length bytes < 73728

-- How far bytes are, which may have ended: the first request stands there whole, or is unfinished, or there is none.
abbrev pub IsProgress : Text → Bool → Progress → Type 0
IsProgress bytes ended (progress.Request r) = BeginsWith bytes (request_term r) (drop r.length bytes)
IsProgress bytes ended progress.More = IsUnfinished bytes ended
IsProgress bytes ended progress.Nothing = (ended ≡ true) × IsIdle bytes
