-- What a reader knows of the bytes that it has read (docs/FORMATS.md, "HTTP").
use Rattle.std.specs.Prelude.{◌≡◌, ℕ, ◌+◌, ◌<◌, ◌≤◌, Bool, ◌++◌, Some, None, length, drop, min, ⊤}
use Rattle.task_model.specs.Terms.Text.{Text}
use Rattle.http_heads.specs.Blocks.{head_limit, head_length}
use Rattle.http_heads.specs.Phases.{HasLookedAt}
use Rattle.http_requests.specs.declared.reader.RequestReader.{RequestReader}
use Rattle.http_requests.specs.declared.found.Found.{Found}
use Rattle.http_requests.specs.declared.found.Found.TheVariants as found
use Rattle.http_requests.specs.declared.progress.Progress.{Progress}
use Rattle.http_requests.specs.declared.progress.Progress.TheVariants as progress
use Rattle.http_requests.specs.Streams.{BeginsWith, BeginsWithRequest}
use Rattle.http_requests.specs.RequestReading.{request_term, IsUnfinished}

-- With fewer bytes than so many, whatever they are, the first request is unfinished.
abbrev pub AreWanted : ℕ → Text → Type 0
AreWanted n bytes = (more : Text) (ended : Bool) → length (bytes ++ more) < n → IsUnfinished (bytes ++ more) ended

-- With so many bytes, whatever follows, the first request is whole.
abbrev pub AreEnough : ℕ → Text → Type 0
AreEnough n bytes = (more : Text) → n ≤ length (bytes ++ more) → BeginsWithRequest (bytes ++ more)

-- The first request has so many bytes: with fewer it is unfinished, and where they are all there it is whole.
pub record HasSize (n : ℕ) (bytes : Text) : Type 0 where
  pub wanted : AreWanted n bytes
  pub enough : AreEnough n bytes

-- A reader that has read these bytes: how far it looked for the end of the head, and how many bytes it wants, which are those of the first
-- request once its head was read.
pub record HasRead (reader : RequestReader) (bytes : Text) : Type 0 where
  pub looked : HasLookedAt reader.scan bytes
  pub wanted : AreWanted reader.wanted bytes
  pub enough : 0 < reader.wanted → AreEnough reader.wanted bytes

-- What stands behind a head: the whole request, or that more bytes of its body are wanted than there are.
abbrev pub IsFound : Text → Found → Type 0
IsFound bytes (found.Request r) = BeginsWith bytes (request_term r) (drop r.length bytes)
IsFound bytes (found.Wanted n) = (length bytes < n) × HasSize n bytes

-- What a reader knows of the size of the first request: where that is whole, its length; and where its head has ended, how many bytes it
-- will have, which aren't there yet.
abbrev pub KnowsSize : (wanted : ℕ) → Text → Progress → Type 0
KnowsSize wanted bytes (progress.Request r) = wanted ≡ r.length
KnowsSize wanted bytes progress.More = (end : ℕ) → head_length bytes ≡ Some end → (length bytes < wanted) × HasSize wanted bytes
KnowsSize wanted bytes progress.Nothing = ⊤

-- How many bytes the request has, where it is whole, and else 0.
abbrev pub length_found : Progress → ℕ
length_found (progress.Request r) = r.length
length_found progress.More = 0
length_found progress.Nothing = 0

-- How often heads were read, and how far the search for an end of one came. As long as fewer bytes are there than are wanted, nothing is
-- looked at. Else the head is read where it has ended; and where it hasn't, all bytes were looked at, so that the search goes on behind
-- them.
pub record HasLookedOn (old new : RequestReader) (bytes : Text) : Type 0 where
  pub waits : length bytes < old.wanted → new ≡ old
  pub searched : old.wanted ≤ length bytes → head_length bytes ≡ None
      → (new.heads ≡ old.heads) × (new.scan.looked ≡ min (length bytes) head_limit)
  pub once : new.heads ≤ old.heads + 1
