-- What is received of a client, up to its first whole request.
use Rattle.std.specs.Prelude.{◌≡◌, ℕ, List, [], ◌++◌, Option, false, ⊤}
use Rattle.std.specs.Io.KnownBytes.{Consumes, IsAtEnd}
use Rattle.http_requests.specs.RequestReading.{IsUnfinished}
use Rattle.http_requests.specs.Streams.{BeginsWithRequest}
use Rattle.outer_gates.specs.declared.arrival.Arrival.{Arrival}
use Rattle.outer_gates.specs.declared.arrival.Arrival.TheVariants.{Part, Whole, Never}
use Rattle.outer_gates.specs.declared.filling.Filling.{Filling}
use Rattle.outer_gates.specs.declared.filling.Filling.TheVariants as filling
use Rattle.outer_gates.specs.declared.standing.Standing.{Standing}
use Rattle.outer_gates.specs.declared.standing.Standing.TheVariants as standing

-- How bytes stand: they begin with no whole request, and more can make one; or with a whole one.
abbrev pub StandsAs : List ℕ → Standing → Type 0
StandsAs bytes standing.Part = IsUnfinished bytes false
StandsAs bytes standing.Whole = BeginsWithRequest bytes
StandsAs bytes standing.Never = ⊤

-- Bytes that are handed out begin with a whole request.
abbrev pub BeginsWhole : Arrival → Type 0
BeginsWhole Part = ⊤
BeginsWhole (Whole bytes) = BeginsWithRequest bytes.list
BeginsWhole Never = ⊤

-- The next bytes of the stream were put behind those that were there.
abbrev pub Grew : (left_old left_new : Option (List ℕ)) → (old new : List ℕ) → Type 0
Grew left_old left_new old new = (more : List ℕ) × (new ≡ old ++ more) × Consumes left_old left_new more

-- What one read came to: the next bytes of the stream were put behind those that were there, or none; at the end none are left.
abbrev pub IsReceived : (left_old left_new : Option (List ℕ)) → (old new : List ℕ) → Filling → Type 0
IsReceived left_old left_new old new filling.More = Grew left_old left_new old new
IsReceived left_old left_new old new filling.Waits = Consumes left_old left_new [] × (new ≡ old)
IsReceived left_old left_new old new filling.Ended = IsAtEnd left_new × Consumes left_old left_new [] × (new ≡ old)
IsReceived left_old left_new old new filling.Failed = ⊤

-- What came of the bytes of a stream: a part of a request, kept behind those that were there; or they begin with a whole request, and
-- are handed out.
abbrev pub HasArrived : (left_old left_new : Option (List ℕ)) → (old new : List ℕ) → Arrival → Type 0
HasArrived left_old left_new old new Part = Grew left_old left_new old new × IsUnfinished new false
HasArrived left_old left_new old new (Whole bytes) = Grew left_old left_new old bytes.list × BeginsWithRequest bytes.list × (new ≡ [])
HasArrived left_old left_new old new Never = ⊤
