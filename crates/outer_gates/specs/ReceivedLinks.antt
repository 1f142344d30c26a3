-- What a link gives that received bytes before it was made.
use Rattle.std.specs.Prelude.{◌≡◌, ℕ, ◌<◌, Bool, true, false, List, [], ◌∷◌, ◌++◌, take, Option, None, Some}
use Rattle.outer_io.specs.StreamLinks.{IsLinkRead, IsLinkWrite}
use Rattle.outer_io.specs.declared.sink.Put.{Put}
use Rattle.outer_io.specs.declared.sink.Put.TheVariants as put
use Rattle.outer_io.specs.declared.source.Got.{Got}
use Rattle.outer_io.specs.declared.source.Got.TheVariants.{Took, End, Failed}
use Rattle.outer_io.specs.declared.stream_link.StreamLink.{StreamLink}

-- Whether a connection was closed.
abbrev pub is_closed : {R : Type 0} → Option (StreamLink R) → Bool
is_closed None = true
is_closed (Some connection) = false

-- A read gave the first of these bytes, at least one, and leaves the others.
abbrev pub GivesFirst : (old new room : List ℕ) → Got → Type 0
GivesFirst old new room (Took count) = (0 < count) × (old ≡ take count room ++ new)
GivesFirst old new room End = ⊥
GivesFirst old new room Failed = ⊥

-- As long as received bytes are left a read gives the next of them, and can't fail.
abbrev pub GivesReceived : (old new room : List ℕ) → Got → Type 0
GivesReceived [] new room answer = new ≡ []
GivesReceived (byte ∷ rest) new room answer = GivesFirst (byte ∷ rest) new room answer

-- What a read answers behind the received bytes: what the connection gives, which stays open; or the end, where it was closed.
abbrev pub IsConnectionRead : {R : Type 0} → (old new : Option (StreamLink R)) → Got → Type 0
IsConnectionRead None new answer = (new ≡ None) × (answer ≡ End)
IsConnectionRead (Some old) None answer = ⊥
IsConnectionRead (Some old) (Some new) answer = IsLinkRead old.is_shut new.had_time new.calls.last new.calls.interruptions answer

-- What a write answers: what the connection takes, which stays open; or a fault, where it was closed.
abbrev pub IsConnectionWrite : {R : Type 0} → (old new : Option (StreamLink R)) → Put → Type 0
IsConnectionWrite None new answer = (new ≡ None) × (answer ≡ put.Failed)
IsConnectionWrite (Some old) None answer = ⊥
IsConnectionWrite (Some old) (Some new) answer = IsLinkWrite old.is_shut new.had_time new.calls.last new.calls.interruptions answer
