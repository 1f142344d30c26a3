-- The requests that the bytes of a connection begin with (docs/FORMATS.md, "HTTP").
use Rattle.std.specs.Prelude.{◌≡◌, ℕ, zero, suc, ◌<◌, ◌||◌, Bool, true, false, List, [], ◌∷◌, ◌++◌, length}
use Rattle.task_model.specs.Terms.Text.{Text}
use Rattle.http_heads.specs.declared.check.Check.{Check}
use Rattle.http_heads.specs.Blocks.{head_limit, without_blanks}
use Rattle.http_heads.specs.Checks.{check_status, ends_at}
use Rattle.http_requests.specs.Requests.{AskedTerm, asks_page, asks_act, refused, RequestTerm, IsRequest}

-- ---- the front of bytes
-- The bytes are a request, and then the rest.
pub record BeginsWith (bytes : Text) (r : RequestTerm) (rest : Text) : Type 0 where
  pub front : Text
  pub split : bytes ≡ front ++ rest
  pub is : IsRequest front r

-- The bytes begin with a whole request.
abbrev pub BeginsWithRequest : Text → Type 0
BeginsWithRequest bytes = (r : RequestTerm) × (rest : Text) × BeginsWith bytes r rest

-- The bytes begin with no whole request.
abbrev pub HasNoRequest : Text → Type 0
HasNoRequest bytes = (r : RequestTerm) (rest : Text) → BeginsWith bytes r rest → ⊥

-- The bytes are a prefix of some request.
abbrev pub BeginsSome : Text → Type 0
BeginsSome bytes = (more : Text) × (r : RequestTerm) × IsRequest (bytes ++ more) r

-- The bytes are blank lines alone, fewer than 8,192 bytes.
abbrev pub IsIdle : Text → Type 0
IsIdle bytes = (length bytes < head_limit) × (without_blanks bytes ≡ [])

-- What is refused has the status of a check, and ends the connection where the check does.
abbrev pub IsOfCheck : AskedTerm → Type 0
IsOfCheck (asks_page face version head_only) = Unit {0}
IsOfCheck (asks_act i) = Unit {0}
IsOfCheck (refused status text ends head_only) = (check : Check) × (status ≡ check_status check) × (ends ≡ ends_at check)

-- ---- the requests of a connection
-- No request follows: this one asks for the end of the connection, or is refused by one of the checks 1 to 6.
abbrev pub ends_asked : AskedTerm → Bool
ends_asked (asks_page face version head_only) = false
ends_asked (asks_act i) = false
ends_asked (refused status text ends head_only) = ends

abbrev pub is_last : RequestTerm → Bool
is_last r = r.closes || ends_asked r.asked

-- At most so many requests that the bytes begin with, up to the last one, and the rest.
pub data AreRequests : ℕ → Text → List RequestTerm → Text → Type 0 where
  no_more : (bytes : Text) → AreRequests zero bytes [] bytes
  no_whole : (n : ℕ) (bytes : Text) → HasNoRequest bytes → AreRequests (suc n) bytes [] bytes
  last : (n : ℕ) (bytes : Text) (r : RequestTerm) (rest : Text) → BeginsWith bytes r rest → is_last r ≡ true
      → AreRequests (suc n) bytes (r ∷ []) rest
  further : (n : ℕ) (bytes : Text) (r : RequestTerm) (behind : Text) (rs : List RequestTerm) (rest : Text)
      → BeginsWith bytes r behind → is_last r ≡ false → AreRequests n behind rs rest → AreRequests (suc n) bytes (r ∷ rs) rest

-- The requests that are read of a connection's bytes, at most 100, and the rest.
abbrev pub Requests : Text → List RequestTerm → Text → Type 0
Requests = AreRequests 100
