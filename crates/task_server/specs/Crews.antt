-- Workers, and what they keep (docs/RULES.md, "Serving").
use Rattle.std.specs.Prelude.{◌≡◌, ℕ, ◌+◌, ◌<◌, List, [], ◌∷◌, ◌++◌, map, length, ⊤}
use Rattle.session_desk.specs.Desks.{DeskTerm}
use Rattle.world_lock.specs.Closings.{HasSessionOf, own_total}
use Rattle.world_lock.specs.Sessions.{SeenSession, session_term}

-- What contracts see of a worker: its sessions, and how often it was told that nothing more comes.
pub record CrewTerm : Type 0 where
  pub sessions : List SeenSession
  pub told : ℕ

abbrev pub crew_term : List SeenSession → ℕ → CrewTerm
crew_term sessions told = record { sessions = sessions; told = told }

-- Sessions as the desks that they are.
abbrev pub desks : List SeenSession → List DeskTerm
desks = map session_term

-- The number of all own entries of sessions.
abbrev pub owned : List SeenSession → ℕ
owned sessions = own_total (desks sessions)

-- One part of each ledger. No link is out, and the inputs are the own entries of the sessions.
pub record HasOnePart (out_parts out_amount gained_parts gained_amount told_parts told_amount : ℕ) (own told : ℕ) : Type 0 where
  pub out : (out_parts ≡ 1) × (out_amount ≡ 0)
  pub gained : (gained_parts ≡ 1) × (gained_amount ≡ own)
  pub told_is : (told_parts ≡ 1) × (told_amount ≡ told)

-- A seat of the first sessions is one of the others.
abbrev pub KeepSeats : (old new : List SeenSession) → Type 0
KeepSeats old new = (seat : ℕ) → HasSessionOf (desks old) seat → HasSessionOf (desks new) seat

-- A worker has worked to the end: its seats are as before, and it was told once that nothing more comes.
pub record HasWorked (old new : CrewTerm) : Type 0 where
  pub seats : KeepSeats old.sessions new.sessions
  pub told : new.told ≡ old.told + 1

-- Each worker has worked to the end.
abbrev pub HaveWorked : (old new : List CrewTerm) → Type 0
HaveWorked [] [] = ⊤
HaveWorked [] (crew ∷ crews) = ⊥
HaveWorked (crew ∷ crews) [] = ⊥
HaveWorked (crew ∷ crews) (worked ∷ others) = HasWorked crew worked × HaveWorked crews others

-- The sessions of all workers.
abbrev pub all_sessions : List CrewTerm → List SeenSession
all_sessions [] = []
all_sessions (crew ∷ crews) = crew.sessions ++ all_sessions crews

-- How often they were told that nothing more comes.
abbrev pub all_told : List CrewTerm → ℕ
all_told [] = 0
all_told (crew ∷ crews) = crew.told + all_told crews

-- These sessions have the seats of others, and as many own entries.
pub record HaveAll (old new : List SeenSession) : Type 0 where
  pub seats : KeepSeats old new
  pub own : owned new ≡ owned old
