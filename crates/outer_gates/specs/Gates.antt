-- What a gate tells, and what its calls do to that.
use Rattle.std.specs.Prelude.{◌≡◌, ℕ, List, [], ◌∷◌, ◌++◌, Option, None, Some, ⊤}
use Rattle.outer_io.specs.Causes.{next_count}
use Rattle.outer_io.specs.Links.{LinkTold, IsFresh}
use Rattle.outer_gates.specs.declared.accept.Accept.{Accept}
use Rattle.outer_gates.specs.declared.accept.Accept.TheVariants.{Link, Closed, Failed}

-- All that a gate tells: the links that are left, those that were finished, in order, and how many calls have failed.
pub record GateTold : Type 0 where
  pub left : Option (List LinkTold)
  pub finished : Option (List LinkTold)
  pub faults : ℕ

-- The first of the links that were left was handed out, where the gate told them; then it tells them on.
abbrev pub HandsOut : (old new : Option (List LinkTold)) → LinkTold → Type 0
HandsOut None new link = ⊤
HandsOut (Some all) None link = ⊥
HandsOut (Some all) (Some rest) link = all ≡ link ∷ rest

-- No link is left, where the gate tells them.
abbrev pub IsNoneLeft : Option (List LinkTold) → Type 0
IsNoneLeft None = ⊤
IsNoneLeft (Some links) = links ≡ []

-- A link was handed out with which nothing was done; or none was left; or the call failed. But for that link the links that are left stay.
abbrev pub Accepts : {L : Type 0} → (L → LinkTold) → (old new : GateTold) → Accept L → Type 0
Accepts tells old new (Link link) = HandsOut old.left new.left (tells link) × IsFresh (tells link)
Accepts tells old new Closed = IsNoneLeft old.left × (new.left ≡ old.left)
Accepts tells old new Failed = new.left ≡ old.left

-- The count of faults after an answer: one more exactly where the call failed.
abbrev pub faults_after_accept : {L : Type 0} → ℕ → Accept L → ℕ
faults_after_accept before (Link link) = before
faults_after_accept before Closed = before
faults_after_accept before Failed = next_count before

-- Where the gate tells its finished links now, it told them before, and they grew by this one.
abbrev pub Finishes : (old new : Option (List LinkTold)) → LinkTold → Type 0
Finishes old None link = ⊤
Finishes None (Some new) link = ⊥
Finishes (Some old) (Some new) link = new ≡ old ++ link ∷ []

-- What a gate over a socket tells: its count alone.
abbrev pub told_by_listener : ℕ → GateTold
told_by_listener faults = record { left = None; finished = None; faults = faults }

-- What holds of a link that was handed out.
abbrev pub IfLink : {L : Type 0} → Accept L → (L → Type 0) → Type 0
IfLink (Link link) holds = holds link
IfLink Closed holds = ⊤
IfLink Failed holds = ⊤
