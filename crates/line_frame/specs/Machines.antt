-- What becomes of a machine by the lines that it runs.
use Rattle.std.specs.Prelude.{ℕ, ◌≡◌, ◌⊎◌, List, [], ◌∷◌, ◌++◌, Option}
use Rattle.std.specs.Io.KnownBytes.{Appends}
use Rattle.outer_io.specs.Sink.{IsStart}

-- what an answered line makes of a machine: the machine before, the line, the answer and the machine after
abbrev pub Taking : Type 0 → Type 1
Taking M = M → List ℕ → List ℕ → M → Type 0

-- these lines were answered one after the other, with this text in all, and led from one machine to the other
abbrev pub LeadsOver : {M : Type 0} → Taking M → M → List (List ℕ) → List ℕ → M → Type 0
LeadsOver takes old [] text new = (text ≡ []) × (new ≡ old)
LeadsOver {M} takes old (line ∷ lines) text new =
    (mid : M) × (first : List ℕ) × (rest : List ℕ) × takes old line first mid × (text ≡ first ++ rest) × LeadsOver takes mid lines rest new

-- The machine of a run: lines were answered, and then the run ended, at a line that has no answer or elsewhere. What was written in the run
-- begins the answers.
pub record RanMachine {M : Type 0} (takes : Taking M) (stops : M → M → Type 0) (old new : M) (taken_old taken_new : Option (List ℕ)) : Type 0 where
  pub lines : List (List ℕ)
  pub text : List ℕ
  pub last : M
  pub leads : LeadsOver takes old lines text last
  pub ends : (new ≡ last) ⊎ stops last new
  pub written : List ℕ
  pub took : Appends taken_old taken_new written
  pub begins : IsStart written text

-- The machine within a run: lines were answered, and of the answers that were due before and those to these lines a first part was written, and
-- the rest is due.
pub record GoesOver {M : Type 0} (takes : Taking M) (old new : M) (taken_old taken_new : Option (List ℕ)) (due_old due_new : List ℕ) : Type 0 where
  pub lines : List (List ℕ)
  pub text : List ℕ
  pub leads : LeadsOver takes old lines text new
  pub shown : List ℕ
  pub took : Appends taken_old taken_new shown
  pub left : shown ++ due_new ≡ due_old ++ text

-- The machine of the rest of a run, before which these answers were due.
pub record StopsOver {M : Type 0} (takes : Taking M) (stops : M → M → Type 0) (old new : M) (taken_old taken_new : Option (List ℕ)) (due : List ℕ)
    : Type 0 where
  pub lines : List (List ℕ)
  pub text : List ℕ
  pub last : M
  pub leads : LeadsOver takes old lines text last
  pub ends : (new ≡ last) ⊎ stops last new
  pub written : List ℕ
  pub took : Appends taken_old taken_new written
  pub begins : IsStart written (due ++ text)
