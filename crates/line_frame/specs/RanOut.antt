-- Where memory ran out in the run of a script.
use Rattle.std.specs.Prelude.{ℕ, ◌≡◌, ◌≢◌, ◌≤◌, List, [], ◌∷◌, ◌++◌, length, take}
use Rattle.line_frame.specs.Told.{Told}
use Rattle.line_frame.specs.declared.finish.Finish.{Finish}
use Rattle.line_frame.specs.declared.finish.Finish.TheVariants.{Memory}

-- no byte of it is an LF
abbrev pub IsLine : List ℕ → Type 0
IsLine [] = Unit {0}
IsLine (byte ∷ bytes) = (byte ≢ 10) × IsLine bytes

-- none of these lines has an LF
abbrev pub AreLines : List (List ℕ) → Type 0
AreLines [] = Unit {0}
AreLines (line ∷ lines) = IsLine line × AreLines lines

-- each line with its LF
abbrev pub framed : List (List ℕ) → List ℕ
framed [] = []
framed (line ∷ lines) = line ++ 10 ∷ framed lines

-- nothing, or an LF and what stands behind it
abbrev pub IsBehindLine : List ℕ → Type 0
IsBehindLine [] = Unit {0}
IsBehindLine (byte ∷ bytes) = byte ≡ 10

-- all that is told of these lines, where want of memory ends them, is this text
abbrev pub AreAnswered : (List (List ℕ) → Finish → Told → Type 0) → List ℕ → List (List ℕ) → Type 0
AreAnswered tells written lines = (told : Told) → tells lines Memory told → told ≡ record { output = written; finish = Memory }

-- Lines were answered, and memory ran out at the next. As far as that was read, with its LF, it is within the limit.
pub record RanOut (AreDone : List (List ℕ) → Type 0) (limit : ℕ) (read : List ℕ) : Type 0 where
  pub lines : List (List ℕ)
  pub line : List ℕ
  pub behind : List ℕ
  pub stream : read ≡ framed lines ++ (line ++ behind)
  pub each : AreLines lines
  pub no_lf : IsLine line
  pub as_read : IsBehindLine behind
  pub within : length (framed lines ++ (line ++ take 1 behind)) ≤ limit
  pub done : AreDone lines
