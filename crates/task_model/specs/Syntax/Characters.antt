-- The characters of a text, each as its bytes (docs/RULES.md, "Expressions").
use Rattle.std.specs.Prelude.{ℕ, ◌-◌, nat_le, nat_lt, Bool, false, List, [], ◌∷◌, ◌++◌, length, if◌then◌else◌}
use Rattle.task_model.specs.Terms.Text.{Text}

-- a byte that goes on with a character of UTF-8
abbrev pub continues : ℕ → Bool
continues byte = if nat_le 128 byte then nat_lt byte 192 else false

-- a byte in front of the first character
abbrev pub joined : ℕ → List Text → List Text
joined byte [] = (byte ∷ []) ∷ []
joined byte (character ∷ characters) = (byte ∷ character) ∷ characters

-- a text cut into its characters: one begins at each byte that doesn't go on with another
abbrev pub characters_of : Text → List Text
characters_of [] = []
characters_of (byte ∷ []) = (byte ∷ []) ∷ []
characters_of (byte ∷ next ∷ bytes) =
    if continues next then joined byte (characters_of (next ∷ bytes)) else (byte ∷ []) ∷ characters_of (next ∷ bytes)

-- the first characters that have together at most so many bytes
abbrev pub fitting : ℕ → List Text → Text
fitting room [] = []
fitting room (character ∷ characters) =
    if nat_le (length character) room then character ++ fitting (room - length character) characters else []

-- the longest prefix of whole characters that has at most 65,536 bytes
abbrev pub cut_text : Text → Text
cut_text t = fitting 65536 (characters_of t)
