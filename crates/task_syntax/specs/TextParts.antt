-- What stands first inside a text.
use Rattle.std.specs.Prelude.{◌≡◌, ℕ, ◌≤◌, List, ◌∷◌, ◌++◌, length, encode_utf8}
use Rattle.task_model.specs.Terms.Text.{Text}
use Rattle.task_model.specs.Terms.Token.{TextPart, PartIs, PartsAre, part_spelling, spelled}
use Rattle.task_syntax.specs.declared.stop.LexKind.{LexKind}
use Rattle.task_syntax.specs.declared.stop.LexKind.TheVariants.{BadChar, OpenText, BadEscape, LongText, WideNumber}
use Rattle.task_syntax.specs.Fault.{IsNotRaw, IsNoEscape}

-- a part that stands for this character, and then the rest
abbrev pub PartStands : Text → ℕ → Text → Type 0
PartStands text c rest = (p : TextPart) × (text ≡ part_spelling p ++ rest) × PartIs p (encode_utf8 c)

-- what keeps a part from standing first
abbrev pub PartFails : Text → LexKind → Type 0
PartFails text BadChar = IsNotRaw text
PartFails text BadEscape = IsNoEscape text
PartFails text OpenText = ⊥
PartFails text LongText = ⊥
PartFails text WideNumber = ⊥

-- parts with this content between quotes, within the limit, and then the rest
abbrev pub TextStands : Text → Text → Text → Type 0
TextStands text content rest = (ps : List TextPart) × (text ≡ 34 ∷ spelled ps ++ 34 ∷ rest) × PartsAre ps content × (length content ≤ 65536)
