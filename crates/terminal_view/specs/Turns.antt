-- Paths that are printed, read again (docs/FORMATS.md, "Pages").
use Rattle.std.specs.Prelude.{ℕ, List, [], ◌∷◌, map, nat_eq, if◌then◌else◌}
use Rattle.task_model.specs.Terms.Text.{Text}
use Rattle.task_model.specs.declared.input.Turn.{Turn}
use Rattle.task_model.specs.declared.input.Turn.TheVariants as turns

-- the turn of a letter: `F` is a turn into a first part
abbrev pub letter_turn : ℕ → Turn
letter_turn letter = if nat_eq letter 70 then turns.First else turns.Second

-- the turns of a path's text
abbrev pub turns_of : Text → List Turn
turns_of [] = []
turns_of (dot ∷ letters) = map letter_turn letters
