-- What bytes of a line, none of them its LF, do to what is kept of a script.
use Rattle.std.specs.Prelude.{ℕ, ◌≡◌, ◌+◌, ◌-◌, List, ◌++◌, length, take}
use Rattle.line_frame.specs.declared.cursor.Cursor.{Cursor}

-- They were counted, and kept up to one byte more than the longest line has. No answer became due.
pub record TakesRun (longest : ℕ) (from to : Cursor) (run : List ℕ) : Type 0 where
  pub counted : to.count ≡ from.count + length run
  pub numbered : to.number ≡ from.number
  pub due : to.due.text.list ≡ from.due.text.list
  pub kept : to.kept.list ≡ from.kept.list ++ take (longest + 1 - length from.kept.list) run
