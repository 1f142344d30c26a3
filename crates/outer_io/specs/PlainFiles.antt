-- What files in memory hold.
use Rattle.std.specs.Prelude.{ℕ, List, [], ◌∷◌, Option, None, Some, nat_eq, if◌then◌else◌}
use Rattle.std.specs.Cmp.Lexicographic.{pointwise}
use Rattle.task_model.specs.Terms.Rowed.{Rowed}
use Rattle.outer_io.specs.declared.plain_files.PlainFiles.{PlainFiles}

-- what the first of these names that is `name` holds
abbrev pub held : List (List ℕ) → List (Rowed ℕ) → List ℕ → Option (List ℕ)
held [] contents name = None
held (other ∷ names) [] name = None
held (other ∷ names) (bytes ∷ contents) name = if pointwise nat_eq other name then Some bytes.list else held names contents name

-- what files in memory hold under a name
abbrev pub file_of : PlainFiles → List ℕ → Option (List ℕ)
file_of files name = held files.names.list files.contents.list name
