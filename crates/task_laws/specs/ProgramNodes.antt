-- How many nodes definitions have (docs/LANGUAGE.md, "Nodes and places").
use Rattle.std.specs.Prelude.{ℕ, suc, ◌+◌, List, [], ◌∷◌, length}
use Rattle.task_model.specs.Terms.Program.{DefTerm, ProgramTerm}
use Rattle.task_model.specs.Checking.TaskDemands.{definition_nodes}

-- A definition is a node, and so is each of its parameters; then come those of its body, in which the program's bodies stand in place.
abbrev pub definitions_nodes : ProgramTerm → List DefTerm → ℕ
definitions_nodes p [] = 0
definitions_nodes p (d ∷ ds) = suc (length d.params + definition_nodes p d.what) + definitions_nodes p ds
