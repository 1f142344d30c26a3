-- Which programs are accepted (docs/RULES.md, "Programs").
use Rattle.std.specs.Prelude.{◌≡◌, None}
use Rattle.task_model.specs.Terms.Program.{ProgramTerm}
use Rattle.task_model.specs.Running.Checked.{CheckedTerm}
use Rattle.task_model.specs.Checking.TaskDemands.{fault_of, types_of}
use Rattle.task_model.specs.Syntax.Written.{IsWritten}

-- An accepted program with the types of its `edit` and `share` nodes: it is written, and all that is demanded of it is met.
pub record IsAccepted (c : CheckedTerm) : Type 0 where
  pub written : IsWritten c.program
  pub met : fault_of c.program ≡ None
  pub types : c.types ≡ types_of c.program

-- a program with the types that it gives its `edit` and `share` nodes
abbrev pub typed_program : ProgramTerm → CheckedTerm
typed_program p = record { program = p; types = types_of p }
