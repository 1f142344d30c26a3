-- Where the nodes of a program's definitions and bodies begin, and the first parts in them.
use Rattle.std.specs.Prelude.{◌≡◌, ℕ, ◌+◌, List, [], ◌∷◌, map}
use Rattle.task_model.specs.Terms.Rowed.{Rowed}
use Rattle.task_model.specs.Terms.Program.{DefTerm, ProgramTerm}
use Rattle.task_model.specs.Running.Checked.{counts_of, what_nodes}
use Rattle.task_model.specs.Checking.Placed.{firsts_of}
use Rattle.task_evaluation.specs.declared.first_part.FirstPart.{FirstPart}
use Rattle.task_evaluation.specs.FirstParts.{parts_in_definitions, parts_in_bodies}

-- how many `edit` and `share` nodes stand before each of these definitions, where so many stand before the first
abbrev pub definition_firsts : ProgramTerm → ℕ → List DefTerm → List ℕ
definition_firsts p n [] = []
definition_firsts p n (d ∷ ds) = n ∷ definition_firsts p (n + what_nodes p d.what) ds

-- the lists of rows
abbrev pub lists : {A : Type 0} → List (Rowed A) → List (List A)
lists = map (λ r. r.list)

-- the tables of a program: how many nodes each body has, how many stand before each definition, and how many before each body; and the
-- first parts in each definition, and in each body
pub record AreTables (p : ProgramTerm) (nodes definitions starts : List ℕ) (definition_rows body_rows : List (List FirstPart)) : Type 0 where
  pub counted : nodes ≡ counts_of p
  pub defined : definitions ≡ definition_firsts p 0 p.defs
  pub started : starts ≡ firsts_of p
  pub in_definitions : definition_rows ≡ parts_in_definitions (counts_of p) p.defs
  pub in_bodies : body_rows ≡ parts_in_bodies (counts_of p) p.bodies
