-- Histories as plain terms (docs/RULES.md, "Histories").
use Rattle.std.specs.Prelude.{ℕ, List, map}
use Rattle.std.specs.Arc.{arc_value}
use Rattle.task_model.specs.Terms.Program.{ProgramTerm, program_term}
use Rattle.task_model.specs.Terms.Input.{EntryTerm, entry_term}
use Rattle.task_model.specs.declared.item.Item.{Item}
use Rattle.task_model.specs.declared.item.Item.TheVariants as items

-- a program was opened with a budget, or an input was taken
pub data ItemTerm : Type 0 where
  opened : ProgramTerm → ℕ → ItemTerm
  took : EntryTerm → ItemTerm

-- an item of a history as a plain term
abbrev pub item_term : Item → ItemTerm
item_term (items.Opened p budget) = opened (program_term (arc_value p)) budget
item_term (items.Took e) = took (entry_term e)

-- a history as plain terms
abbrev pub history_term : List Item → List ItemTerm
history_term = map item_term
