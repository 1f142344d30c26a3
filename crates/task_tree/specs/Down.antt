-- Addresses of the code as plain terms (docs/RULES.md, "Inputs").
use Rattle.std.specs.Prelude.{List, map}
use Rattle.task_model.specs.Running.Address.{DownTerm, into_left, into_first, into_second, Address}
use Rattle.task_tree.specs.declared.down.Down.{Down}
use Rattle.task_tree.specs.declared.down.Down.TheVariants as downs

abbrev pub down_term : Down → DownTerm
down_term downs.Step = into_left
down_term downs.First = into_first
down_term downs.Second = into_second

abbrev pub address_term : List Down → Address
address_term a = map down_term a
