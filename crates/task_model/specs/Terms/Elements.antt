-- The elements of a list, which are a row's items from a place on (docs/LAYERS.md, "task_model").
use Rattle.std.specs.Prelude.{List, drop}
use Rattle.task_model.specs.declared.elements.Elements.{Elements}

abbrev pub elements_in : {A : Type 0} → Elements A → List A
elements_in e = drop e.from e.block.value.list
