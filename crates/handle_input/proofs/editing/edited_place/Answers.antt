use Rattle.std.proofs.Common.{map, refl, ap, ◌∙◌}
use Rattle.std.proofs.lemmas.List.{map-set}
use Rattle.task_model.specs.Terms.Value.{value_term}
use Rattle.handle_input.proofs.editing.edited_place.Goals as goal

pub returns-clause-written : goal.returns-clause-written
returns-clause-written c =
    let list = ap (map value_term) c.in_ok-set.ensures.ok ∙ map-set value_term c.args.store.now.list _ _ in
    rw (← c.in-Some.ensures.put, c.in_ok-b.ensures, list, c.in_ok-copy_value.ensures.copy) refl
