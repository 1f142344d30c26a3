-- Environments that are borrowed, as plain terms.
use Rattle.std.specs.Prelude.{◌≡◌, List, [], ◌∷◌, ◌++◌, map, length}
use Rattle.task_model.specs.Terms.Text.{Text}
use Rattle.task_model.specs.Terms.Env.{SlotTerm, slot_term, EnvTerm}
use Rattle.task_model.specs.Terms.Scope.{scope_names}
use Rattle.host_eval.specs.declared.names.Links as links
use Rattle.host_eval.specs.declared.names.Names.{Names}

-- the names, outermost first
abbrev pub names_in : links.Links → List Text
names_in (links.Parameters params slots) = map (λ q. q.name) params.now
names_in (links.Scope scope slots) = scope_names scope.now
names_in (links.Bound' p outer name slot) = names_in outer ++ name.now ∷ []

-- their slots
abbrev pub slots_in : links.Links → List SlotTerm
slots_in (links.Parameters params slots) = map slot_term slots.now
slots_in (links.Scope scope slots) = map slot_term slots.now
slots_in (links.Bound' p outer name slot) = slots_in outer ++ slot_term slot.now ∷ []

abbrev pub names_term : Names → EnvTerm
names_term e = record { names = names_in e.links; slots = slots_in e.links; first = e.first }

-- there are as many slots as names
abbrev pub IsPaired : EnvTerm → Type 0
IsPaired env = length env.names ≡ length env.slots
