-- What the types of the code stand for.
use Rattle.std.specs.Prelude.{List, [], ◌∷◌, ◌++◌, map}
use Rattle.task_model.specs.Terms.Program.{ParamTerm, kind_term, def_term}
use Rattle.task_model.specs.Checking.Names.{Numbered, CallsTerm}
use Rattle.host_types.specs.declared.names.Names as names
use Rattle.host_types.specs.declared.definitions.Found.{Found}
use Rattle.host_types.specs.declared.calls.Calls.{Calls}

-- the names in scope, outermost first
abbrev pub scope_term : names.Names → List ParamTerm
scope_term names.Empty = []
scope_term (names.Named' p outer x k) = scope_term outer ++ record { name = x.now; kind = kind_term k.now } ∷ []

abbrev pub found_term : Found → Numbered
found_term d = record { index = d.index; def = def_term d.def.now }

abbrev pub calls_term : Calls → CallsTerm
calls_term k = record { defs = map def_term k.definitions.now.defs.now; below = k.below }
