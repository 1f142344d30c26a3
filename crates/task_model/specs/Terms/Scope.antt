-- The names in scope at a place of a program (docs/RULES.md, "Programs").
use Rattle.std.specs.Prelude.{List, [], ◌∷◌, ◌++◌}
use Rattle.task_model.specs.Terms.Text.{Text}
use Rattle.task_model.specs.declared.scope.Scope as scope

-- all names in scope, outermost first and hidden ones included
abbrev pub scope_names : scope.Scope → List Text
scope_names (scope.Parameters names) = names.value.list
scope_names (scope.Inner' p outer name) = scope_names outer ++ name ∷ []
