-- Which entries of its lines a world has taken (docs/RULES.md, "Several worlds").
use Rattle.std.specs.Prelude.{◌≡◌, ◌⊎◌, List, [], ◌∷◌}
use Rattle.task_model.specs.Terms.Input.{EntryTerm}
use Rattle.input_lines.specs.ScriptLines.{LineTerm, nothing, shows, gives}

-- these entries are some of those that the lines give, in order
abbrev pub AreSomeOf : List LineTerm → List EntryTerm → Type 0
AreSomeOf [] entries = entries ≡ []
AreSomeOf (nothing ∷ lines) entries = AreSomeOf lines entries
AreSomeOf (shows seat ∷ lines) entries = AreSomeOf lines entries
AreSomeOf (gives e ∷ lines) entries = AreSomeOf lines entries ⊎ ((more : List EntryTerm) × (entries ≡ e ∷ more) × AreSomeOf lines more)
