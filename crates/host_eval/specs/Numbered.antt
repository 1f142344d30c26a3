-- Definitions by their numbers.
use Rattle.std.specs.Prelude.{◌≡◌, ℕ, List, String}
use Rattle.std.specs.Option.{option_map}
use Rattle.std.specs.HashMap.{HashMap, get_by_text}
use Rattle.task_model.specs.Terms.Text.{Text}
use Rattle.task_model.specs.Terms.Program.{DefTerm, def_term}
use Rattle.task_model.specs.Checking.Names.{Numbered, first_named}
use Rattle.host_eval.specs.declared.definitions.Found.{Found}

abbrev pub numbered_term : Found → Numbered
numbered_term d = record { index = d.number; def = def_term d.def.now }

-- a table tells by each name the number of the first of these definitions that has it
abbrev pub AreNumbers : {Y S : Type 0} → HashMap (String Y) ℕ S → List DefTerm → Type 0
AreNumbers numbers ds = (f : Text) → get_by_text numbers f ≡ option_map (λ d. d.index) (first_named 0 ds f)
