use Rattle.std.proofs.Common.{◌≡◌, ◌≤◌, drop, length, map}
use Rattle.std.specs.Option.{option_map}
use Rattle.std.specs.HashMap.{get_by_text}
use Rattle.task_model.specs.Terms.Text.{Text}
use Rattle.task_model.specs.Terms.Program.{def_term}
use Rattle.task_model.specs.Checking.Names.{first_named}
use Rattle.host_eval.proofs.definitions.numbers_of.Given as goal

abbrev pub invariant-loop-left : goal.invariant-loop-left
invariant-loop-left l =
    (l.left ≤ length l.defs)
    × ((f : Text) → get_by_text l.numbers f ≡ option_map (λ d. d.index) (first_named l.left (map def_term (drop l.left l.defs)) f))

abbrev pub decreases-loop-left : goal.decreases-loop-left
decreases-loop-left l = l.left
