use Rattle.std.specs.Prelude.{string_bytes}
use Rattle.std.proofs.Common.{◌≡◌, ◌++◌, drop}
use Rattle.task_model.specs.Showing.Page.{path_text, turns_text}
use Rattle.terminal_view.proofs.writing.push_path.Given as goal

abbrev pub invariant-loop-turn : goal.invariant-loop-turn
invariant-loop-turn l =
    string_bytes l.text ++ turns_text (drop l.turn-index l.path) ≡ string_bytes l.fn.text ++ path_text l.path
