use denote.Shadow.{shadow}
use denote.Text.{Utf8}
use Rattle.std.proofs.Common.{◌≡◌, true, List, ℕ, ◌++◌, length}
use Rattle.std.specs.List.{list_all}
use Rattle.std.specs.Str.{encode_utf8_all, all_scalars}
use Rattle.task_syntax.specs.Runs.{goes_on}
use Rattle.task_syntax.proofs.run.Run.strip.Given as goal

abbrev pub invariant-loop-character : goal.invariant-loop-character
invariant-loop-character l = record {
  utf8 : shadow (Utf8 l.rest);
  so_far : (cs : List ℕ) × (l.text ≡ encode_utf8_all cs ++ l.rest) × (all_scalars cs ≡ true) × (list_all (goes_on l.self) cs ≡ true);
}

abbrev pub decreases-loop-character : goal.decreases-loop-character
decreases-loop-character l = length l.rest
