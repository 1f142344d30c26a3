use Rattle.std.proofs.Common.{◌≡◌, false, map, take}
use Rattle.std.specs.List.{list_any}
use Rattle.task_model.specs.Terms.Text.{same_text}
use Rattle.task_model.specs.Syntax.Spelling.{keyword_spelling}
use Rattle.task_syntax.proofs.keyword.first_of.Given as goal

abbrev pub invariant-loop-keyword : goal.invariant-loop-keyword
invariant-loop-keyword l = list_any (same_text l.word) (map keyword_spelling (take l.keyword-index l.keywords)) ≡ false
