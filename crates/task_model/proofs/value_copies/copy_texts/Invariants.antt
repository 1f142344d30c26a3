use Rattle.std.proofs.Common.{◌≡◌, take}
use Rattle.task_model.proofs.value_copies.copy_texts.Given as goal

abbrev pub invariant-loop-text : goal.invariant-loop-text
invariant-loop-text l = l.copies.list ≡ take l.text-index l.texts
