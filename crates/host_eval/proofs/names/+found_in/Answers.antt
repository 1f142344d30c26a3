use Rattle.std.proofs.Common.{sym, ◌∙◌}
use Rattle.host_eval.proofs.NameLemmas.{found_bound}
use Rattle.host_eval.proofs.names.+found_in.Goals as goal

pub returns-then-is : goal.returns-then-is
returns-then-is t c =
    rw c.in-Bound.is (found_bound _ _ _ _ _ (rw c.in-Bound.is at c.requires.paired) (sym c.is.ensures ∙ c.if-is.true))

pub returns-else-is : goal.returns-else-is
returns-else-is t c =
    rw c.in-Bound.is (found_bound _ _ _ _ _ (rw c.in-Bound.is at c.requires.paired) (sym c.is.ensures ∙ c.if-is.false)
    ∙ c.found_in.ensures)
