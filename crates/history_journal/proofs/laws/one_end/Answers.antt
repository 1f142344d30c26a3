use Rattle.history_journal.proofs.Ends.{no_bad}
use Rattle.history_journal.proofs.laws.one_end.Goals as goal

pub returns : goal.returns
returns c bytes h place journal legal bad = no_bad bytes h place journal legal bad
