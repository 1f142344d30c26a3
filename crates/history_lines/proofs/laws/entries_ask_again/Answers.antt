use Rattle.history_lines.proofs.SmallTrees.{legal_again}
use Rattle.history_lines.proofs.laws.entries_ask_again.Goals as goal

pub returns : goal.returns
returns c p budget items legal = legal_again p budget items legal
