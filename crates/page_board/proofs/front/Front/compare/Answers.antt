use Rattle.page_board.proofs.FrontLemmas.{prefix_shorter}
use Rattle.page_board.proofs.front.Front.compare.Goals as goal

pub returns : goal.returns
returns c = prefix_shorter _ _ c.both.result.log c.both.ensures.1 c.both.ensures.2 c.requires.longer
