use Rattle.http_heads.proofs.WholeHead.{no_overflow, wrong_length}
use Rattle.http_heads.proofs.block.whole_head.Goals as goal

pub returns-else-spans-block-clause-none : goal.returns-else-spans-block-clause-none
returns-else-spans-block-clause-none c = wrong_length _ _ _ _ c.in-Ok-Complete.field-0-is c.in-Ok-Complete.ensures.complete c.if-spans-block.false

pub returns-in-Err-clause-none : goal.returns-in-Err-clause-none
returns-in-Err-clause-none c h is = no_overflow _ _ c.requires.lines c.in-Err.ensures.no_room h is
