use Rattle.std.proofs.Common.{codes}
use Rattle.outer_io.proofs.Bytes.{wrote_then, wrote_part}
use Rattle.tophat.specs.Ending.{refusal_text}
use Rattle.tophat.proofs.no_world.write_line.Goals as goal

pub returns-in-Whole-clause-text : goal.returns-in-Whole-clause-text
returns-in-Whole-clause-text g c = wrote_then _ _ _ (refusal_text c.args.refusal.now) (codes "\n") _ c.in-Whole.ensures.text
    c.write_all.ensures.bytes

pub returns-in-Failed-clause-text : goal.returns-in-Failed-clause-text
returns-in-Failed-clause-text g c = wrote_part _ _ (refusal_text c.args.refusal.now) (codes "\n") c.in-Failed.ensures.text
