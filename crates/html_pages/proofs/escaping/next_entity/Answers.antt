use Rattle.html_pages.proofs.Escapes.{written_more}
use Rattle.html_pages.proofs.escaping.next_entity.Goals as goal

pub loop-place-preserved : goal.loop-place-preserved
loop-place-preserved c =
    written_more c.args.bytes.now c.loop-place.place c.loop-place-test.true c.loop-place.invariant c.in_default.ensures
