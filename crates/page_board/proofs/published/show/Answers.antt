use Rattle.std.proofs.Common.{◌≡◌, ◌∙◌, ap, fold}
use Rattle.page_board.proofs.PlaceLemmas.{sees}
use Rattle.page_board.proofs.published.show.Goals as goal

pub publish_as-after-requires : goal.publish_as-after-requires
publish_as-after-requires g c next is =
    let shown = c.loop.invariant.2 in
    let pending = c.loop.invariant.3 ∙ c.requires.1 in
    let same : next ≡ c.requires.0 = is ∙ ap (λ l. fold (λ x y. y) c.loop.writer.desk.shown.value l) pending in
    sees (λ x. x.1) _ _ c.loop.writer.desk.shown.value next (rw (shown, same) c.requires.2)
