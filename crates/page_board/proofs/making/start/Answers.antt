use Rattle.std.proofs.Common.{◌∙◌, ◌∷◌, [], ap, sym}
use Rattle.page_board.proofs.PlaceLemmas.{follows_self}
use Rattle.page_board.proofs.making.start.Goals as goal

pub show-requires : goal.show-requires
show-requires g c =
    let begun = c.in_ok-writer.ensures in
    (c.in_ok-writer.writer.desk.shown.value, begun.pending ∙ ap (λ x. x ∷ []) (sym begun.shown), follows_self _)
