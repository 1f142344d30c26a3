use Rattle.std.proofs.Common.{◌∙◌, ap, sym}
use Rattle.page_board.proofs.CellLemmas.{wholes_moves}
use Rattle.page_board.proofs.roll.look.Goals as goal

pub compare_exchange-requires : goal.compare_exchange-requires
compare_exchange-requires c =
    let h = c.requires.head in
    let offer = c.plain-offer.ensures in
    let pen = c.requires.pen in (
      ap (λ w. w.tracked) h,
      sym (ap (λ w. w.book) h),
      pen.0 ∙ sym (ap (λ w. w.book) h),
      offer.0,
      rw (ap (λ w. w.key) h, pen.1.1, offer.3) (wholes_moves c.args.seen.log c.plain-offer.result.ask pen.1.0),
    )
