use Rattle.std.proofs.Common.{◌≡◌, ◌∙◌, ap, sym, length, suc, List}
use Rattle.logbook.specs.Pages.{nib, may_write}
use Rattle.task_model.specs.declared.item.Item.{Item}
use Rattle.page_board.proofs.CellLemmas.{extends_moves}
use Rattle.page_board.proofs.front.Front.extend.Goals as goal

pub compare_exchange-requires : goal.compare_exchange-requires
compare_exchange-requires c =
    let h = c.requires.head in
    let offer = c.plain-offer.ensures in
    let book : c.self.inside.seen.book ≡ c.args.head.now.book = ap (λ l. l.board) c.self.view_is ∙ sym (ap (λ w. w.book) h) in
    let nib_is : c.args.pen.nib ≡ nib may_write (suc (suc (length c.self.inside.seen.log))) 0 = c.requires.pen.1 ∙ ap (λ (l : List Item). nib may_write (suc (suc (length l))) 0) (sym (ap (λ l. l.list) c.self.view_is)) in (
      ap (λ w. w.tracked) h,
      book,
      c.requires.pen.0 ∙ sym (ap (λ w. w.book) h),
      offer.0,
      rw (ap (λ w. w.key) h, nib_is, offer.3) (extends_moves c.self.inside.seen.log c.plain-offer.result.ask),
    )
