use Rattle.std.proofs.Common.{◌≡◌, ◌∙◌, ◌+◌, ◌≤◌, ap, sym, subst, length, List}
use Rattle.task_model.specs.declared.item.Item.{Item}
use Rattle.page_board.proofs.CellLemmas.{claims_moves}
use Rattle.page_board.proofs.front.Front.claim.Goals as goal

pub compare_exchange-found-requires : goal.compare_exchange-found-requires
compare_exchange-found-requires c =
    let h = c.requires.head in
    let offer = c.plain-offer.ensures in
    let pen = c.no_pen-pen.ensures in
    let book : c.again-seen.result.book ≡ c.args.head.now.book = ap (λ s. s.book) c.again-seen.ensures ∙ (ap (λ l. l.board) c.self.view_is ∙ sym (ap (λ w. w.book) h)) in
    let list : c.args.self.now.list ≡ c.again-seen.result.log = sym (ap (λ l. l.list) c.self.view_is) ∙ sym (ap (λ s. s.log) c.again-seen.ensures) in
    let low : c.args.old ≤ length c.again-seen.result.log + 1 = subst (λ (l : List Item). c.args.old ≤ length l + 1) list c.requires.low in (
      ap (λ w. w.tracked) h,
      book,
      pen.0 ∙ book,
      offer.0,
      rw (ap (λ w. w.key) h, pen.1, offer.3) (claims_moves c.again-seen.result.log c.plain-offer.result.ask c.args.old low),
    )
