use Rattle.std.proofs.Common.{◌∙◌, ◌∷◌, [], ap, sym, subst, All, arith, length, length-append}
use Rattle.std.proofs.lemmas.List.Elements.{All-push}
use Rattle.page_board.specs.BoardLists.{BoardList}
use Rattle.page_board.specs.BoardLists.{IsNewOn}
use Rattle.page_board.proofs.making.board.Goals as goal

pub loop-preserved : goal.loop-preserved
loop-preserved g c =
    let same = c.reader.ensures.same in
    let items = c.push_reserved.ensures.items in
    let all : All (IsNewOn c.reader.new.self) c.loop.all.items = subst (λ (w : BoardList). All (IsNewOn w) c.loop.all.items) (sym same) c.loop.invariant.2 in
    let one : IsNewOn c.reader.new.self c.in-Some.reader = subst (λ (w : BoardList). IsNewOn w c.in-Some.reader) (sym same) c.in-Some.ensures.new in (
      same ∙ c.loop.invariant.0,
      omega (arith, ap length items ∙ length-append c.loop.all.items (c.in-Some.reader ∷ []), c.loop.invariant.1),
      subst (All (IsNewOn c.reader.new.self)) (sym items) (All-push (IsNewOn c.reader.new.self) _ _ all one),
      rw c.push_reserved.ensures.capacity c.loop.invariant.3,
    )
