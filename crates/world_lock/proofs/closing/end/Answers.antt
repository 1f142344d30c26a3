use Rattle.std.proofs.Common.{◌∙◌, ℕ, ap, sym, subst, arith, List, map}
use Rattle.task_model.specs.Terms.Item.{ItemTerm, history_term}
use Rattle.session_desk.specs.Desks.{DeskTerm}
use Rattle.world_lock.specs.Closings.{Holds, IsClosed}
use Rattle.world_lock.specs.Sessions.{session_term}
use Rattle.world_lock.proofs.ClosingLemmas.{closes}
use Rattle.world_lock.proofs.closing.end.Goals as goal

pub returns-clause-ok : goal.returns-clause-ok
returns-clause-ok g c =
    let ss : List DeskTerm = map session_term c.args.sessions.items in
    let h : List ItemTerm = history_term c.gather-all.new.world in
    let parts = c.gather-all.ensures.parts in
    let whole = c.settle.ensures.whole in
    let counted = c.requires.counted in
    let holds : (s : DeskTerm) → _ → Holds h s
    = λ s a. subst (λ (l : List ItemTerm). Holds l s) (sym (ap history_term c.gather-all.ensures.same)) (c.gather-all.ensures.held s a) in
    let closed = closes g.M.Mark.start g.M.Mark.seats ss h c.args.taken.items c.settle.ensures.kept.0 c.settle.ensures.kept.1
    holds (omega (arith, parts.0, parts.1, whole.0))
    (λ many. sym c.gather-all.ensures.amount ∙ whole.1 (omega (arith, parts.0, parts.1, many, whole.0)))
    counted.0 counted.1 in
    subst (λ (ns : List ℕ). IsClosed g.M.Mark.start g.M.Mark.seats ss (history_term c.settle.result.history) ns) (sym c.of_vec.ensures.list)
    (subst (λ (l : List ItemTerm). IsClosed g.M.Mark.start g.M.Mark.seats ss l c.args.taken.items)
    (sym (ap history_term c.settle.ensures.world.0)) closed)
