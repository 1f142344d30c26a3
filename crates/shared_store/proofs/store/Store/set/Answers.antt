use Rattle.std.proofs.Common.{◌≤◌, length, ap, ◌∙◌, reverse, arith, subst, sym, slice_set}
use Rattle.shared_store.specs.Layered.{Layered}
use Rattle.shared_store.specs.Log.{earlier, IsStack}
use Rattle.shared_store.proofs.LogLemmas.{marks_same, earlier_set, written_if}
use Rattle.shared_store.proofs.store.Store.set.Goals as goal

pub returns-then-place-counted-clause-layers : goal.returns-then-place-counted-clause-layers
returns-then-place-counted-clause-layers g c =
    let above = c.if-place-counted.true in
    let stands : IsStack c.self.inside.marks.items c.counted.result (length c.self.inside.log.items) =
    subst (λ z. IsStack z c.counted.result (length c.self.inside.log.items)) c.as_slice.ensures.value
    (c.counted.ensures (length c.self.inside.values.items) (length c.self.inside.log.items)
    (subst (λ z. IsStack z (length c.self.inside.values.items) (length c.self.inside.log.items)) (sym c.as_slice.ensures.value)
    c.self.invariant)) in
    ap reverse (marks_same (earlier (slice_set c.self.inside.values.items c.args.place c.args.value) c.self.inside.log.items)
    (earlier c.self.inside.values.items c.self.inside.log.items) c.self.inside.marks.items c.counted.result
    (length c.self.inside.log.items) stands
    (λ m a b. let at_most : m.count ≤ c.args.place = omega arith in earlier_set c.self.inside.values.items c.self.inside.log.items m
    c.args.place c.args.value at_most))
    ∙ ap (λ (z : Layered g.row.T.Denot). z.layers) c.self.view_is

pub invariant_of-self-2 : goal.invariant_of-self-2
invariant_of-self-2 g c =
    (written_if c.overwrite.result c.self.inside.values.items c.overwrite.new.values.items c.self.inside.log.items c.overwrite.new.log.items
    c.self.inside.marks.items c.args.place c.args.value c.self.invariant
    c.overwrite.ensures.ok c.overwrite.ensures.logged c.overwrite.ensures.err c.overwrite.ensures.unlogged).0

pub returns-clause-layers : goal.returns-clause-layers
returns-clause-layers g c =
    (written_if c.overwrite.result c.self.inside.values.items c.overwrite.new.values.items c.self.inside.log.items c.overwrite.new.log.items
    c.self.inside.marks.items c.args.place c.args.value c.self.invariant
    c.overwrite.ensures.ok c.overwrite.ensures.logged c.overwrite.ensures.err c.overwrite.ensures.unlogged).1
    ∙ ap (λ (z : Layered g.row.T.Denot). z.layers) c.self.view_is
