use Rattle.std.proofs.Common.{length, drop, subst, ap, ◌∙◌, rules}
use Rattle.shared_store.specs.Layered.{Layered}
use Rattle.shared_store.specs.Log.{IsStack}
use Rattle.shared_store.proofs.LogLemmas.{kept_on, layers_kept, popped}
use Rattle.shared_store.proofs.store.Store.keep.Goals as goal

pub invariant_of-self : goal.invariant_of-self
invariant_of-self g c =
    kept_on c.self.inside.values.items c.self.inside.log.items c.forget.new.log.items c.pop-layer.new.self.items c.pop-layer.result
    (subst (λ z. IsStack z (length c.self.inside.values.items) (length c.self.inside.log.items)) c.pop-layer.ensures.items c.self.invariant)
    (λ some. c.forget.ensures (rw c.as_slice.ensures.value some))

pub returns-clause-layers : goal.returns-clause-layers
returns-clause-layers g c =
    layers_kept c.self.inside.values.items c.self.inside.log.items c.forget.new.log.items c.pop-layer.new.self.items
    (λ some. c.forget.ensures (rw c.as_slice.ensures.value some))
    ∙ popped c.self.inside.values.items c.self.inside.log.items c.self.inside.marks.items c.pop-layer.new.self.items c.pop-layer.result
    c.pop-layer.ensures.items (search (rules, c.pop-layer.ensures.variant))
    ∙ ap (λ (z : Layered g.row.T.Denot). drop 1 z.layers) c.self.view_is
