use Rattle.std.proofs.Common.{length, ap, ◌∙◌, subst, sym}
use Rattle.shared_store.specs.Layered.{Layered}
use Rattle.shared_store.specs.Log.{IsStack}
use Rattle.shared_store.proofs.LogLemmas.{stack_dropped, layers_dropped, layers_of}
use Rattle.shared_store.proofs.store.Store.drop_layer.Goals as goal

pub invariant_of-self : goal.invariant_of-self
invariant_of-self g c =
    rw (c.truncate.ensures.items, c.rewind.ensures.values, c.rewind.ensures.log)
    (stack_dropped c.self.inside.values.items c.self.inside.log.items c.pop.new.self.items c.in-Some.mark
    (subst (λ z. IsStack z (length c.self.inside.values.items) (length c.self.inside.log.items)) c.in-Some.ensures.items c.self.invariant))

pub returns-in-Some : goal.returns-in-Some
returns-in-Some g c =
    rw (c.truncate.ensures.items, c.rewind.ensures.values, c.rewind.ensures.log)
    (sym (ap (λ (z : Layered g.row.T.Denot). z.layers) c.self.view_is)
    ∙ ap (layers_of c.self.inside.values.items c.self.inside.log.items) c.in-Some.ensures.items
    ∙ layers_dropped c.self.inside.values.items c.self.inside.log.items c.pop.new.self.items c.in-Some.mark
    (length c.self.inside.values.items) (length c.self.inside.log.items)
    (subst (λ z. IsStack z (length c.self.inside.values.items) (length c.self.inside.log.items)) c.in-Some.ensures.items c.self.invariant))
