use Rattle.std.proofs.Common.{◌≡◌, [], ◌∷◌, ◌++◌, ap, ◌∙◌, rules}
use Rattle.shared_store.specs.Layered.{Layered}
use Rattle.shared_store.proofs.LogLemmas.{grown}
use Rattle.shared_store.proofs.store.Store.grow.Goals as goal

pub invariant_of-self-2 : goal.invariant_of-self-2
invariant_of-self-2 g c =
    let e : c.push.new.self.items ≡ c.self.inside.values.items ++ c.args.value ∷ [] = search rules in
    (grown c.self.inside.values.items c.push.new.self.items c.self.inside.log.items c.self.inside.marks.items c.args.value c.self.invariant
    e).0

pub returns-clause-layers : goal.returns-clause-layers
returns-clause-layers g c =
    let e : c.push.new.self.items ≡ c.self.inside.values.items ++ c.args.value ∷ [] = search rules in
    (grown c.self.inside.values.items c.push.new.self.items c.self.inside.log.items c.self.inside.marks.items c.args.value c.self.invariant
    e).1
    ∙ ap (λ (z : Layered g.row.T.Denot). z.layers) c.self.view_is
