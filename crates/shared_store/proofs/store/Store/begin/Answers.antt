use Rattle.std.proofs.Common.{◌≡◌, [], ◌∷◌, ◌++◌, length, le_refl, subst, sym, rules}
use Rattle.shared_store.specs.Log.{IsStack}
use Rattle.shared_store.proofs.LogLemmas.{stack_push}
use Rattle.shared_store.proofs.store.Store.begin.Goals as goal

pub invariant_of-self-2 : goal.invariant_of-self-2
invariant_of-self-2 g c =
    let e : c.push.new.self.items ≡ c.self.inside.marks.items ++ (record
    { count = length c.self.inside.values.items; log = length c.self.inside.log.items }) ∷ [] = search rules in
    subst (λ z. IsStack z (length c.self.inside.values.items) (length c.self.inside.log.items)) (sym e)
    (stack_push c.self.inside.marks.items _ (length c.self.inside.values.items) (length c.self.inside.log.items) c.self.invariant
    (le_refl _) (le_refl _))
