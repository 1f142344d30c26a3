use Rattle.std.proofs.Common.{sym, ◌∙◌, ap}
use Rattle.std.specs.Option.{is_some}
use Rattle.world_core.proofs.KeptLemmas.{given_up, none_kept}
use Rattle.world_core.proofs.parts.WorldParts.abandon.Goals as goal

pub invariant_of-self : goal.invariant_of-self
invariant_of-self c =
    given_up c.self.inside.engine c.self.inside.budget c.self.inside.history c.self.inside.live c.self.inside.store c.drop_layer.new.self
    c.self.inside.next c.take.new.self (ap is_some (sym c.take.ensures.value) ∙ sym c.is_some.ensures ∙ c.if-is_some.true)
    c.take.ensures.after c.drop_layer.ensures c.self.invariant

pub invariant_of-self-else-is_some : goal.invariant_of-self-else-is_some
invariant_of-self-else-is_some c =
    none_kept c.self.inside.engine c.self.inside.budget c.self.inside.history c.self.inside.live c.self.inside.store
    c.self.inside.next c.take.new.self (ap is_some (sym c.take.ensures.value) ∙ sym c.is_some.ensures ∙ c.if-is_some.false)
    c.take.ensures.after c.self.invariant
