use Rattle.std.proofs.Common.{true≢false, sym, ◌∙◌, ap, subst, length, ◌-◌}
use Rattle.world_core.specs.Inside.{FieldsAgree, next_made, seen_world}
use Rattle.world_core.specs.World.{SeenWorld, world_term, Commits}
use Rattle.world_core.proofs.KeptLemmas.{committed_kept, commits}
use Rattle.world_core.proofs.parts.WorldParts.commit.Goals as goal

pub invariant_of-self : goal.invariant_of-self
invariant_of-self c =
    let is = sym c.take.ensures.value ∙ c.in-Some.is in
    let kept = subst (FieldsAgree c.self.inside.engine c.self.inside.budget c.self.inside.history c.self.inside.live c.self.inside.store) is
    c.self.invariant in
    subst (FieldsAgree c.self.inside.engine c.self.inside.budget c.push.new.self c.in-Some.field-0.live c.keep.new.self)
    (sym c.take.ensures.after)
    (committed_kept c.self.inside.engine c.self.inside.budget c.self.inside.history c.self.inside.live c.self.inside.store
    c.in-Some.field-0 kept c.push.new.self c.keep.new.self c.in-Ok.ensures.ok c.keep.ensures.list c.keep.ensures.layers)

pub returns-clause-commits : goal.returns-clause-commits
returns-clause-commits c =
    let is = sym c.take.ensures.value ∙ c.in-Some.is in
    let kept = subst (FieldsAgree c.self.inside.engine c.self.inside.budget c.self.inside.history c.self.inside.live c.self.inside.store) is
    c.self.invariant in
    subst (λ w. Commits (world_term w)
    (world_term (seen_world c.self.inside.engine c.self.inside.budget c.push.new.self.list c.in-Some.field-0.live c.keep.new.self
    c.take.new.self)) (record { version = length c.as_slice.result.now - 1 })) c.self.view_is
    (commits c.self.inside.engine c.self.inside.budget c.self.inside.history c.self.inside.live c.self.inside.store c.in-Some.field-0 kept
    c.push.new.self c.keep.new.self c.in-Ok.ensures.ok c.keep.ensures.list c.self.inside.next c.take.new.self
    (length c.as_slice.result.now - 1) is c.take.ensures.after c.keep.ensures.layers (ap (λ l. length l - 1) c.as_slice.ensures))

pub returns-clause-made : goal.returns-clause-made
returns-clause-made c =
    let is = sym c.take.ensures.value ∙ c.in-Some.is in
    sym (ap next_made is) ∙ ap (λ (w : SeenWorld). w.next_drawn) c.self.view_is

pub unreachable-requires-in-Err : goal.unreachable-requires-in-Err
unreachable-requires-in-Err c =
    let is = sym c.take.ensures.value ∙ c.in-Some.is in
    let kept = subst (FieldsAgree c.self.inside.engine c.self.inside.budget c.self.inside.history c.self.inside.live c.self.inside.store) is
    c.self.invariant in
    true≢false (sym (c.in-Err.ensures.room kept.room.0))
