use Rattle.std.proofs.Common.{map, ap, ◌∙◌, refl, arith}
use Rattle.task_model.specs.Terms.Value.{value_term}
use Rattle.task_model.specs.Terms.Input.{input_term}
use Rattle.task_model.specs.Running.Checked.{checked_term}
use Rattle.task_model.specs.declared.item.Item.TheVariants.{Took}
use Rattle.task_laws.proofs.RanLemmas.{stopped}
use Rattle.world_core.specs.World.{SeenWorld}
use Rattle.world_core.proofs.KeptLemmas.{rest_is, rest_fits, rest_quiet, same_kept, prepared_kept, bare_live, refused, prepares}
use Rattle.world_core.proofs.parts.WorldParts.prepare.Goals as goal

pub apply-requires : goal.apply-requires
apply-requires c =
    let rest = rest_is c.self.inside.next c.self.inside.store.list (ap (λ (w : SeenWorld). w.next) c.self.view_is ∙ c.requires.rest) in
    record {
      fits = rest_fits c.self.inside.engine c.self.inside.budget c.self.inside.history c.self.inside.live
          c.self.inside.store c.self.inside.next c.self.invariant rest;
      quiet = rest_quiet c.self.inside.engine c.self.inside.budget c.self.inside.history c.self.inside.live
          c.self.inside.store c.self.inside.next c.self.invariant rest;
    }

pub returns-in_err-live-clause-prepares : goal.returns-in_err-live-clause-prepares
returns-in_err-live-clause-prepares c =
    let rest = rest_is c.self.inside.next c.self.inside.store.list (ap (λ (w : SeenWorld). w.next) c.self.view_is ∙ c.requires.rest) in
    rw (← c.self.view_is, stopped _ c.in_err-live.field-0.0 c.from_residual-in_err-live.ensures.1)
    (refused c.self.inside.engine c.self.inside.budget c.self.inside.history c.self.inside.live c.self.inside.store c.reserve.new.self
    c.apply.new.store c.self.inside.next (record { seat = c.args.seat; input = input_term c.args.input }) c.in_err-live.field-0.0
    (map value_term c.apply.new.store.list) rest
    c.reserve.ensures.list c.in_err-live.ensures.refused c.in_err-live.ensures.outcome)

pub returns-clause-prepares : goal.returns-clause-prepares
returns-clause-prepares c =
    let rest = rest_is c.self.inside.next c.self.inside.store.list (ap (λ (w : SeenWorld). w.next) c.self.view_is ∙ c.requires.rest) in
    rw (← c.self.view_is)
    (prepares c.self.inside.engine c.self.inside.budget c.self.inside.history c.self.inside.live c.self.inside.store c.reserve.new.self
    c.apply.new.store (record { item = Took (record { seat = c.args.seat; input = c.args.input }); live = c.in_ok-live.live })
    c.reserve.ensures.list c.in_ok-live.ensures.layer c.self.inside.next (record { seat = c.args.seat; input = input_term c.args.input })
    rest refl c.in_ok-live.ensures.outcome)

pub invariant_of-self : goal.invariant_of-self
invariant_of-self c =
    let rest = rest_is c.self.inside.next c.self.inside.store.list (ap (λ (w : SeenWorld). w.next) c.self.view_is ∙ c.requires.rest) in
    same_kept c.self.inside.engine c.self.inside.budget c.self.inside.history c.self.inside.live c.self.inside.store c.reserve.new.self
    c.self.inside.store c.self.inside.next rest c.reserve.ensures.list refl c.self.invariant

pub invariant_of-self-in_err-live : goal.invariant_of-self-in_err-live
invariant_of-self-in_err-live c =
    let rest = rest_is c.self.inside.next c.self.inside.store.list (ap (λ (w : SeenWorld). w.next) c.self.view_is ∙ c.requires.rest) in
    same_kept c.self.inside.engine c.self.inside.budget c.self.inside.history c.self.inside.live c.self.inside.store c.reserve.new.self
    c.apply.new.store c.self.inside.next rest c.reserve.ensures.list c.in_err-live.ensures.refused c.self.invariant

pub invariant_of-self-2 : goal.invariant_of-self-2
invariant_of-self-2 c =
    let rest = rest_is c.self.inside.next c.self.inside.store.list (ap (λ (w : SeenWorld). w.next) c.self.view_is ∙ c.requires.rest) in
    let more = c.in_ok-reserve.ensures.ok in
    prepared_kept c.self.inside.engine c.self.inside.budget c.self.inside.history c.self.inside.live c.self.inside.store c.reserve.new.self
    c.apply.new.store (record { item = Took (record { seat = c.args.seat; input = c.args.input }); live = c.in_ok-live.live })
    c.reserve.ensures.list c.in_ok-live.ensures.layer c.self.inside.next (record { seat = c.args.seat; input = input_term c.args.input })
    rest refl (c.requires.seat, c.in_ok-live.ensures.held) (omega (arith, more)) c.in_ok-live.ensures.outcome
    (bare_live (checked_term c.self.inside.engine) c.self.inside.budget (map value_term c.apply.new.store.list) c.in_ok-live.live
    c.in_ok-live.ensures.bare)
    c.in_ok-live.ensures.along c.in_ok-live.ensures.quiet c.self.invariant

pub returns-clause-made : goal.returns-clause-made
returns-clause-made c = ap (λ (w : SeenWorld). w.drawn) c.self.view_is
