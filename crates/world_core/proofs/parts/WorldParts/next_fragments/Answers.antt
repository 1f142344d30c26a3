use Rattle.std.proofs.Common.{◌≡◌, ◌≤◌, ◌+◌, ◌*◌, sym, ap, ◌∙◌, subst, Some}
use Rattle.std.specs.Prelude.{IfOk, OnOk, is_some}
use Rattle.std.proofs.lemmas.Result.{on_ok_weaker}
use Rattle.std.specs.Option.{option_map}
use Rattle.task_model.specs.Terms.Item.{history_term}
use Rattle.world_core.specs.Inside.{FieldsAgree, seen_next, seen_world}
use Rattle.world_core.specs.World.{SeenWorld, drawn_as, world_term, next_term}
use Rattle.world_core.specs.Pages.{AreNextFragments, next_most_steps}
use Rattle.world_core.proofs.KeptLemmas.{next_fits, has_layer, layer_fits, layer_live, few_of, next_shown, next_drawn_world, next_drawn_kept}
use Rattle.world_core.proofs.parts.WorldParts.next_fragments.Goals as goal

pub next_drawn_fragments-fragments-requires : goal.next_drawn_fragments-fragments-requires
next_drawn_fragments-fragments-requires g c =
    let is = sym c.take.ensures.value ∙ c.in-Some.is in
    let kept = subst (FieldsAgree c.self.inside.engine c.self.inside.budget c.self.inside.history c.self.inside.live c.self.inside.store) is
    c.self.invariant in
    record {
      fits = next_fits c.self.inside.engine c.self.inside.budget c.self.inside.history c.self.inside.live c.self.inside.store
          c.in-Some.prepared kept;
      live = kept.next_rows;
      layer = has_layer c.self.inside.engine c.self.inside.budget c.self.inside.history c.self.inside.live c.self.inside.store
          c.in-Some.prepared kept;
      before_fits = layer_fits c.self.inside.engine c.self.inside.budget c.self.inside.history c.self.inside.live c.self.inside.store
          c.in-Some.prepared kept;
      before = layer_live c.self.inside.engine c.self.inside.budget c.self.inside.history c.self.inside.live c.self.inside.store
          c.in-Some.prepared kept;
      along = kept.next_differs;
    }

pub invariant_of-self : goal.invariant_of-self
invariant_of-self g c =
    let is = sym c.take.ensures.value ∙ c.in-Some.is in
    let kept = subst (FieldsAgree c.self.inside.engine c.self.inside.budget c.self.inside.history c.self.inside.live c.self.inside.store) is
    c.self.invariant in
    next_drawn_kept c.self.inside.engine c.self.inside.budget c.self.inside.history c.self.inside.live c.self.inside.store
    c.in-Some.prepared kept c.next_drawn_fragments-fragments.new.live c.next_drawn_fragments-fragments.new.store c.next_drawn_fragments-fragments.ensures.tree
    c.next_drawn_fragments-fragments.ensures.store c.next_drawn_fragments-fragments.ensures.along
    c.next_drawn_fragments-fragments.ensures.live c.next_drawn_fragments-fragments.ensures.quiet

pub returns-clause-world : goal.returns-clause-world
returns-clause-world g c =
    let is = sym c.take.ensures.value ∙ c.in-Some.is in
    let kept = subst (FieldsAgree c.self.inside.engine c.self.inside.budget c.self.inside.history c.self.inside.live c.self.inside.store) is
    c.self.invariant in
    let seen = subst (λ o. seen_world c.self.inside.engine c.self.inside.budget c.self.inside.history.list c.self.inside.live
    c.self.inside.store o ≡ c.args.self.now) is c.self.view_is in
    subst (λ b. seen_world c.self.inside.engine c.self.inside.budget c.self.inside.history.list c.self.inside.live
    c.next_drawn_fragments-fragments.new.store (Some (record { item = c.in-Some.prepared.item; live = c.next_drawn_fragments-fragments.new.live }))
    ≡ drawn_as b (is_some c.next_drawn_fragments-fragments.new.live.rows) c.args.self.now) (ap (λ (w : SeenWorld). w.drawn) seen)
    (next_drawn_world c.self.inside.engine c.self.inside.budget c.self.inside.history c.self.inside.live c.self.inside.store
    c.in-Some.prepared kept c.next_drawn_fragments-fragments.new.live c.next_drawn_fragments-fragments.new.store c.next_drawn_fragments-fragments.ensures.tree
    c.next_drawn_fragments-fragments.ensures.store
    ∙ ap (drawn_as (is_some c.self.inside.live.rows) (is_some c.next_drawn_fragments-fragments.new.live.rows)) seen)

pub returns-clause-made : goal.returns-clause-made
returns-clause-made g c = c.next_drawn_fragments-fragments.ensures.drawn

pub returns-clause-steps : goal.returns-clause-steps
returns-clause-steps g c =
    let is = sym c.take.ensures.value ∙ c.in-Some.is in
    let seen = subst (λ o. seen_world c.self.inside.engine c.self.inside.budget c.self.inside.history.list c.self.inside.live
    c.self.inside.store o ≡ c.args.self.now) is c.self.view_is in
    subst (λ (w : SeenWorld). OnOk c.next_drawn_fragments-fragments.result (c.next_drawn_fragments-fragments.new.steps
    ≤ c.args.steps.now + next_most_steps w.next_drawn (world_term w).next)) seen c.next_drawn_fragments-fragments.ensures.steps

pub returns-clause-few : goal.returns-clause-few
returns-clause-few g c =
    let is = sym c.take.ensures.value ∙ c.in-Some.is in
    let kept = subst (FieldsAgree c.self.inside.engine c.self.inside.budget c.self.inside.history c.self.inside.live c.self.inside.store) is
    c.self.invariant in
    let seen = subst (λ o. seen_world c.self.inside.engine c.self.inside.budget c.self.inside.history.list c.self.inside.live
    c.self.inside.store o ≡ c.args.self.now) is c.self.view_is in
    on_ok_weaker c.next_drawn_fragments-fragments.result
    (few_of c.self.inside.engine c.self.inside.budget c.self.inside.history c.self.inside.live c.self.inside.store c.in-Some.prepared kept
    c.args.self.now (λ m. c.next_drawn_fragments-fragments.new.steps ≤ c.args.steps.now + 3 * m) seen)
    c.next_drawn_fragments-fragments.ensures.few

pub returns-clause-fragments : goal.returns-clause-fragments
returns-clause-fragments g c =
    let is = sym c.take.ensures.value ∙ c.in-Some.is in
    let kept = subst (FieldsAgree c.self.inside.engine c.self.inside.budget c.self.inside.history c.self.inside.live c.self.inside.store) is
    c.self.invariant in
    subst (λ (w : SeenWorld). IfOk c.next_drawn_fragments-fragments.result (AreNextFragments (world_term w).history (world_term w).next)) c.self.view_is
    (subst (λ o. IfOk c.next_drawn_fragments-fragments.result (AreNextFragments (history_term c.self.inside.history.list)
    (option_map next_term (seen_next o c.self.inside.store.list)))) (sym is)
    (next_shown c.self.inside.engine c.self.inside.budget c.self.inside.history c.self.inside.live c.self.inside.store c.in-Some.prepared
    kept c.next_drawn_fragments-fragments.result c.next_drawn_fragments-fragments.ensures.fragments))
