use Rattle.std.proofs.Common.{◌≡◌, ◌≤◌, ◌+◌, ap, ◌∙◌, subst}
use Rattle.std.specs.Prelude.{IfOk, OnOk, is_some}
use Rattle.task_model.specs.Terms.Item.{history_term}
use Rattle.world_core.specs.World.{SeenWorld, drawn_as}
use Rattle.world_core.specs.Pages.{AreFragments}
use Rattle.world_core.specs.Inside.{next_made, seen_world}
use Rattle.live_tree.specs.Live.{most_steps}
use Rattle.task_model.specs.Terms.Tree.{tree_term}
use Rattle.world_core.proofs.KeptLemmas.{rest_is, rest_fits, rest_live, drawn_world, drawn_kept, fragments_shown}
use Rattle.world_core.proofs.parts.WorldParts.fragments.Goals as goal

pub drawn_fragments-requires : goal.drawn_fragments-requires
drawn_fragments-requires g c =
    let rest = rest_is c.self.inside.next c.self.inside.store.list (ap (λ (w : SeenWorld). w.next) c.self.view_is ∙ c.requires.rest) in
    record {
      fits = rest_fits c.self.inside.engine c.self.inside.budget c.self.inside.history c.self.inside.live c.self.inside.store
          c.self.inside.next c.self.invariant rest;
      live = rest_live c.self.inside.engine c.self.inside.budget c.self.inside.history c.self.inside.live c.self.inside.store
          c.self.inside.next c.self.invariant rest;
    }

pub invariant_of-self : goal.invariant_of-self
invariant_of-self g c =
    let rest = rest_is c.self.inside.next c.self.inside.store.list (ap (λ (w : SeenWorld). w.next) c.self.view_is ∙ c.requires.rest) in
    drawn_kept c.self.inside.engine c.self.inside.budget c.self.inside.history c.self.inside.live c.self.inside.store
    c.drawn_fragments.new.live c.drawn_fragments.new.store c.drawn_fragments.ensures.tree c.drawn_fragments.ensures.store
    c.self.inside.next rest c.drawn_fragments.ensures.live c.drawn_fragments.ensures.quiet c.self.invariant

pub returns-clause-world : goal.returns-clause-world
returns-clause-world g c =
    subst (λ b. seen_world c.self.inside.engine c.self.inside.budget c.self.inside.history.list c.drawn_fragments.new.live
    c.drawn_fragments.new.store c.self.inside.next ≡ drawn_as (is_some c.drawn_fragments.new.live.rows) b c.args.self.now)
    (ap (λ (w : SeenWorld). w.next_drawn) c.self.view_is)
    (drawn_world c.self.inside.engine c.self.inside.budget c.self.inside.history c.self.inside.live c.self.inside.store
    c.drawn_fragments.new.live c.drawn_fragments.new.store c.drawn_fragments.ensures.tree c.drawn_fragments.ensures.store
    c.self.inside.next
    ∙ ap (drawn_as (is_some c.drawn_fragments.new.live.rows) (next_made c.self.inside.next)) c.self.view_is)

pub returns-clause-made : goal.returns-clause-made
returns-clause-made g c = c.drawn_fragments.ensures.drawn

pub returns-clause-steps : goal.returns-clause-steps
returns-clause-steps g c =
    subst (λ (w : SeenWorld). OnOk c.drawn_fragments.result (c.drawn_fragments.new.steps ≤ c.args.steps.now + most_steps w.drawn (tree_term w.tree)))
    c.self.view_is c.drawn_fragments.ensures.steps

pub returns-clause-fragments : goal.returns-clause-fragments
returns-clause-fragments g c =
    let rest = rest_is c.self.inside.next c.self.inside.store.list (ap (λ (w : SeenWorld). w.next) c.self.view_is ∙ c.requires.rest) in
    subst (λ (w : SeenWorld). IfOk c.drawn_fragments.result (AreFragments (history_term w.history))) c.self.view_is
    (fragments_shown c.self.inside.engine c.self.inside.budget c.self.inside.history c.self.inside.live c.self.inside.store
    c.self.inside.next c.drawn_fragments.result rest c.self.invariant c.drawn_fragments.ensures.fragments)
