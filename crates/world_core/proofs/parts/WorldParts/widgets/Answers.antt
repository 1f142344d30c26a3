use Rattle.std.proofs.Common.{◌≡◌, ◌≤◌, ◌+◌, ap, ◌∙◌, subst, map}
use Rattle.std.specs.Prelude.{IfOk, OnOk, is_some}
use Rattle.std.proofs.lemmas.Result.{IfOk-weaker}
use Rattle.task_model.specs.Terms.Item.{history_term}
use Rattle.task_model.specs.Running.State.{HasWidgets}
use Rattle.task_model.specs.Showing.Widget.{widget_term}
use Rattle.world_core.specs.World.{SeenWorld, drawn_as, world_term}
use Rattle.world_core.specs.Pages.{AreWorldWidgets}
use Rattle.world_core.specs.Inside.{next_made, seen_world}
use Rattle.live_tree.specs.Live.{most_steps}
use Rattle.task_model.specs.Terms.Tree.{tree_term}
use Rattle.world_core.proofs.WorldLemmas.{standing_widgets}
use Rattle.world_core.proofs.KeptLemmas.{rest_is, rest_fits, rest_live, drawn_world, drawn_kept}
use Rattle.world_core.proofs.ShownWidgets.{widgets_shown}
use Rattle.world_core.proofs.parts.WorldParts.widgets.Goals as goal

pub drawn_widgets-requires : goal.drawn_widgets-requires
drawn_widgets-requires g c =
    let rest = rest_is c.self.inside.next c.self.inside.store.list (ap (λ (w : SeenWorld). w.next) c.self.view_is ∙ c.requires.rest) in
    record {
      fits = rest_fits c.self.inside.engine c.self.inside.budget c.self.inside.history c.self.inside.live c.self.inside.store
          c.self.inside.next c.self.invariant rest;
      live = rest_live c.self.inside.engine c.self.inside.budget c.self.inside.history c.self.inside.live c.self.inside.store
          c.self.inside.next c.self.invariant rest;
    }

pub invariant_of-self : goal.invariant_of-self
invariant_of-self g c =
    let rest = rest_is c.self.inside.next c.self.inside.store.list (ap (λ (w : SeenWorld). w.next) c.self.view_is ∙ c.requires.rest) in
    drawn_kept c.self.inside.engine c.self.inside.budget c.self.inside.history c.self.inside.live c.self.inside.store
    c.drawn_widgets.new.live c.drawn_widgets.new.store c.drawn_widgets.ensures.tree c.drawn_widgets.ensures.store
    c.self.inside.next rest c.drawn_widgets.ensures.live c.drawn_widgets.ensures.quiet c.self.invariant

pub returns-clause-world : goal.returns-clause-world
returns-clause-world g c =
    subst (λ b. seen_world c.self.inside.engine c.self.inside.budget c.self.inside.history.list c.drawn_widgets.new.live
    c.drawn_widgets.new.store c.self.inside.next ≡ drawn_as (is_some c.drawn_widgets.new.live.rows) b c.args.self.now)
    (ap (λ (w : SeenWorld). w.next_drawn) c.self.view_is)
    (drawn_world c.self.inside.engine c.self.inside.budget c.self.inside.history c.self.inside.live c.self.inside.store
    c.drawn_widgets.new.live c.drawn_widgets.new.store c.drawn_widgets.ensures.tree c.drawn_widgets.ensures.store
    c.self.inside.next
    ∙ ap (drawn_as (is_some c.drawn_widgets.new.live.rows) (next_made c.self.inside.next)) c.self.view_is)

pub returns-clause-made : goal.returns-clause-made
returns-clause-made g c = c.drawn_widgets.ensures.drawn

pub returns-clause-steps : goal.returns-clause-steps
returns-clause-steps g c =
    subst (λ (w : SeenWorld). OnOk c.drawn_widgets.result (c.drawn_widgets.new.steps ≤ c.args.steps.now + most_steps w.drawn (tree_term w.tree)))
    c.self.view_is c.drawn_widgets.ensures.steps

pub returns-clause-widgets : goal.returns-clause-widgets
returns-clause-widgets g c =
    let rest = rest_is c.self.inside.next c.self.inside.store.list (ap (λ (w : SeenWorld). w.next) c.self.view_is ∙ c.requires.rest) in
    subst (λ (w : SeenWorld). IfOk c.drawn_widgets.result (λ ws. AreWorldWidgets (world_term w) (map widget_term ws.list))) c.self.view_is
    (widgets_shown c.self.inside.engine c.self.inside.budget c.self.inside.history c.self.inside.live c.self.inside.store
    c.self.inside.next c.drawn_widgets.result rest c.drawn_widgets.ensures.widgets)

pub returns-clause-legal : goal.returns-clause-legal
returns-clause-legal g c =
    let w = world_term c.args.self.now in
    IfOk-weaker c.drawn_widgets.result (λ ws. AreWorldWidgets w (map widget_term ws.list))
    (λ ws. HasWidgets (history_term c.args.self.now.history) (map widget_term ws.list))
    (λ ws q. standing_widgets w c.history-legal.ensures.standing (map widget_term ws.list) q) (returns-clause-widgets g c)
