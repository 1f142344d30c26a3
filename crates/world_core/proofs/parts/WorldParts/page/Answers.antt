use Rattle.std.proofs.Common.{◌≡◌, ◌≤◌, ◌+◌, ap, sym, ◌∙◌, subst}
use Rattle.std.specs.Prelude.{IfOk, OnOk, is_some}
use Rattle.std.proofs.lemmas.Result.{IfOk-weaker}
use Rattle.task_model.specs.Terms.Item.{history_term}
use Rattle.task_model.specs.Running.State.{IsPage, version_of}
use Rattle.world_core.specs.World.{SeenWorld, drawn_as, world_term}
use Rattle.world_core.specs.Pages.{IsWorldPage}
use Rattle.world_core.specs.Inside.{next_made, seen_world}
use Rattle.live_tree.specs.Live.{most_steps}
use Rattle.task_model.specs.Terms.Tree.{tree_term}
use Rattle.world_core.proofs.WorldLemmas.{standing_page}
use Rattle.world_core.proofs.KeptLemmas.{rest_is, rest_fits, rest_live, drawn_world, drawn_kept, page_shown}
use Rattle.world_core.proofs.parts.WorldParts.page.Goals as goal

pub drawn_page-requires : goal.drawn_page-requires
drawn_page-requires g c =
    let rest = rest_is c.self.inside.next c.self.inside.store.list (ap (λ (w : SeenWorld). w.next) c.self.view_is ∙ c.requires.rest) in
    record {
      fits = rest_fits c.self.inside.engine c.self.inside.budget c.self.inside.history c.self.inside.live c.self.inside.store
          c.self.inside.next c.self.invariant rest;
      live = rest_live c.self.inside.engine c.self.inside.budget c.self.inside.history c.self.inside.live c.self.inside.store
          c.self.inside.next c.self.invariant rest;
    }

pub invariant_of-self : goal.invariant_of-self
invariant_of-self g c =
    let rest = rest_is c.self.inside.next c.self.inside.store.list (ap (λ (w : SeenWorld). w.next) c.self.view_is ∙ c.requires.rest) in
    drawn_kept c.self.inside.engine c.self.inside.budget c.self.inside.history c.self.inside.live c.self.inside.store
    c.drawn_page.new.live c.drawn_page.new.store c.drawn_page.ensures.tree c.drawn_page.ensures.store
    c.self.inside.next rest c.drawn_page.ensures.live c.drawn_page.ensures.quiet c.self.invariant

pub returns-clause-world : goal.returns-clause-world
returns-clause-world g c =
    subst (λ b. seen_world c.self.inside.engine c.self.inside.budget c.self.inside.history.list c.drawn_page.new.live
    c.drawn_page.new.store c.self.inside.next ≡ drawn_as (is_some c.drawn_page.new.live.rows) b c.args.self.now)
    (ap (λ (w : SeenWorld). w.next_drawn) c.self.view_is)
    (drawn_world c.self.inside.engine c.self.inside.budget c.self.inside.history c.self.inside.live c.self.inside.store
    c.drawn_page.new.live c.drawn_page.new.store c.drawn_page.ensures.tree c.drawn_page.ensures.store
    c.self.inside.next
    ∙ ap (drawn_as (is_some c.drawn_page.new.live.rows) (next_made c.self.inside.next)) c.self.view_is)

pub returns-clause-made : goal.returns-clause-made
returns-clause-made g c = c.drawn_page.ensures.drawn

pub returns-clause-steps : goal.returns-clause-steps
returns-clause-steps g c =
    subst (λ (w : SeenWorld). OnOk c.drawn_page.result (c.drawn_page.new.steps ≤ c.args.steps.now + most_steps w.drawn (tree_term w.tree)))
    c.self.view_is c.drawn_page.ensures.steps

pub returns-clause-page : goal.returns-clause-page
returns-clause-page g c =
    let rest = rest_is c.self.inside.next c.self.inside.store.list (ap (λ (w : SeenWorld). w.next) c.self.view_is ∙ c.requires.rest) in
    subst (λ (w : SeenWorld). IfOk c.drawn_page.result (λ page. IsWorldPage c.args.face (world_term w) c.args.seat page.text)) c.self.view_is
    (page_shown c.self.inside.engine c.self.inside.budget c.self.inside.history c.self.inside.live c.self.inside.store
    c.self.inside.next c.args.face c.version.result c.args.seat c.drawn_page.result rest
    (c.version.ensures ∙ ap (λ (w : SeenWorld). version_of (history_term w.history)) (sym c.self.view_is)) c.drawn_page.ensures.page)

pub returns-clause-legal : goal.returns-clause-legal
returns-clause-legal g c =
    let w = world_term c.args.self.now in
    IfOk-weaker c.drawn_page.result (λ page. IsWorldPage c.args.face w c.args.seat page.text)
    (λ page. IsPage c.args.face (history_term c.args.self.now.history) c.args.seat page.text)
    (λ page q. standing_page c.args.face w c.args.seat page.text c.history-legal.ensures.standing q) (returns-clause-page g c)
