use Rattle.std.proofs.Common.{◌≡◌, map}
use Rattle.std.proofs.lemmas.Result.{IfOk-weaker}
use Rattle.task_model.specs.Terms.Value.{value_term}
use Rattle.task_model.specs.Terms.Tree.{tree_term, at}
use Rattle.task_model.specs.Running.Checked.{checked_term}
use Rattle.html_pages.specs.Fragments.{face_text}
use Rattle.world_core.specs.Pages.{IsStatePage}
use Rattle.world_core.proofs.KeptLemmas.{tree_shown}
use Rattle.world_core.proofs.drawing.drawn_page.Goals as goal

pub returns-clause-page : goal.returns-clause-page
returns-clause-page g c =
    let shown = tree_shown (checked_term c.args.engine.now) c.args.budget (map value_term c.args.store.now.list) c.args.live.now c.draw.new.self
    c.fragments.result.now c.in_ok-draw.ensures.tree c.fragments.ensures c.in_ok-draw.ensures.live in
    IfOk-weaker c.frame_behind_room.result (λ page. page.text ≡ face_text c.args.framing.face c.args.framing.version c.args.framing.seat shown.0)
    (λ page. IsStatePage (checked_term c.args.engine.now) c.args.budget
    (at (tree_term c.args.live.now.tree) (map value_term c.args.store.now.list)) c.args.framing.face c.args.framing.version c.args.framing.seat
    page.text)
    (λ page q. (shown.0, shown.1, q)) (c.frame_behind_room.ensures.text shown.0 shown.2)
