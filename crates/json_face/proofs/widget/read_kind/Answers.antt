use Rattle.std.proofs.Common.{◌≡◌, codes, sym, ap, ◌∙◌, rules}
use Rattle.task_model.specs.Showing.Page.{path_text}
use Rattle.json_face.specs.Fields.{left}
use Rattle.serde_json.specs.Data.{member, string}
use Rattle.json_face.proofs.KindLemmas.{pick_only}
use Rattle.json_face.proofs.widget.read_kind.Goals as goal

pub returns-in_err-path-in-pick-clause-bad : goal.returns-in_err-path-in-pick-clause-bad
returns-in_err-path-in-pick-clause-bad c =
    λ e path s h.
    let named : c.args.kind.now ≡ codes "pick" = search rules in
    let f = pick_only (left c.args.fields) (path_text path) s
    (ap (λ t. member (codes "kind") (string t) (left c.args.fields)) (sym named) ∙ h.are) in
    c.in_err-path-in-pick.ensures.bad (search (rules, e)) path f.0 f.1 f.2
