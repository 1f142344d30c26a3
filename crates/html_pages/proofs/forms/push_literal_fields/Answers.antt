use Rattle.std.specs.Prelude.{string_bytes}
use Rattle.std.proofs.Common.{◌++◌, codes}
use Rattle.task_model.specs.Showing.Html.{html_escaped}
use Rattle.html_pages.proofs.Pieces.{on_ok, more}
use Rattle.html_pages.proofs.forms.push_literal_fields.Goals as goal

pub returns : goal.returns
returns c =
    let t = string_bytes c.args.text.now in
    let shown = html_escaped c.args.shown.now in
    let before = codes "<input type=\"hidden\" name=\"as\" value=\"" in
    let between = codes "\"><input name=\"value\" value=\"" in
    let one = more t before c.args.name.now c.in_ok-push.ensures c.in_ok-push-2.ensures in
    let two = more t (before ++ c.args.name.now) between one c.in_ok-push-3.ensures in
    let three = more t (before ++ c.args.name.now ++ between) shown two c.in_ok-push_escaped.ensures in
    on_ok c.push-4.result (λ last. more t (before ++ c.args.name.now ++ between ++ shown) (codes "\">") three last) c.push-4.ensures
