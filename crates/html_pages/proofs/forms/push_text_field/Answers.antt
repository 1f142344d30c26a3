use Rattle.std.specs.Prelude.{string_bytes}
use Rattle.std.proofs.Common.{◌++◌, codes}
use Rattle.task_model.specs.Showing.Html.{html_escaped}
use Rattle.html_pages.proofs.Pieces.{on_ok, more}
use Rattle.html_pages.proofs.forms.push_text_field.Goals as goal

pub returns : goal.returns
returns c =
    let t = string_bytes c.args.text.now in
    let before = codes "<input type=\"hidden\" name=\"as\" value=\"raw\"><textarea name=\"value\">\n" in
    let shown = html_escaped c.args.shown.now in
    let one = more t before shown c.in_ok-push.ensures c.in_ok-push_escaped.ensures in
    on_ok c.push-2.result (λ last. more t (before ++ shown) (codes "</textarea>") one last) c.push-2.ensures
