use Rattle.std.specs.Prelude.{string_bytes}
use Rattle.std.proofs.Common.{◌++◌, codes, ap, ◌∙◌}
use Rattle.task_model.specs.Terms.Text.{Text}
use Rattle.task_model.specs.Terms.Basic.{basic_term}
use Rattle.task_model.specs.Showing.Html.{editor_fields, form_text, html_escaped, paragraph}
use Rattle.html_pages.specs.FormParts.{form_start, form_end}
use Rattle.html_pages.proofs.Pieces.{on_ok, more, form_parts}
use Rattle.html_pages.proofs.forms.push_editor.Goals as goal

pub returns : goal.returns
returns c =
    let path = c.args.path.now in
    let line = paragraph (path ++ codes " " ++ c.args.word.now ++ codes " " ++ c.args.name.now) in
    let start = form_start path (codes "set") in
    let fields = editor_fields (basic_term c.args.b.now) (html_escaped c.args.shown.now) in
    let x = string_bytes c.push_editor_line.new.text in
    let form = more x start fields c.in_ok-push_form.ensures c.in_ok-push_fields.ensures in
    rw (← c.requires) (on_ok c.push_button.result
    (λ last. more (string_bytes c.args.text.now) line (form_text path (codes "set") fields (codes "set")) c.in_ok-push_editor_line.ensures
    (more x (start ++ fields) (form_end (codes "set")) form last
    ∙ ap (λ (l : Text). x ++ l) (form_parts path (codes "set") fields (codes "set"))))
    c.push_button.ensures)
