use Rattle.std.specs.Str.{IsUtf8}
use Rattle.std.proofs.Common.{◌≡◌, Some, map, ap, sym, ◌∙◌, subst, arith}
use Rattle.std.proofs.lemmas.Result.{IfOk-weaker}
use Rattle.task_model.specs.Showing.Widget.{widget_term}
use Rattle.serde_json.specs.Data.{depth}
use Rattle.serde_json.specs.Read.{read}
use Rattle.serde_json.specs.View.{view}
use Rattle.serde_json.specs.Written.{compact_text, has_float}
use Rattle.task_model.specs.Terms.Text.{Text}
use Rattle.json_face.specs.JsonPages.{page_data, page_with, widgets_data, json_page_term, IsJsonPage}
use Rattle.json_face.proofs.PageLemmas.{page_no_float, page_depth}
use Rattle.json_face.proofs.write.write_page.Goals as goal

pub returns-clause-text : goal.returns-clause-text
returns-clause-text c =
    let p = c.args.p.now in
    let ws = map widget_term p.widgets.list in
    let items = c.in_ok-widgets.ensures ∙ ap (λ l. widgets_data (map widget_term l)) c.as_slice.ensures in
    let seen : view c.in_ok-page.page ≡ page_data p.version p.seat ws = c.in_ok-page.ensures ∙ ap (page_with p.version p.seat) items in
    let plain = ap has_float seen ∙ page_no_float p.version p.seat ws in
    IfOk-weaker c.of.result (λ (t : Text). t ≡ c.as_str.result.now)
    (λ (t : Text). t ≡ compact_text (page_data p.version p.seat ws)) (λ t is. is ∙ c.as_str.ensures.value ∙ c.in_ok-text.ensures.text plain ∙ ap compact_text seen) c.of.ensures

pub returns-clause-reads : goal.returns-clause-reads
returns-clause-reads c =
    let p = c.args.p.now in
    let ws = map widget_term p.widgets.list in
    let items = c.in_ok-widgets.ensures ∙ ap (λ l. widgets_data (map widget_term l)) c.as_slice.ensures in
    let seen : view c.in_ok-page.page ≡ page_data p.version p.seat ws = c.in_ok-page.ensures ∙ ap (page_with p.version p.seat) items in
    λ fits.
    let low = page_depth p.version p.seat ws fits.widgets in
    let back = c.in_ok-text.ensures.reads_back (omega (arith, low, ap depth seen)) ∙ ap Some seen in
    IfOk-weaker c.of.result (λ (t : Text). t ≡ c.as_str.result.now) (λ (t : Text). IsJsonPage t (json_page_term p)) (λ t is. record {
      utf8 = subst IsUtf8 (sym is) c.as_str.utf8;
      reads = ap read (is ∙ c.as_str.ensures.value) ∙ back;
      fits = fits;
    }) c.of.ensures
