use Rattle.std.proofs.Common.{map, ap, ◌∙◌, arith}
use Rattle.std.proofs.lemmas.List.{take_all}
use Rattle.task_model.specs.Showing.Widget.{widget_term}
use Rattle.task_model.specs.declared.widget.Widget.{Widget}
use Rattle.serde_json.specs.Data.{Data}
use Rattle.serde_json.specs.View.{items_of}
use Rattle.json_face.specs.JsonPages.{widget_data}
use Rattle.json_face.proofs.PageLemmas.{items_of-widgets}
use Rattle.json_face.proofs.write.widgets_json.Goals as goal

pub returns : goal.returns
returns c =
    let f : Widget → Data = λ w. widget_data (widget_term w) in
    let l = c.loop-w in
    ap items_of (l.invariant ∙ ap (map f) (take_all l.w-index c.args.widgets.now (omega (arith, c.loop-w-test.false))))
    ∙ items_of-widgets c.args.widgets.now
