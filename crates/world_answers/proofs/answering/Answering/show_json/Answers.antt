use Rattle.std.proofs.Common.{◌≡◌, ◌∙◌, map, ap}
use Rattle.std.proofs.lemmas.Result.{IfOk-weaker}
use Rattle.task_model.specs.Showing.Widget.{widget_term}
use Rattle.input_lines.specs.ScriptLines.{shows}
use Rattle.world_core.specs.World.{world_term}
use Rattle.json_face.specs.JsonPages.{page_data}
use Rattle.world_answers.specs.LineAnswers.{json_line}
use Rattle.world_answers.specs.LineAnswers.{Answers}
use Rattle.world_answers.specs.declared.line_form.LineForm.TheVariants.{Json}
use Rattle.world_answers.proofs.answering.Answering.show_json.Goals as goal

pub returns-clause-answers : goal.returns-clause-answers
returns-clause-answers g c =
    let w = world_term c.args.self.now.world in
    let ws = map widget_term c.in_ok-widgets.widgets.list in
    IfOk-weaker c.page_line.result (λ row. row.list ≡ json_line (page_data c.version-version.result c.args.seat ws))
    (λ row. Answers Json w (shows c.args.seat) row.list (world_term c.widgets.new.self))
    (λ row is. (
      (ws, c.in_ok-widgets.ensures.widgets, is ∙ ap (λ n. json_line (page_data n c.args.seat ws)) c.version-version.ensures),
      ap world_term c.in_ok-widgets.ensures.world,
    )) c.page_line.ensures
