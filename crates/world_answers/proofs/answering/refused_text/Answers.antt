use Rattle.std.proofs.Common.{Err, ◌≡◌, subst}
use Rattle.std.proofs.lemmas.Result.{IfOk-weaker}
use Rattle.input_lines.specs.ScriptLines.{gives}
use Rattle.world_core.specs.World.{Replies}
use Rattle.world_answers.specs.LineAnswers.{not_offered_text, over_budget_text}
use Rattle.world_answers.specs.LineAnswers.{Answers}
use Rattle.world_answers.proofs.AnswerLemmas.{refused_answers, over_answers}
use Rattle.world_answers.proofs.answering.refused_text.Goals as goal

pub returns-in-NotOffered : goal.returns-in-NotOffered
returns-in-NotOffered c = λ w e new r v.
    IfOk-weaker c.not_offered_line.result (λ row. row.list ≡ not_offered_text c.args.form c.args.version)
    (λ row. Answers c.args.form w (gives e) row.list new)
    (λ row is. refused_answers c.args.form w e new c.args.version row.list
    (subst (λ stop. Replies w e new (Err stop)) c.in-NotOffered.is r) v is) c.not_offered_line.ensures

pub returns-in-Over : goal.returns-in-Over
returns-in-Over c = λ w e new r v.
    IfOk-weaker c.over_budget_line.result (λ row. row.list ≡ over_budget_text c.args.form c.args.version)
    (λ row. Answers c.args.form w (gives e) row.list new)
    (λ row is. over_answers c.args.form w e new c.args.version row.list
    (subst (λ stop. Replies w e new (Err stop)) c.in-Over.is r) v is) c.over_budget_line.ensures
