use Rattle.std.proofs.Common.{◌≡◌, subst}
use Rattle.std.proofs.lemmas.Result.{IfOk-weaker}
use Rattle.input_lines.specs.ScriptLines.{gives}
use Rattle.world_core.specs.World.{Replies}
use Rattle.world_answers.specs.LineAnswers.{taken_text}
use Rattle.world_answers.specs.LineAnswers.{Answers}
use Rattle.world_answers.proofs.AnswerLemmas.{taken_answers}
use Rattle.world_answers.proofs.answering.reply_text.Goals as goal

pub returns-in-Ok : goal.returns-in-Ok
returns-in-Ok c = λ w e new r v.
    IfOk-weaker c.taken_line.result (λ row. row.list ≡ taken_text c.args.form c.in-Ok.taken.version)
    (λ row. Answers c.args.form w (gives e) row.list new)
    (λ row is. taken_answers c.args.form w e new c.in-Ok.taken row.list (subst (Replies w e new) c.in-Ok.is r) is) c.taken_line.ensures

pub returns-in-Err : goal.returns-in-Err
returns-in-Err c = λ w e new r v. c.refused_text.ensures w e new (subst (Replies w e new) c.in-Err.is r) v
