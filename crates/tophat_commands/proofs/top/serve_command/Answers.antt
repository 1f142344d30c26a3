use Rattle.std.proofs.Common.{◌∙◌, subst}
use Rattle.outer_io.specs.Sink.{Wrote}
use Rattle.task_model.specs.Terms.Text.{Text}
use Rattle.tophat.specs.Ending.{text_of}
use Rattle.tophat.specs.Objects.{around}
use Rattle.tophat_commands.proofs.TopLemmas.{heard}
use Rattle.tophat_commands.proofs.top.serve_command.Goals as goal

pub returns : goal.returns
returns g c =
    let ending = c.serve_file-gate.result.ending in
    let told = c.serve_file-gate.ensures in (
      ending,
      c.status.ensures,
      heard (around g.E.Sink.taken g.E.Sink.faults c.args.err.now c.tell.new.err) (text_of c.args.file.now ending) c.tell.result
          (subst (λ (name : Text). Wrote (g.E.Sink.taken c.args.err.now) (g.E.Sink.taken c.tell.new.err) (text_of name ending) c.tell.result)
          (c.as_bytes.ensures.value ∙ c.as_str.ensures) c.tell.ensures.text)
          c.tell.ensures.failed,
      told.request,
      told.file_count,
      told.output_count,
      told.come,
    )
