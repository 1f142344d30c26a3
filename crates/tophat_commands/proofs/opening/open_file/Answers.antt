use Rattle.std.proofs.Common.{subst}
use Rattle.task_model.specs.Terms.Text.{Text}
use Rattle.tophat.specs.Top.{limits}
use Rattle.tophat_commands.specs.ServedFiles.{IsNotOpened}
use Rattle.tophat_commands.proofs.OpeningLemmas.{no_opening}
use Rattle.tophat_commands.proofs.opening.open_file.Goals as goal

pub returns-in-Ok-clause-none : goal.returns-in-Ok-clause-none
returns-in-Ok-clause-none g c =
    no_opening limits.file c.args.budget (g.F.Files.holds c.args.files.now c.args.name.now) c.in-Ok.bytes.list c.in-Err-open_bytes.why
    c.in-Ok.ensures.file.0 c.in-Ok.ensures.file.1
    (subst (λ (b : Text). IsNotOpened c.args.budget b c.in-Err-open_bytes.why) c.as_slice.ensures c.in-Err-open_bytes.ensures.none)
