use Rattle.std.proofs.Common.{subst}
use Rattle.command_words.specs.Commands.{IsAsked}
use Rattle.tophat.specs.Top.{limits, named}
use Rattle.tophat.proofs.WorkLemmas.{worked_words}
use Rattle.tophat.proofs.work.work.Goals as goal

pub returns-in-Err-clause-worked : goal.returns-in-Err-clause-worked
returns-in-Err-clause-worked g c = λ command asked.
    rw c.unasked.ensures (worked_words limits command (g.F.Files.holds c.args.files.now (named command)) (g.I.Source.left c.args.input.now)
    (g.O.Sink.taken c.args.out.now) c.in-Err.stop (subst (IsAsked command) c.in-Err.is asked))
