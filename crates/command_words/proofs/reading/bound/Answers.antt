use Rattle.std.proofs.Common.{refl, []}
use Rattle.clap.specs.Walk.{texts}
use Rattle.command_words.specs.Commands.{bound_in, file_argument}
use Rattle.command_words.proofs.Given.{meant, no_options, refuses}
use Rattle.command_words.proofs.reading.bound.Goals as goal

pub returns-in-Ok : goal.returns-in-Ok
returns-in-Ok c = meant bound_in (texts c.args.words.now) file_argument [] refl
    (no_options bound_in) c.in-Ok.found c.bound_found.result c.in-Ok.ensures c.bound_found.ensures

pub returns-in-Err : goal.returns-in-Err
returns-in-Err c = refuses bound_in (texts c.args.words.now) file_argument [] refl (no_options bound_in) c.in-Err.stop c.in-Err.ensures
