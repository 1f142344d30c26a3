use Rattle.std.proofs.Common.{refl, []}
use Rattle.clap.specs.Walk.{texts}
use Rattle.command_words.specs.Commands.{check_in, file_argument}
use Rattle.command_words.proofs.Given.{meant, no_options, refuses}
use Rattle.command_words.proofs.reading.check.Goals as goal

pub returns-in-Ok : goal.returns-in-Ok
returns-in-Ok c = meant check_in (texts c.args.words.now) file_argument [] refl
    (no_options check_in) c.in-Ok.found c.check_found.result c.in-Ok.ensures c.check_found.ensures

pub returns-in-Err : goal.returns-in-Err
returns-in-Err c = refuses check_in (texts c.args.words.now) file_argument [] refl (no_options check_in) c.in-Err.stop c.in-Err.ensures
