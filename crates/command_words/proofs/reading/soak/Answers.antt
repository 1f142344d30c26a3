use Rattle.std.proofs.Common.{refl, []}
use Rattle.clap.specs.Walk.{texts}
use Rattle.command_words.specs.Commands.{soak_in, soak_arguments}
use Rattle.command_words.proofs.Given.{meant, no_options, refuses}
use Rattle.command_words.proofs.reading.soak.Goals as goal

pub returns-in-Ok : goal.returns-in-Ok
returns-in-Ok c = meant soak_in (texts c.args.words.now) soak_arguments [] refl
    (no_options soak_in) c.in-Ok.found c.soak_found.result c.in-Ok.ensures c.soak_found.ensures

pub returns-in-Err : goal.returns-in-Err
returns-in-Err c = refuses soak_in (texts c.args.words.now) soak_arguments [] refl (no_options soak_in) c.in-Err.stop c.in-Err.ensures
