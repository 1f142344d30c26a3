use Rattle.std.proofs.Common.{refl, []}
use Rattle.clap.specs.Walk.{texts}
use Rattle.command_words.specs.Commands.{drill_in, drill_arguments}
use Rattle.command_words.proofs.Given.{meant, no_options, refuses}
use Rattle.command_words.proofs.reading.drill.Goals as goal

pub returns-in-Ok : goal.returns-in-Ok
returns-in-Ok c = meant drill_in (texts c.args.words.now) drill_arguments [] refl
    (no_options drill_in) c.in-Ok.found c.drill_found.result c.in-Ok.ensures c.drill_found.ensures

pub returns-in-Err : goal.returns-in-Err
returns-in-Err c = refuses drill_in (texts c.args.words.now) drill_arguments [] refl (no_options drill_in) c.in-Err.stop c.in-Err.ensures
