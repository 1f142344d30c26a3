use Rattle.std.proofs.Common.{refl}
use Rattle.clap.specs.Walk.{texts}
use Rattle.command_words.specs.Commands.{file_argument, run_in, run_options}
use Rattle.command_words.proofs.Given.{meant, refuses, run_fails}
use Rattle.command_words.proofs.reading.run.Goals as goal

pub returns-in-Ok : goal.returns-in-Ok
returns-in-Ok c = meant run_in (texts c.args.words.now) file_argument run_options refl run_fails c.in-Ok.found c.run_found.result
    c.in-Ok.ensures c.run_found.ensures

pub returns-in-Err : goal.returns-in-Err
returns-in-Err c = refuses run_in (texts c.args.words.now) file_argument run_options refl run_fails c.in-Err.stop c.in-Err.ensures
