use Rattle.std.proofs.Common.{refl}
use Rattle.clap.specs.Walk.{texts}
use Rattle.command_words.specs.Commands.{file_argument, json_in, run_options}
use Rattle.command_words.proofs.Given.{meant, refuses, json_fails}
use Rattle.command_words.proofs.reading.json.Goals as goal

pub returns-in-Ok : goal.returns-in-Ok
returns-in-Ok c = meant json_in (texts c.args.words.now) file_argument run_options refl json_fails c.in-Ok.found c.json_found.result
    c.in-Ok.ensures c.json_found.ensures

pub returns-in-Err : goal.returns-in-Err
returns-in-Err c = refuses json_in (texts c.args.words.now) file_argument run_options refl json_fails c.in-Err.stop c.in-Err.ensures
