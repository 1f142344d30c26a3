use Rattle.std.proofs.Common.{refl}
use Rattle.clap.specs.Walk.{texts}
use Rattle.command_words.specs.Commands.{file_argument, serve_in, serve_options}
use Rattle.command_words.proofs.Given.{meant, refuses, serve_fails}
use Rattle.command_words.proofs.reading.serve.Goals as goal

pub returns-in-Ok : goal.returns-in-Ok
returns-in-Ok c = meant serve_in (texts c.args.words.now) file_argument serve_options refl serve_fails c.in-Ok.found c.serve_found.result
    c.in-Ok.ensures c.serve_found.ensures

pub returns-in-Err : goal.returns-in-Err
returns-in-Err c = refuses serve_in (texts c.args.words.now) file_argument serve_options refl serve_fails c.in-Err.stop c.in-Err.ensures
