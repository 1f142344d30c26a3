use Rattle.std.proofs.Common.{◌≡◌, codes, map, take, ◌++◌}
use Rattle.clap.specs.Words.{app_of}
use Rattle.clap.specs.Walk.{texts}
use Rattle.command_words.specs.CommandTables.{app_with, option_rule, argument_rule}
use Rattle.command_words.proofs.matches.parser.Given as goal

abbrev pub invariant-loop-argument : goal.invariant-loop-argument
invariant-loop-argument l = app_of l.command ≡ app_with (codes "tophat") (map argument_rule (texts (take l.argument-index l.arguments)))

abbrev pub invariant-loop-option : goal.invariant-loop-option
invariant-loop-option l = app_of l.command
    ≡ app_with (codes "tophat") (map argument_rule (texts l.fn.arguments) ++ map option_rule (texts (take l.option-index l.options)))
