use Rattle.std.proofs.Common.{rules, ◌≡◌, ◌∙◌, ap, ap₂, codes, map, get_or, []}
use Rattle.clap.specs.Words.{with_rule}
use Rattle.std.specs.Borrow.{Bor}
use Rattle.clap.specs.Walk.{Text, texts, rule_of}
use Rattle.command_words.specs.CommandTables.{app_with, option_rule, argument_rule}
use Rattle.command_words.proofs.Made.{rules_after, rules_more}
use Rattle.command_words.proofs.matches.parser.Goals as goal

pub loop-argument-preserved : goal.loop-argument-preserved
loop-argument-preserved c =
    let i = c.loop-argument.argument-index in
    let xs = c.args.arguments.now in
    let d : Bor Text = record { ref_ptr = (0, 0); now = [] } in
    let rule : rule_of c.required.result ≡ argument_rule (get_or xs i d).now = search rules in
    c.in_ok-command.ensures.shape (search rules) ∙ ap₂ with_rule c.loop-argument.invariant rule
    ∙ ap (app_with (codes "tophat")) (rules_more argument_rule xs i d c.loop-argument-test.true)

pub loop-option-preserved : goal.loop-option-preserved
loop-option-preserved c =
    let i = c.loop-option.option-index in
    let xs = c.args.options.now in
    let d : Bor Text = record { ref_ptr = (0, 0); now = [] } in
    let rule : rule_of c.long.result ≡ option_rule (get_or xs i d).now = search rules in
    c.in_ok-command-2.ensures.shape (search rules) ∙ ap₂ with_rule c.loop-option.invariant rule
    ∙ ap (app_with (codes "tophat")) (rules_after (map argument_rule (texts c.args.arguments.now)) option_rule xs i d c.loop-option-test.true)
