use Rattle.std.proofs.Common.{◌∙◌, sym, true≢false}
use Rattle.command_words.specs.Commands.{command_of}
use Rattle.tophat.proofs.PromiseLemmas.{needs_more, only_memory}
use Rattle.tophat.proofs.commands.plain.Goals as goal

pub returns-then-is_plain-clause-other : goal.returns-then-is_plain-clause-other
returns-then-is_plain-clause-other g c =
    only_memory c.read_command-asked.result (command_of c.args.words.now) c.perform.result _ _ _ c.read_command-asked.ensures.asked
    (c.is_plain.ensures.0 c.if-is_plain.true) c.perform.ensures.unasked

pub returns-then-is_plain-clause-answered : goal.returns-then-is_plain-clause-answered
returns-then-is_plain-clause-answered g c =
    c.perform.ensures.fulfils (command_of c.args.words.now) c.read_command-asked.ensures.asked

pub returns-clause-other : goal.returns-clause-other
returns-clause-other g c =
    needs_more c.read_command-asked.result (command_of c.args.words.now) c.read_command-asked.ensures.asked
    (λ plain. true≢false (sym (c.is_plain.ensures.1 plain) ∙ c.if-is_plain.false))
