use Rattle.std.proofs.Common.{sym, ◌∙◌}
use Rattle.host_eval.proofs.CharacterLemmas.{first_more, next_more}
use Rattle.host_eval.proofs.characters.+first_size.Goals as goal

pub returns-else-starts-clause-first : goal.returns-else-starts-clause-first
returns-else-starts-clause-first t c = first_more c.args.bytes.now c.first_size.result c.requires (sym c.starts.ensures ∙ c.if-starts.false)
    c.first_size.ensures.first

pub returns-else-starts-clause-next : goal.returns-else-starts-clause-next
returns-else-starts-clause-next t c = next_more c.args.bytes.now c.first_size.result c.first_size.ensures.next
