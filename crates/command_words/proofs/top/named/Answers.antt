use Rattle.command_words.proofs.Ranges.{asked_in_range}
use Rattle.command_words.proofs.top.named.Goals as goal

pub returns-in-Ok-clause-ranges : goal.returns-in-Ok-clause-ranges
returns-in-Ok-clause-ranges c = search (asked_in_range, c.by_name.ensures)
