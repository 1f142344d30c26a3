use Rattle.std.proofs.Common.{refl}
use Rattle.history_lines.specs.EntryLines.{entries_text}
use Rattle.tophat_commands.proofs.AgainLemmas.{served_again}
use Rattle.tophat_commands.proofs.laws.served_histories_are_replayed.Goals as goal

pub returns-clause-script : goal.returns-clause-script
returns-clause-script k = λ port seat history. (entries_text history, refl, refl)

pub returns-clause-again : goal.returns-clause-again
returns-clause-again k = λ name bytes page budget seats connections stated seat start history entry now state taken opened served within shown.
    served_again name bytes budget start history seat page opened served.closed.legal served.closed.begins within shown
