use Rattle.input_lines.proofs.LawLemmas as law
use Rattle.input_lines.proofs.laws.printed_entry.Goals as goal

pub returns : goal.returns
returns c = law.printed_entry
