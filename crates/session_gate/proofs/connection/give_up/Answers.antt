use Rattle.std.proofs.Common.{ap, ◌∙◌}
use Rattle.session_gate.specs.DeskAnswers.{memory_note}
use Rattle.session_gate.proofs.RoundLemmas.{round_memory, round_memory_cut}
use Rattle.session_gate.proofs.connection.give_up.Goals as goal

pub returns-in-Whole : goal.returns-in-Whole
returns-in-Whole g c = λ left kept. round_memory c.requires.legal
    (c.out_of_memory-ready.ensures.note ∙ ap memory_note c.seen.ensures)
    (c.as_slice.ensures ∙ c.out_of_memory-ready.ensures.bytes) c.add.ensures c.in-Whole.ensures

pub returns : goal.returns
returns g c = λ left kept. round_memory_cut c.requires.legal
    (c.out_of_memory-ready.ensures.note ∙ ap memory_note c.seen.ensures)
    (c.as_slice.ensures ∙ c.out_of_memory-ready.ensures.bytes) c.add.ensures c.in-Failed.ensures
