use Rattle.std.proofs.Common.{◌≡◌, List, ℕ, ◌+◌, take, inl, refl}
use Rattle.std.proofs.lemmas.Result.{IfOk-weaker}
use Rattle.task_model.specs.Terms.Text.{Text}
use Rattle.line_frame.specs.Told.{TellsFirst, TellsBad}
use Rattle.world_core.specs.World.{world_term}
use Rattle.input_lines.specs.ScriptLines.{line_term}
use Rattle.journal_runs.specs.KeptAnswers.{KeptAnswers}
use Rattle.journal_runs.specs.KeptLines.{TellsOverJournal}
use Rattle.journal_runs.specs.Moves.{Moves, Stops, TakesLine}
use Rattle.journal_runs.proofs.LineLemmas.{kept_first, bad_stop}
use Rattle.journal_runs.proofs.ResultLemmas.{answer_both, memory_not_bad, stop_alone}
use Rattle.journal_runs.proofs.keeper.KeeperMachine.run_line.Goals as goal

pub returns-in-Ok-clause-ok : goal.returns-in-Ok-clause-ok
returns-in-Ok-clause-ok g c =
    let old = world_term c.args.self.now.journal.world in
    let new = world_term c.answer.new.self.journal.world in
    IfOk-weaker c.answer.result (λ text. KeptAnswers old (line_term c.in-Ok.line) text.list new)
    (λ text. (whole : List ℕ) → c.args.line.now ≡ take (1048576 + 1) whole → TellsFirst (TellsOverJournal 1048576 old) (TellsOverJournal 1048576 new) whole text.list)
    (λ text a whole cut. kept_first 1048576 old new c.args.line.now whole text.list (line_term c.in-Ok.line) c.in-Ok.ensures.found cut a)
    c.answer.ensures.answers

pub returns-in-Ok-clause-bad : goal.returns-in-Ok-clause-bad
returns-in-Ok-clause-bad g c =
    memory_not_bad c.answer.result (λ column. (whole : List ℕ) → c.args.line.now ≡ take (1048576 + 1) whole
    → TellsBad (TellsOverJournal 1048576 (world_term c.args.self.now.journal.world)) whole column) c.answer.ensures.memory

pub returns-in-Ok-clause-takes : goal.returns-in-Ok-clause-takes
returns-in-Ok-clause-takes g c =
    let told = g.D.Disk.told in
    let old = c.args.self.now.journal in
    let new = c.answer.new.self.journal in
    answer_both c.answer.result (λ text. KeptAnswers (world_term old.world) (line_term c.in-Ok.line) text.list (world_term new.world))
    (λ _. Moves told old new) (λ text. TakesLine told old c.args.line.now text.list new)
    (λ text a m. record { asked = line_term c.in-Ok.line; is = c.in-Ok.ensures.found; answers = a; moves = m })
    c.answer.ensures.answers c.answer.ensures.moves

pub returns-in-Ok-clause-stops : goal.returns-in-Ok-clause-stops
returns-in-Ok-clause-stops g c =
    stop_alone c.answer.result (Stops g.D.Disk.told c.args.self.now.journal c.answer.new.self.journal) c.answer.ensures.stops

pub returns-in-Err-clause-bad : goal.returns-in-Err-clause-bad
returns-in-Err-clause-bad g c = bad_stop 1048576 (world_term c.args.self.now.journal.world) c.args.line.now c.in-Err.stop c.in-Err.ensures.bad

pub returns-in-Err-clause-stops : goal.returns-in-Err-clause-stops
returns-in-Err-clause-stops g c = inl (record { world = refl; disk = refl; closed = refl })
