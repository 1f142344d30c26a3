use Rattle.std.proofs.Common.{sym, subst}
use Rattle.line_frame.specs.RanScript.{RanScript}
use Rattle.world_core.specs.World.{world_term}
use Rattle.journal_runs.specs.KeptLines.{TellsOverJournal}
use Rattle.journal_runs.specs.KeptRuns.{RunsKept}
use Rattle.journal_runs.proofs.RunLemmas.{Held, runs_kept}
use Rattle.journal_runs.proofs.running.run_on_journal.Goals as goal

pub returns-clause-ran : goal.returns-clause-ran
returns-clause-ran g c =
    subst (λ j. RanScript (TellsOverJournal 1048576 (world_term j.world) 1) 67108864 (g.I.Source.left c.args.input.now)
    (g.I.Source.left c.run_script-finish.new.input) (g.O.Sink.taken c.args.out.now) (g.O.Sink.taken c.run_script-finish.new.out) c.run_script-finish.result)
    c.new-keeper.ensures.journal c.run_script-finish.ensures.ran

pub returns-clause-kept : goal.returns-clause-kept
returns-clause-kept g c =
    let told = g.D.Disk.told in
    let keeper = c.new-keeper.result in
    let held : Held told g.met.D.Disk.keeps_time c.args.journal = record { free = c.requires; holds = c.world-held.ensures.settled c.requires } in
    subst (λ j. RunsKept told c.args.journal j (g.O.Sink.taken c.args.out.now) (g.O.Sink.taken c.run_script-finish.new.out)) (sym c.into_journal.ensures)
    (subst (λ j. RunsKept told j c.run_script-finish.new.machine.journal (g.O.Sink.taken c.args.out.now) (g.O.Sink.taken c.run_script-finish.new.out)) c.new-keeper.ensures.journal
    (runs_kept told g.met.D.Disk.keeps_time (λ k. k.journal) keeper c.run_script-finish.new.machine (g.O.Sink.taken c.args.out.now) (g.O.Sink.taken c.run_script-finish.new.out)
    (subst (λ j. Held told g.met.D.Disk.keeps_time j) (sym c.new-keeper.ensures.journal) held) c.run_script-finish.ensures.machine))
