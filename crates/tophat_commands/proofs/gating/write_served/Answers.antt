use Rattle.std.proofs.Common.{List, ◌++◌, subst, sym}
use Rattle.task_model.specs.Terms.Item.{ItemTerm, history_term}
use Rattle.task_model.specs.declared.item.Item.{Item}
use Rattle.history_lines.specs.EntryLines.{WroteEntries, entries_text}
use Rattle.tophat.specs.declared.ending.CommandEnding.{CommandEnding}
use Rattle.tophat_commands.specs.Courses.{WritesServed}
use Rattle.tophat_commands.proofs.Written.{served_written}
use Rattle.tophat_commands.proofs.gating.write_served.Goals as goal

pub returns-clause-wrote : goal.returns-clause-wrote
returns-clause-wrote g c = λ state line first is begun.
    let items : List ItemTerm = history_term c.args.served.now.closed.world.history in
    let mid = g.O.Sink.taken c.args.out.now in
    let new = g.O.Sink.taken c.write_entries-written.new.out in
    let written = c.write_entries-written.result in
    let went : WroteEntries mid new items written =
    subst (λ (h : List Item). WroteEntries mid new (history_term h) written) c.history.ensures.items c.write_entries-written.ensures.bytes in
    subst (λ (ending : CommandEnding). WritesServed state (line ++ entries_text items) first new ending) (sym c.end_of.ensures)
    (served_written state line items first mid new c.args.whole written is begun went)
