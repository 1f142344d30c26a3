-- Lines may be read from several threads at once.
use denote.Param.Send.{IsSync, sendable}
use denote.Param.SendFields.{FieldsHave, VariantsHave, declared_sync, variants_sync}
use Rattle.std.proofs.Crossing.{crosses}
use Rattle.task_model.specs.contracts.input.Entry as entry
use Rattle.task_model.proofs.text.TaskText.TheSendSync as texts
use Rattle.task_model.proofs.turns.Turns.TheSendSync as turns
use Rattle.task_model.proofs.value.Value.TheLaws.TheKnot as values
use Rattle.hub_lines.specs.contracts.hub_line.HubLine as hub_line
use Rattle.input_lines.specs.contracts.line.Line as line

entry_sync : IsSync entry.the_row
entry_sync = search (texts.the_send, texts.the_sync, turns.the_sync, crosses, values.crosses_both, sendable) depth 60 fits 20000

line_sync : IsSync line.the_row
line_sync =
    let parts : VariantsHave IsSync line.enum.parts = (tt, ((search sendable, tt), ((entry_sync, tt), tt))) in
    variants_sync line.enum parts

pub hub_line_sync : IsSync hub_line.the_row
hub_line_sync =
    let parts : FieldsHave IsSync hub_line.the_type.parts = (search sendable, (line_sync, tt)) in
    declared_sync hub_line.the_type parts
