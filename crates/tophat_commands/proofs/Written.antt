-- What is written of a served gate.
use Rattle.std.proofs.Common.{◌≡◌, ℕ, List, [], ◌∷◌, ◌++◌, Option, Some, refl, sym, ap, ◌∙◌, append_assoc}
use Rattle.std.specs.Io.KnownBytes.{Appends}
use Rattle.std.proofs.KnownBytes.{Appends-trans}
use Rattle.outer_io.specs.Sink.{IsStart}
use Rattle.task_model.specs.Terms.Text.{Text}
use Rattle.outer_gates.specs.Gates.{GateTold}
use Rattle.task_model.specs.Terms.Item.{ItemTerm, history_term, opened, took}
use Rattle.command_words.specs.Commands.{ServeTerm}
use Rattle.input_lines.specs.EntryText.{entry_text}
use Rattle.history_lines.specs.EntryLines.{WroteEntries, entries_text, faults_after_entries}
use Rattle.history_lines.specs.declared.entries_written.EntriesWritten.{EntriesWritten}
use Rattle.history_lines.specs.declared.entries_written.EntriesWritten.TheVariants as entries
use Rattle.task_server.specs.Results.{IsServedTo}
use Rattle.task_server.specs.declared.gate_state.GateState.{GateState}
use Rattle.task_server.specs.declared.serving.Served.{Served}
use Rattle.tophat.specs.Ended.{output_faults_after}
use Rattle.tophat.specs.declared.ending.CommandEnding.{CommandEnding}
use Rattle.tophat.specs.declared.ending.CommandEnding.TheVariants as endings
use Rattle.tophat_commands.specs.Courses.{IsEndOfAll, IsServedWhole, TakesPart, WritesServed, end_of_entries, serve_text}

-- the entries of a first part of a history stand in front of the others
entries_append : (first more : List ItemTerm) → entries_text (first ++ more) ≡ entries_text first ++ entries_text more
entries_append [] more = refl
entries_append (opened p budget ∷ items) more = entries_append items more
entries_append (took e ∷ items) more =
    ap (λ (t : Text). entry_text e ++ t) (entries_append items more) ∙ sym (append_assoc (entry_text e) (entries_text items) (entries_text more))

-- a first part behind a line
behind_line : (line part text : Text) → IsStart part text → IsStart (line ++ part) (line ++ text)
behind_line line part text s = (s.0, ap (λ (t : Text). line ++ t) s.1 ∙ sym (append_assoc line part s.0))

-- a line was taken, and then a first part of a text
pub part_behind : (line part text : Text) (first mid new : Option Text) → IsStart part text → Appends first mid line → Appends mid new part
    → TakesPart (line ++ text) first new
part_behind line part text first mid new s begun went = (line ++ part, behind_line line part text s, Appends-trans first mid new line part begun went)

-- the end where all was written
whole_written : (state : GateState) (text : Text) (first new : Option Text) (whole : CommandEnding) → IsEndOfAll state whole → Appends first new text
    → WritesServed state text first new whole
whole_written state text first new endings.Wrote is appends = (is, appends)
whole_written state text first new endings.GateFault is appends = (is, appends)
whole_written state text first new endings.Usage is appends = absurd is
whole_written state text first new endings.Absent is appends = absurd is
whole_written state text first new endings.FileTooLong is appends = absurd is
whole_written state text first new endings.FileFault is appends = absurd is
whole_written state text first new (endings.Unopened why) is appends = absurd is
whole_written state text first new (endings.Ran finish) is appends = absurd is
whole_written state text first new endings.WriteFault is appends = absurd is

-- the entries were written behind a line
pub served_written : (state : GateState) (line : Text) (items : List ItemTerm) (first mid new : Option Text) (whole : CommandEnding)
    (written : EntriesWritten) → IsEndOfAll state whole → Appends first mid line → WroteEntries mid new items written
    → WritesServed state (line ++ entries_text items) first new (end_of_entries whole written)
served_written state line items first mid new whole entries.Whole is begun went =
    whole_written state (line ++ entries_text items) first new whole is (Appends-trans first mid new line (entries_text items) begun went)
served_written state line items first mid new whole entries.Failed is begun went =
    part_behind line went.0 (entries_text items) first mid new went.1 begun went.2
served_written state line items first mid new whole entries.Memory is begun went =
    let (e, rest, all) = went.1 in
    part_behind line (entries_text went.0) (entries_text items) first mid new
    (entries_text (took e ∷ rest), ap entries_text all ∙ entries_append went.0 (took e ∷ rest)) begun went.2

-- the count after the entries were written
pub served_count : (state : GateState) (before : ℕ) (whole : CommandEnding) (written : EntriesWritten) → IsEndOfAll state whole
    → faults_after_entries before written ≡ output_faults_after before (end_of_entries whole written)
served_count state before endings.Wrote entries.Whole is = refl
served_count state before endings.GateFault entries.Whole is = refl
served_count state before endings.Usage entries.Whole is = absurd is
served_count state before endings.Absent entries.Whole is = absurd is
served_count state before endings.FileTooLong entries.Whole is = absurd is
served_count state before endings.FileFault entries.Whole is = absurd is
served_count state before (endings.Unopened why) entries.Whole is = absurd is
served_count state before (endings.Ran finish) entries.Whole is = absurd is
served_count state before endings.WriteFault entries.Whole is = absurd is
served_count state before whole entries.Failed is = refl
served_count state before whole entries.Memory is = refl

-- a gate that was served, by its answer and by what was written of the closed history
pub course_whole : (start : List ItemTerm) (asked : ServeTerm) (entry now : GateTold) (first new : Option Text) (state : GateState)
    (served : Served) (ending : CommandEnding) → IsServedTo start asked.seats 0 asked.connections entry now state served
    → WritesServed state (serve_text asked.port (history_term served.closed.world.history)) first new ending
    → IsServedWhole start asked entry now first new (Some served.closed) ending
course_whole start asked entry now first new state served ending is wrote = record {
  state = state;
  world = served.closed;
  connections = served.connections;
  closed_is = refl;
  rest = is.rest;
  served = is.is;
  wrote = wrote;
}
