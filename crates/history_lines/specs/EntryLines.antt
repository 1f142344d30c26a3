-- The entries of a history as lines, and how they are written (docs/FORMATS.md, "Script lines").
use Rattle.std.specs.Prelude.{◌≡◌, ℕ, List, [], ◌∷◌, ◌++◌, Option}
use Rattle.std.specs.Io.KnownBytes.{Appends}
use Rattle.task_model.specs.Terms.Text.{Text}
use Rattle.task_model.specs.Terms.Input.{EntryTerm}
use Rattle.task_model.specs.Terms.Item.{ItemTerm, opened, took}
use Rattle.outer_io.specs.Causes.{next_count}
use Rattle.outer_io.specs.Sink.{IsStart}
use Rattle.input_lines.specs.EntryText.{entry_text}
use Rattle.history_lines.specs.declared.entries_written.EntriesWritten.{EntriesWritten}
use Rattle.history_lines.specs.declared.entries_written.EntriesWritten.TheVariants.{Whole, Failed, Memory}

-- the printed entries of a history, each with its LF
abbrev pub entries_text : List ItemTerm → Text
entries_text [] = []
entries_text (opened p budget ∷ items) = entries_text items
entries_text (took e ∷ items) = entry_text e ++ entries_text items

-- these items stand in front of an entry of the history
abbrev pub AreBeforeEntry : (first items : List ItemTerm) → Type 0
AreBeforeEntry first items = (e : EntryTerm) × (rest : List ItemTerm) × (items ≡ first ++ (took e ∷ rest))

-- all entries were written; or a first part of their lines, where a write failed; or the lines of those in front of an entry for which
-- memory ran out
abbrev pub WroteEntries : Option (List ℕ) → Option (List ℕ) → List ItemTerm → EntriesWritten → Type 0
WroteEntries old new items Whole = Appends old new (entries_text items)
WroteEntries old new items Failed = (part : List ℕ) × IsStart part (entries_text items) × Appends old new part
WroteEntries old new items Memory = (first : List ItemTerm) × AreBeforeEntry first items × Appends old new (entries_text first)

-- the count of faults after the writing of entries: one more exactly where a write failed
abbrev pub faults_after_entries : ℕ → EntriesWritten → ℕ
faults_after_entries before Whole = before
faults_after_entries before Failed = next_count before
faults_after_entries before Memory = before
