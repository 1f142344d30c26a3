-- A record that is an entry's is read as the line that asks for it, and printed again.
use Rattle.std.proofs.Common.{◌≡◌, rules, sym, ◌∙◌, ap}
use Rattle.task_model.specs.Terms.Input.{entry_term}
use Rattle.input_lines.specs.ScriptLines.{gives, line_term}
use Rattle.input_lines.specs.EntryText.{entry_line}
use Rattle.journal_bytes.proofs.LineEnds.{bad_is_no_want, same_entry, nothing_is_no_entry, a_page_is_no_entry}
use Rattle.journal_bytes.proofs.entries.read_record.Goals as goal

pub returns-in-Ok-Blank-clause-bad : goal.returns-in-Ok-Blank-clause-bad
returns-in-Ok-Blank-clause-bad c stop e h =
    nothing_is_no_entry e (sym (ap line_term c.in-Ok-Blank.field-0-is) ∙ c.in-Ok-Blank.ensures.only (gives e) h.asks h.short)

pub returns-in-Ok-Show-clause-bad : goal.returns-in-Ok-Show-clause-bad
returns-in-Ok-Show-clause-bad c stop e h =
    a_page_is_no_entry _ e (sym (ap line_term c.in-Ok-Show.field-0-is) ∙ c.in-Ok-Show.ensures.only (gives e) h.asks h.short)

pub returns-in-Err-Bad-clause-bad : goal.returns-in-Err-Bad-clause-bad
returns-in-Err-Bad-clause-bad c stop e h =
    bad_is_no_want c.in-Err-Bad.field-0 _ c.in-Err-Bad.field-0-is (c.in-Err-Bad.ensures.only (gives e) h.asks h.short)

pub returns-else-eq-clause-bad : goal.returns-else-eq-clause-bad
returns-else-eq-clause-bad c stop e h =
    let same : entry_term c.in-Ok-Act.entry ≡ e =
    same_entry (entry_term c.in-Ok-Act.entry) e (sym (ap line_term c.in-Ok-Act.field-0-is) ∙ c.in-Ok-Act.ensures.only (gives e) h.asks h.short) in
    let again : c.in-Ok.record.list ≡ c.args.bytes.now = c.in-Ok.ensures ∙ (ap entry_line same ∙ sym h.line) in
    absurd (search rules)
