use Rattle.std.proofs.Common.{rules, ◌≡◌, ◌∙◌, sym, ap}
use Rattle.task_model.specs.Terms.Program.{program_term}
use Rattle.task_model.specs.Syntax.Printed.{program_text}
use Rattle.task_model.specs.Running.Checked.{checked_term}
use Rattle.history_journal.proofs.Openings.{no_text_read, no_text_printed, no_text_typed, text_of, no_memory, no_check_memory}
use Rattle.history_journal.proofs.replaying.printed_program.Goals as goal

pub returns-in-Err-Fault-clause-bad : goal.returns-in-Err-Fault-clause-bad
returns-in-Err-Fault-clause-bad c is =
    no_text_read c.args.text.now c.in-Err-Fault.field-0 (λ q places t. c.in-Err-Fault.ensures.only q places t)
    (no_memory _ _ c.in-Err-Fault.field-0 c.in-Err-Fault.field-0-is)

pub returns-then-ne-clause-bad : goal.returns-then-ne-clause-bad
returns-then-ne-clause-bad c is =
    no_text_printed c.args.text.now (program_term c.in-Ok.field-0.program) c.in-Ok.field-0.places.list c.in-Ok.ensures.found c.in-Ok.ensures.only
    c.in-Ok-print_program.printed c.in-Ok-print_program.ensures.text
    (λ same. let again : c.as_bytes.result.now ≡ c.args.text.now = c.as_bytes.ensures.value ∙ (c.as_str.ensures ∙ same) in absurd (search rules))

pub returns-in-Ok-check-clause-ok : goal.returns-in-Ok-check-clause-ok
returns-in-Ok-check-clause-ok c =
    let again : c.as_bytes.result.now ≡ c.args.text.now = search rules in
    text_of c.args.text.now (program_term c.in-Ok.field-0.program) c.in-Ok.field-0.places.list c.in-Ok.ensures.found c.in-Ok.ensures.only
    (checked_term c.in-Ok-check.checked)
    (sym again ∙ (c.as_bytes.ensures.value ∙ (c.as_str.ensures ∙ c.in-Ok-print_program.ensures.text)))
    (ap program_term c.in-Ok-check.ensures.program) c.in-Ok-check.ensures.accepted

pub returns-in-Err-Fault-check-clause-bad : goal.returns-in-Err-Fault-check-clause-bad
returns-in-Err-Fault-check-clause-bad c is =
    no_text_typed c.args.text.now (program_term c.in-Ok.field-0.program) c.in-Ok.field-0.places.list c.in-Ok.ensures.found c.in-Ok.ensures.only
    (λ none. no_check_memory _ _ c.in-Err-Fault-check.field-0 c.in-Err-Fault-check.field-0-is (c.in-Err-Fault-check.ensures.only none))
