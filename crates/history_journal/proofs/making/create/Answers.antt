-- Why no journal was made, and what one keeps that was made.
use Rattle.std.proofs.Common.{rules, ◌-◌, ◌<◌, ◌≤◌, ◌∷◌, ◌++◌, [], length, sym, ◌∙◌, ap, subst, refl, List, ℕ, decimal, arith}
use Rattle.std.specs.Option.{option_map}
use Rattle.task_model.specs.Terms.Program.{program_term}
use Rattle.task_model.specs.Syntax.Printed.{program_text}
use Rattle.task_model.specs.Running.Checked.{CheckedTerm, checked_term}
use Rattle.journal_bytes.specs.Records.{open_records}
use Rattle.world_core.specs.World.{world_term, next_term}
use Rattle.history_journal.proofs.Makes.{there, made_kept, made_holds}
use Rattle.history_journal.proofs.making.create.Goals as goal

pub returns-in-Err-Over-clause-why : goal.returns-in-Err-Over-clause-why
returns-in-Err-Over-clause-why g c = (c.first_calls.ensures.looks, c.in-Err-Over.ensures.over c.in-Err-Over.field-0-is)

pub returns-then-as_str-gt-LONGEST-clause-why : goal.returns-then-as_str-gt-LONGEST-clause-why
returns-then-as_str-gt-LONGEST-clause-why g c =
    let text_is = c.in-Ok-print_program.ensures.text ∙ (ap (λ p. program_text (program_term p)) c.program.ensures.program
    ∙ (ap (λ k. program_text (checked_term k).program) c.checked.ensures ∙ ap (λ (k : CheckedTerm). program_text k.program) c.in-Ok.ensures.program)) in
    let long : 1048576 < length c.as_str.result.now = search rules in
    (c.first_calls.ensures.looks, (_, c.in-Ok.ensures.state), subst (λ (l : List ℕ). 1048576 < length l) (c.as_str.ensures ∙ text_is) long)

pub invariant_of-result : goal.invariant_of-result
invariant_of-result g c =
    let told = g.D.Disk.told in
    let text_is = c.in-Ok-print_program.ensures.text ∙ (ap (λ p. program_text (program_term p)) c.program.ensures.program
    ∙ (ap (λ k. program_text (checked_term k).program) c.checked.ensures ∙ ap (λ (k : CheckedTerm). program_text k.program) c.in-Ok.ensures.program)) in
    let short : length c.as_str.result.now ≤ 1048576 = search rules in
    made_kept (told c.write_first.new.disk) (world_term c.in-Ok.world) (checked_term c.args.c).program c.args.budget c.deref.result.now c.in-Ok.ensures.history c.requires
    (subst (λ (l : List ℕ). length l ≤ 1048576) (c.as_str.ensures ∙ text_is) short)
    (c.deref.ensures.value ∙ (c.in-Ok-first_piece.ensures.piece
    ∙ ap (λ (t : List ℕ). open_records ((decimal c.args.budget ++ (10 ∷ t)) ∷ []) ++ 0 ∷ []) (c.as_bytes.ensures.value ∙ (c.as_str-2.ensures ∙ text_is))))
    (λ honest. c.in-Done.ensures.done refl (there (told c.write_first.new.disk) (told c.first_calls.new.disk) (sym c.write_first.ensures.honest) honest))
    (c.len.result - 1) _ (ap (λ n. option_map next_term n) c.in-Ok.ensures.rest) (omega (arith, c.len.ensures, c.deref.ensures.len))

pub returns-in-Done-clause-settled : goal.returns-in-Done-clause-settled
returns-in-Done-clause-settled g c honest =
    let told = g.D.Disk.told in
    let text_is = c.in-Ok-print_program.ensures.text ∙ (ap (λ p. program_text (program_term p)) c.program.ensures.program
    ∙ (ap (λ k. program_text (checked_term k).program) c.checked.ensures ∙ ap (λ (k : CheckedTerm). program_text k.program) c.in-Ok.ensures.program)) in
    let short : length c.as_str.result.now ≤ 1048576 = search rules in
    let sure = there (told c.args.disk) (told c.first_calls.new.disk) c.first_calls.ensures.looks.honest honest in
    made_holds (told c.write_first.new.disk) (world_term c.in-Ok.world) (checked_term c.args.c).program c.args.budget c.deref.result.now c.in-Ok.ensures.history c.requires
    (subst (λ (l : List ℕ). length l ≤ 1048576) (c.as_str.ensures ∙ text_is) short)
    (c.deref.ensures.value ∙ (c.in-Ok-first_piece.ensures.piece
    ∙ ap (λ (t : List ℕ). open_records ((decimal c.args.budget ++ (10 ∷ t)) ∷ []) ++ 0 ∷ []) (c.as_bytes.ensures.value ∙ (c.as_str-2.ensures ∙ text_is))))
    (λ honest. c.in-Done.ensures.done refl (there (told c.write_first.new.disk) (told c.first_calls.new.disk) (sym c.write_first.ensures.honest) honest))
    (there (told c.first_calls.new.disk) (told c.write_first.new.disk) c.write_first.ensures.honest sure)
