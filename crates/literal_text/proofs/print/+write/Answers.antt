use Rattle.std.specs.Prelude.{OnOk, string_bytes}
use Rattle.std.proofs.Common.{◌≡◌, ◌++◌, map, sym, ap, ◌∙◌, subst, arith}
use Rattle.task_model.specs.Terms.Value.{list_value, as_values, value_term}
use Rattle.task_model.specs.Syntax.Literal.{value_text}
use Rattle.task_model.proofs.RowLemmas.{value_term-List, elements_fall}
use Rattle.task_model.specs.Terms.Held.{IsHeld}
use Rattle.literal_text.proofs.print.+write.Goals as goal

pub write_value-write_list-requires : goal.write_value-write_list-requires
write_value-write_list-requires t c =
    let h = elements_fall c.in-List.items _ _ c.in-List.is c.as_slice.ensures in
    omega (arith, h)

pub write_value-returns-in-List-clause-text : goal.write_value-returns-in-List-clause-text
write_value-returns-in-List-clause-text t c =
    let items = c.as_slice.ensures in
    let e = ap (λ l. list_value (as_values (map value_term l))) items ∙ sym (value_term-List c.in-List.items)
    ∙ ap value_term (sym c.in-List.is) in
    subst (λ v. OnOk c.write_list.result (string_bytes c.write_list.new.text ≡ string_bytes c.args.text.now ++ value_text v)) e
    c.write_list.ensures.text

pub write_value-returns-in-List-clause-held : goal.write_value-returns-in-List-clause-held
write_value-returns-in-List-clause-held t c =
    let items = c.as_slice.ensures in
    let e = ap (λ l. list_value (as_values (map value_term l))) items ∙ sym (value_term-List c.in-List.items)
    ∙ ap value_term (sym c.in-List.is) in
    subst (λ v. OnOk c.write_list.result (IsHeld v)) e c.write_list.ensures.held
