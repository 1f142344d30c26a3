use Rattle.std.proofs.Common.{◌∙◌, true≢false, sym, ap, map, arith}
use Rattle.std.specs.Char.{to_ascii_lowercase}
use Rattle.http_heads.proofs.FieldLemmas.{other_name, next_field}
use Rattle.http_heads.proofs.fields.first_value.Goals as goal

pub loop-field-preserved : goal.loop-field-preserved
loop-field-preserved c =
    let (within, values) = next_field c.args.block.now c.args.name.now _ _ _ c.in-Some.ensures.cases.0 c.loop-field.invariant.0
    (other_name _ c.args.name.now
    (λ e. true≢false (sym (c.if-eq_ignore_ascii_case.ensures.test.1 (ap (map to_ascii_lowercase) c.of.ensures ∙ e))))) in
    (within, c.loop-field.invariant.1 ∙ values, omega (arith, c.in-Some.ensures.cases.1))
