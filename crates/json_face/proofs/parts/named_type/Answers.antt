use Rattle.std.proofs.Common.{◌≡◌, sym, ap, ◌∙◌, subst, rules}
use Rattle.task_model.specs.Syntax.Literal.{basic_text}
use Rattle.literal_text.specs.Types.{IsTypeName}
use Rattle.literal_text.proofs.PrintLemmas.{printed_name}
use Rattle.json_face.proofs.parts.named_type.Goals as goal

pub returns-in-Err-Bad-clause-bad : goal.returns-in-Err-Bad-clause-bad
returns-in-Err-Bad-clause-bad c =
    λ _ b is small.
    let name = subst (λ t. IsTypeName t b) (sym c.as_bytes.ensures.value) (printed_name b c.args.text.now is small) in
    let m = c.in-Err-Bad.ensures.only b name in
    let k = c.in-Err-Bad.field-0-is in
    absurd (search (rules, m, k))

pub returns-then-ne-clause-bad : goal.returns-then-ne-clause-bad
returns-then-ne-clause-bad c =
    λ _ b is small.
    let name = subst (λ t. IsTypeName t b) (sym c.as_bytes.ensures.value) (printed_name b c.args.text.now is small) in
    let same = c.in-Ok.ensures.only b name in
    let equal : c.as_str.result.now ≡ c.args.text.now = c.as_str.ensures ∙ c.in_ok-printed.ensures.text ∙ ap basic_text same ∙ sym is in
    absurd (search (rules, equal))
