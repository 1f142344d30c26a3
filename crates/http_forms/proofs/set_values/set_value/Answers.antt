use Rattle.std.proofs.Common.{true≢false, sym, ap, ◌∙◌, codes, Some}
use Rattle.std.proofs.lemmas.Slice.Eq.{bytes_eq-Decides}
use Rattle.http_forms.proofs.FormLemmas.{found_at, raw_given, raw_refused, literal_given, literal_refused}
use Rattle.http_forms.proofs.set_values.set_value.Goals as goal

pub returns-then-eq-clause-ok : goal.returns-then-eq-clause-ok
returns-then-eq-clause-ok c =
    raw_given c.args.form.now c.requires _ (found_at _ _ _ _ c.in_ok-text.ensures c.in-Some-2.is)
    (found_at _ _ _ _ c.in_ok-kind.ensures c.in-Some.is
    ∙ ap Some (sym c.as_str.ensures.value ∙ (bytes_eq-Decides c.as_str.result.now (codes "raw")).0 (sym c.eq.ensures ∙ c.if-eq.true)))
    c.raw_value.result c.raw_value.ensures.ok

pub returns-then-eq-clause-err : goal.returns-then-eq-clause-err
returns-then-eq-clause-err c =
    raw_refused c.args.form.now c.requires _ (found_at _ _ _ _ c.in_ok-text.ensures c.in-Some-2.is)
    (found_at _ _ _ _ c.in_ok-kind.ensures c.in-Some.is
    ∙ ap Some (sym c.as_str.ensures.value ∙ (bytes_eq-Decides c.as_str.result.now (codes "raw")).0 (sym c.eq.ensures ∙ c.if-eq.true)))
    c.raw_value.result c.raw_value.ensures.err

pub returns-clause-ok : goal.returns-clause-ok
returns-clause-ok c =
    literal_given c.args.form.now c.requires c.as_bytes-2.result.now
    (found_at _ _ _ _ c.in_ok-text.ensures c.in-Some-2.is ∙ ap Some (sym (c.as_bytes-2.ensures.value ∙ c.as_str-3.ensures.value)))
    c.as_bytes.result.now
    (found_at _ _ _ _ c.in_ok-kind.ensures c.in-Some.is ∙ ap Some (sym (c.as_bytes.ensures.value ∙ c.as_str-2.ensures.value)))
    c.literal_value.result c.literal_value.ensures.ok

pub returns-clause-err : goal.returns-clause-err
returns-clause-err c =
    literal_refused c.args.form.now c.requires c.as_bytes-2.result.now
    (found_at _ _ _ _ c.in_ok-text.ensures c.in-Some-2.is ∙ ap Some (sym (c.as_bytes-2.ensures.value ∙ c.as_str-3.ensures.value)))
    c.as_bytes.result.now
    (found_at _ _ _ _ c.in_ok-kind.ensures c.in-Some.is ∙ ap Some (sym (c.as_bytes.ensures.value ∙ c.as_str-2.ensures.value)))
    (λ e. true≢false (sym ((bytes_eq-Decides c.as_str.result.now (codes "raw")).1
    (c.as_str.ensures.value ∙ sym (c.as_bytes.ensures.value ∙ c.as_str-2.ensures.value) ∙ e)) ∙ (sym c.eq.ensures ∙ c.if-eq.false)))
    c.literal_value.result c.literal_value.ensures.err
