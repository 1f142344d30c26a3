use Rattle.std.proofs.Common.{◌≡◌, true, false, sym, ◌∙◌, Some}
use Rattle.task_model.specs.Terms.Basic.{basic_term}
use Rattle.exact_reading.proofs.Whole.{no_words}
use Rattle.literal_text.specs.Literals.{IsLiteralOf}
use Rattle.literal_text.specs.LiteralReading.{Whole}
use Rattle.literal_text.proofs.ReadLemmas.{same_err, typed_in, typed_out, no_literal}
use Rattle.literal_text.proofs.read.read_value.Goals as goal

apart : true ≡ false → ⊥
apart e = cc

pub returns-then-not-fits-clause-only : goal.returns-then-not-fits-clause-only
returns-then-not-fits-clause-only c = λ v h. absurd (no_literal _ (λ le. apart (sym (c.fits.ensures.1 le) ∙ c.if-not-fits.true)) _ v h)

pub returns-then-not-fits-clause-bad : goal.returns-then-not-fits-clause-bad
returns-then-not-fits-clause-bad c = no_words c.args.bytes.now
    (λ a v h. no_literal _ (λ le. apart (sym (c.fits.ensures.1 le) ∙ c.if-not-fits.true)) a v h)

pub returns-clause-bad : goal.returns-clause-bad
returns-clause-bad c = same_err (Whole (Some (basic_term c.args.b.now))) (IsLiteralOf (basic_term c.args.b.now)) _ (typed_in _)
    (typed_out _) c.whole.result c.whole.ensures.bad
