use Rattle.std.proofs.Common.{codes, ◌∙◌}
use Rattle.tophat.proofs.SentenceLemmas.{rest_then, rest_part}
use Rattle.tophat.proofs.no_world.write_refusal.Goals as goal

pub returns-in-Whole-clause-text : goal.returns-in-Whole-clause-text
returns-in-Whole-clause-text g c =
    rest_then _ _ _ (codes "tophat: ") c.args.name.now (codes ": byte ") _ _ _ _ (c.as_bytes-place.ensures.value ∙ c.format.ensures.text)
    c.in-Whole.ensures.bytes c.write_cause.ensures.text

pub returns-in-Failed-clause-text : goal.returns-in-Failed-clause-text
returns-in-Failed-clause-text g c =
    rest_part _ _ (codes "tophat: ") c.args.name.now (codes ": byte ") _ _ _ (c.as_bytes-place.ensures.value ∙ c.format.ensures.text)
    c.in-Failed.ensures.bytes
