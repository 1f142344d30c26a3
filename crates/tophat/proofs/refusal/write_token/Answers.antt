use Rattle.std.proofs.Common.{codes, ◌∙◌}
use Rattle.tophat.proofs.SentenceLemmas.{as_number}
use Rattle.tophat.proofs.refusal.write_token.Goals as goal

pub returns-clause-text : goal.returns-clause-text
returns-clause-text g c = as_number _ _ (codes "Unexpected token ") _ _ _ (c.as_bytes.ensures.value ∙ c.format.ensures.text)
    c.write_two.ensures.bytes
