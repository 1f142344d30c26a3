use Rattle.std.proofs.Common.{◌∙◌}
use Rattle.tophat.proofs.SentenceLemmas.{pair_then, pair_part}
use Rattle.tophat.proofs.sentence.write_pair.Goals as goal

pub returns-in-Whole-clause-text : goal.returns-in-Whole-clause-text
returns-in-Whole-clause-text g c = pair_then _ _ _ c.args.first_word.now _ c.args.second_word.now _ _ _ _
    (c.as_bytes-first.ensures.value ∙ c.format.ensures.text) (c.as_bytes-second.ensures.value ∙ c.format-2.ensures.text)
    c.in-Whole.ensures.bytes c.write_all.ensures.bytes

pub returns-in-Failed-clause-text : goal.returns-in-Failed-clause-text
returns-in-Failed-clause-text g c = pair_part _ _ c.args.first_word.now _ c.args.second_word.now _ _ _
    (c.as_bytes-first.ensures.value ∙ c.format.ensures.text) (c.as_bytes-second.ensures.value ∙ c.format-2.ensures.text)
    c.in-Failed.ensures.bytes
