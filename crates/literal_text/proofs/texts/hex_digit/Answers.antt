use Rattle.literal_text.proofs.EscapeLemmas.{hex_found}
use Rattle.literal_text.proofs.texts.hex_digit.Goals as goal

pub returns-in-Some-hex_value : goal.returns-in-Some-hex_value
returns-in-Some-hex_value c = hex_found c.args.limit c.in-Some.ensures c.in-Some-hex_value.ensures.0 c.in-Some-hex_value.ensures.1
    c.if-value-limit.true
