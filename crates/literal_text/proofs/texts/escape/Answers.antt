use Rattle.std.proofs.Common.{◌≡◌, ◌∷◌, [], ◌∙◌, sym, ap, subst}
use Rattle.task_model.specs.Terms.Token.{Escapes}
use Rattle.literal_text.proofs.EscapeLemmas.{no_escape, letter_right, hex_escape}
use Rattle.literal_text.proofs.texts.escape.Goals as goal

pub returns-in_default : goal.returns-in_default
returns-in_default c = rw c.unexpected.ensures (no_escape (λ t s e. let none : [] ≡ t ∷ s = sym c.in_default.ensures ∙ e in cc))

pub returns-then-letter-eq120 : goal.returns-then-letter-eq120
returns-then-letter-eq120 c = hex_escape (c.in-Some.ensures ∙ ap (λ l. l ∷ c.in-Some.rest.now) c.if-letter-eq120.true) c.hex.ensures

pub returns-in-Some-escaped : goal.returns-in-Some-escaped
returns-in-Some-escaped c = letter_right c.in-Some.ensures c.in-Some-escaped.ensures

pub returns-in-None : goal.returns-in-None
returns-in-None c = rw c.unexpected-in-None.ensures (no_escape (λ t s e.
    let same : c.in-Some.letter ∷ c.in-Some.rest.now ≡ t ∷ s = sym c.in-Some.ensures ∙ e in
    let letter_is : c.in-Some.letter ≡ t = cc in
    (λ x. c.if-letter-eq120.false (letter_is ∙ x), λ byte is. c.in-None.ensures byte (subst (λ l. Escapes l byte) (sym letter_is) is))))
