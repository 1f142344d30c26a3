use Rattle.std.proofs.Common.{◌≡◌, true, false, ◌∷◌, ◌∙◌, sym, ap, arith}
use Rattle.literal_text.proofs.EscapeLemmas.{part_none, part_full, part_escaped, part_plain, part_wide}
use Rattle.literal_text.proofs.texts.part.Goals as goal

pub returns-in_default : goal.returns-in_default
returns-in_default c = rw c.unexpected.ensures (part_none c.args.room c.in_default.ensures)

pub returns-then-room-eq0 : goal.returns-then-room-eq0
returns-then-room-eq0 c = rw c.unexpected-then-room-eq0.ensures (part_full c.args.room c.if-room-eq0.true)

pub returns-then-byte-eq92 : goal.returns-then-byte-eq92
returns-then-byte-eq92 c = part_escaped c.args.room (omega arith) (c.in-Some.ensures ∙ ap (λ b. b ∷ c.in-Some.rest.now) c.if-byte-eq92.true)
    c.escape.ensures

pub returns-then-is_plain : goal.returns-then-is_plain
returns-then-is_plain c = part_plain c.args.room (omega arith) c.in-Some.ensures (c.is_plain.ensures.0 c.if-is_plain.true)

pub returns : goal.returns
returns c = part_wide c.args.room c.in-Some.ensures c.if-byte-eq92.false (λ p. let plain : c.is_plain.result ≡ true = c.is_plain.ensures.1 p
    in let other : c.is_plain.result ≡ false = c.if-is_plain.false in let no' : true ≡ false = sym plain ∙ other in cc) c.wide.ensures
