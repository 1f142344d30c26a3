use Rattle.std.proofs.Common.{◌≡◌, ◌≢◌, ◌∷◌, [], ◌∙◌, sym, ap, arith}
use Rattle.literal_text.specs.LiteralReading.{width_of}
use Rattle.literal_text.proofs.TextLemmas.{wide_none, wide_two, wide_three, wide_four, no_width}
use Rattle.literal_text.proofs.texts.wide.Goals as goal

pub returns-in_default : goal.returns-in_default
returns-in_default c = rw c.unexpected.ensures
    (wide_none c.args.room (λ t s e _ _. let none : [] ≡ t ∷ s = sym c.in_default.ensures ∙ e in cc))

pub returns-then-width-room : goal.returns-then-width-room
returns-then-width-room c = rw c.unexpected-then-width-room.ensures (wide_none c.args.room (λ t s e _ le.
    let same : c.in-Some.lead ∷ c.in-Some.rest.now ≡ t ∷ s = sym c.in-Some.ensures ∙ e in
    let lead_is : c.in-Some.lead ≡ t = cc in
    let width : c.width-width.result ≡ width_of t = c.width-width.ensures ∙ ap width_of lead_is in
    let over = c.if-width-room.true in omega (arith, width, over, le)))

pub returns-in-2 : goal.returns-in-2
returns-in-2 c =
    let w = sym c.width-width.ensures ∙ c.in-2.is in
    wide_two c.args.room c.in-Some.lead w (let le = c.if-width-room.false in let two = c.in-2.is in omega (arith, w, le, two))
    c.in-Some.ensures c.two.ensures

pub returns-in-3 : goal.returns-in-3
returns-in-3 c =
    let w = sym c.width-width.ensures ∙ c.in-3.is in
    wide_three c.args.room c.in-Some.lead w (let le = c.if-width-room.false in let three = c.in-3.is in omega (arith, w, le, three))
    c.in-Some.ensures c.three.ensures

pub returns-in-4 : goal.returns-in-4
returns-in-4 c =
    let w = sym c.width-width.ensures ∙ c.in-4.is in
    wide_four c.args.room c.in-Some.lead w (let le = c.if-width-room.false in let four = c.in-4.is in omega (arith, w, le, four))
    c.in-Some.ensures c.four.ensures

pub returns-in_default-width : goal.returns-in_default-width
returns-in_default-width c =
    let n2 : c.width-width.result ≢ 2 = omega arith in
    let n3 : c.width-width.result ≢ 3 = omega arith in
    let n4 : c.width-width.result ≢ 4 = omega arith in
    rw c.unexpected-in_default-width.ensures (wide_none c.args.room (λ t s e some _.
    let same : c.in-Some.lead ∷ c.in-Some.rest.now ≡ t ∷ s = sym c.in-Some.ensures ∙ e in
    let lead_is : c.in-Some.lead ≡ t = cc in
    let width : c.width-width.result ≡ width_of t = c.width-width.ensures ∙ ap width_of lead_is in
    no_width t (λ is. n2 (width ∙ is)) (λ is. n3 (width ∙ is)) (λ is. n4 (width ∙ is)) some))
