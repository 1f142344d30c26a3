use Rattle.std.specs.Prelude.{string_bytes, encode_utf8}
use Rattle.std.specs.String.{string_len}
use Rattle.std.proofs.Common.{◌≡◌, ◌-◌, ◌++◌, length, length-append, String, ap, ◌∙◌, arith, rules}
use Rattle.std.proofs.lemmas.Result.{err_from_is_err_and}
use Rattle.literal_text.proofs.ContentLemmas.{content_end, content_more, content_stop, part_shorter}
use Rattle.literal_text.proofs.texts.content.Goals as goal

many : {Z : Type 0} (s : String Z) → string_len s ≡ length (string_bytes s)
many s = search rules

pub returns-in-Some : goal.returns-in-Some
returns-in-Some c = c.loop-after.invariant.goes_on _ (content_end _ c.loop-after.invariant.fits c.in-Some.ensures)

pub returns-in_err-character : goal.returns-in_err-character
returns-in_err-character c =
    let p = err_from_is_err_and c.from_residual.result c.from_residual.ensures.1 in
    let room = ap (λ n. 65536 - n) (c.len.ensures ∙ many c.loop-after.content) in
    rw (p.1, p.2)
    (c.loop-after.invariant.goes_on _
    (content_stop _ c.loop-after.invariant.fits c.in_default.ensures (rw room at c.in_err-character.ensures)))

pub loop-after-smaller : goal.loop-after-smaller
loop-after-smaller c = part_shorter c.in_ok-character.ensures

pub loop-after-preserved : goal.loop-after-preserved
loop-after-preserved c =
    let room = ap (λ n. 65536 - n) (c.len.ensures ∙ many c.loop-after.content) in
    let found = rw room at c.in_ok-character.ensures in
    let whole : string_bytes c.push.new.self ≡ string_bytes c.loop-after.content
    ++ encode_utf8 c.in_ok-character.character = c.in_ok-push.ensures.bytes in
    let few = found.by.found.fits in
    record {
      fits = let n = ap length whole in let m = length-append (string_bytes c.loop-after.content) (encode_utf8 c.in_ok-character.character)
          in let le = c.loop-after.invariant.fits in omega (arith, n, m, few, le);
      goes_on = λ r h. c.loop-after.invariant.goes_on r
          (content_more _ c.loop-after.invariant.fits c.in_default.ensures found (rw whole at h));
    }
