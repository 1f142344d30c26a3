use Rattle.std.proofs.Common.{rules, ◌≡◌, ◌∷◌, ◌++◌, length, ◌<◌, refl, sym, ◌∙◌, ap, subst, arith, string_bytes}
use Rattle.std.specs.Prelude.{encode_utf8}
use Rattle.std.proofs.lemmas.Grind.{common_steps}
use Rattle.task_model.specs.Terms.Token.{spelled}
use Rattle.task_syntax.specs.TextParts.{PartStands, PartFails}
use Rattle.task_syntax.proofs.EscapeLemmas.{part_stop, stand_shorter, text_push}
use Rattle.task_syntax.proofs.Bytes.{begins_low}
use Rattle.task_syntax.proofs.text.text_at.Goals as goal

pub returns-then-len-gt-TEXT_BYTE_LIMIT : goal.returns-then-len-gt-TEXT_BYTE_LIMIT
returns-then-len-gt-TEXT_BYTE_LIMIT c =
    let (ps, split, are) = c.loop-first.invariant.so_far in
    let first : c.loop-first.rest.now ≡ c.in-Some.first ∷ c.in-Some.more.now = begins_low c.loop-first.rest.now c.in-Some.first
    c.in-Some.more.now (omega (arith, c.if-first-eq34.true)) c.in-Some.ensures.cases in
    let here : c.loop-first.rest.now ≡ 34 ∷ c.in-Some.more.now = first ∙ ap (λ b. b ∷ c.in-Some.more.now) c.if-first-eq34.true in
    let long : 65536 < length (string_bytes c.loop-first.content) = omega (arith, c.len.ensures, c.if-len-gt-TEXT_BYTE_LIMIT.true) in (
      0,
      (
        record {
          parts = ps;
          back = c.in-Some.more.now;
          before = record { content = string_bytes c.loop-first.content; bytes = split ∙ ap (λ x. 34 ∷ (spelled ps ++ x)) here; are = are };
          long = long;
        },
        refl,
      ),
      omega arith,
    )

pub loop-first-smaller : goal.loop-first-smaller
loop-first-smaller c =
    let shorter = stand_shorter (encode_utf8 c.in-Some.first ++ c.in-Some.more.now) c.in-Ok-part.character c.in-Ok-part.after.now
    c.in-Ok-part.ensures in
    let less : length c.in-Ok-part.after.now < length c.loop-first.rest.now = omega (arith, shorter, ap length c.in-Some.ensures.cases) in
    less

pub loop-first-preserved : goal.loop-first-preserved
loop-first-preserved c =
    let stands : PartStands c.loop-first.rest.now c.in-Ok-part.character c.in-Ok-part.after.now = subst
    (λ t. PartStands t c.in-Ok-part.character c.in-Ok-part.after.now) (sym c.in-Some.ensures.cases) c.in-Ok-part.ensures in
    let pushed : string_bytes c.push.new.self ≡ string_bytes c.loop-first.content ++ encode_utf8 c.in-Ok-part.character = grind
    (arith, common_steps, c.push.ensures.bytes, c.if-is_err.ensures) in
    record {
      utf8 = search rules;
      so_far = text_push c.args.text.now c.loop-first.rest.now (string_bytes c.loop-first.content) c.in-Ok-part.after.now
          (string_bytes c.push.new.self) c.in-Ok-part.character c.loop-first.invariant.so_far stands pushed;
    }

pub returns-in-Err : goal.returns-in-Err
returns-in-Err c =
    let (ps, split, are) = c.loop-first.invariant.so_far in
    let fails : PartFails c.loop-first.rest.now c.in-Err.kind = subst (λ t. PartFails t c.in-Err.kind) (sym c.in-Some.ensures.cases)
    c.in-Err.ensures in
    part_stop c.args.text.now c.loop-first.rest.now (string_bytes c.loop-first.content) ps c.in-Err.kind split are fails
