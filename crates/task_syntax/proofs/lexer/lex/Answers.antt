use Rattle.std.proofs.Common.{rules, ◌≡◌, ◌<◌, ◌∷◌, ◌++◌, [], true, length, ap, subst, ◌∙◌, sym, arith}
use Rattle.std.specs.Str.{encode_utf8_all}
use Rattle.std.proofs.lemmas.Grind.{common_steps}
use Rattle.task_syntax.specs.declared.token.Token.{Token}
use Rattle.task_syntax.specs.Runs as runs
use Rattle.task_syntax.proofs.Bytes.{begins_low, run_shorter}
use Rattle.task_syntax.proofs.Lines.{blank_is, no_lf, ends_line}
use Rattle.task_syntax.specs.Tokens.{AreTokens}
use Rattle.task_syntax.proofs.OneReading.{one_list}
use Rattle.task_syntax.proofs.Reached.{Reached, reached_blank, reached_comment, reached_token, reached_end, reached_spans, lead_shorter}
use Rattle.task_syntax.proofs.lexer.lex.Goals as goal

pub loop-first-preserved-then-is_blank : goal.loop-first-preserved-then-is_blank
loop-first-preserved-then-is_blank c =
    let is : runs.is_blank c.in-Some.first ≡ true = sym c.is_blank.ensures ∙ c.if-is_blank.true in
    let (low, blank) = blank_is c.in-Some.first is in
    record {
      utf8 = search rules;
      within = omega (arith, c.loop-first.invariant.within, c.in-Some.ensures.shorter);
      reached = reached_blank c.args.text.now c.loop-first.list.list c.loop-first.rest.now c.in-Some.more.now c.in-Some.first
          c.loop-first.invariant.reached
          (begins_low c.loop-first.rest.now c.in-Some.first c.in-Some.more.now low c.in-Some.ensures.cases) blank;
    }

pub loop-first-preserved-then-first-eq35 : goal.loop-first-preserved-then-first-eq35
loop-first-preserved-then-first-eq35 c =
    let (front, run) = c.strip-rest.ensures in
    let here : c.loop-first.rest.now ≡ 35 ∷ c.in-Some.more.now = begins_low c.loop-first.rest.now c.in-Some.first c.in-Some.more.now
    (omega (arith, c.if-first-eq35.true)) c.in-Some.ensures.cases ∙ ap (λ b. b ∷ c.in-Some.more.now) c.if-first-eq35.true in
    record {
      utf8 = search rules;
      within = omega (
        arith,
        c.loop-first.invariant.within,
        c.in-Some.ensures.shorter,
        run_shorter _ c.in-Some.more.now c.strip-rest.result.now front run,
      );
      reached = reached_comment c.args.text.now c.loop-first.list.list c.loop-first.rest.now (encode_utf8_all front) c.strip-rest.result.now
          c.loop-first.invariant.reached
          (here ∙ ap (λ x. 35 ∷ x) run.split) (no_lf front run.passes) (ends_line c.strip-rest.result.now (search rules) run.ends);
    }

pub loop-first-smaller : goal.loop-first-smaller
loop-first-smaller c =
    let less : length c.in-Ok.after.now < length c.loop-first.rest.now = lead_shorter c.loop-first.rest.now c.in-Ok.after.now c.in-Ok.kind
    c.in-Ok.ensures in
    less

pub loop-first-preserved : goal.loop-first-preserved
loop-first-preserved c =
    let less : length c.in-Ok.after.now < length c.loop-first.rest.now = lead_shorter c.loop-first.rest.now c.in-Ok.after.now c.in-Ok.kind
    c.in-Ok.ensures in
    let t : Token = record { kind = c.in-Ok.kind; from = c.place_of-from.result; to = c.place_of-to.result } in
    let pushed : c.push.new.self.list ≡ c.loop-first.list.list ++ t
    ∷ [] = grind (arith, common_steps, c.push.ensures.ok, c.if-is_err.ensures) in
    record {
      utf8 = search rules;
      within = omega (arith, c.loop-first.invariant.within, less);
      reached = subst (λ l. Reached c.args.text.now l c.in-Ok.after.now) (sym pushed)
          (reached_token c.args.text.now c.loop-first.list.list c.loop-first.rest.now c.in-Ok.after.now t c.loop-first.invariant.reached
          c.in-Ok.ensures c.place_of-from.ensures c.place_of-to.ensures);
    }

pub returns-clause-tokens : goal.returns-clause-tokens
returns-clause-tokens c = reached_end c.args.text.now c.loop-first.list.list c.loop-first.rest.now (search rules) c.in_default.ensures.cases
    c.loop-first.invariant.reached

pub returns-clause-only : goal.returns-clause-only
returns-clause-only c = λ ts has.
    let (us, has', are) = reached_end c.args.text.now c.loop-first.list.list c.loop-first.rest.now (search rules) c.in_default.ensures.cases
    c.loop-first.invariant.reached in
    subst (AreTokens c.args.text.now c.loop-first.list.list) (one_list c.args.text.now us ts has' has) are

pub returns-clause-spans : goal.returns-clause-spans
returns-clause-spans c = reached_spans c.args.text.now c.loop-first.list.list c.loop-first.rest.now c.in_default.ensures.cases
    c.loop-first.invariant.reached
