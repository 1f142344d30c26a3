use Rattle.std.proofs.Common.{rules, ◌≡◌, [], sym, ◌∙◌, ap, subst}
use Rattle.task_syntax.specs.Runs.{BeginsWithCharacter, goes_on}
use Rattle.task_syntax.proofs.Bytes.{begins_same, no_char, run_push}
use Rattle.task_syntax.proofs.run.Run.strip.Goals as goal

pub returns-then-not-goes_on : goal.returns-then-not-goes_on
returns-then-not-goes_on c =
    let (cs, split, scalars, passes) = c.loop-character.invariant.so_far in (
      cs,
      record {
        split = split;
        scalars = scalars;
        passes = passes;
        ends = λ d back b. ap (goes_on c.args.self)
            (begins_same _ d c.in-Some.character back c.in-Some.more.now b c.in-Some.ensures.cases).0 ∙ sym c.goes_on.ensures
            ∙ c.if-not-goes_on.true;
      },
    )

pub loop-character-preserved : goal.loop-character-preserved
loop-character-preserved c = record {
  utf8 = search rules;
  so_far = run_push (goes_on c.args.self) c.args.text.now c.loop-character.rest.now c.in-Some.more.now c.in-Some.character
      c.loop-character.invariant.so_far c.in-Some.ensures.cases c.in-Some.ensures.scalar (sym c.goes_on.ensures ∙ c.if-not-goes_on.false);
}

pub returns : goal.returns
returns c =
    let (cs, split, scalars, passes) = c.loop-character.invariant.so_far in
    let empty : c.loop-character.rest.now ≡ [] = c.in_default.ensures.cases in (
      cs,
      record {
        split = split;
        scalars = scalars;
        passes = passes;
        ends = λ d back b. absurd (no_char d back (subst (λ x. BeginsWithCharacter x d back) empty b));
      },
    )
