use Rattle.std.proofs.Common.{refl}
use Rattle.task_model.specs.Terms.Token.{raw}
use Rattle.task_syntax.proofs.text.part.Goals as goal

pub returns : goal.returns
returns c = (
  raw c.args.first,
  refl,
  (
    c.requires.scalar,
    c.if-first-lt32.false,
    c.requires.no_quote,
    c.if-first-eq92.false,
    c.if-first-eq127.false,
    refl,
  ),
)
