use Rattle.std.proofs.Common.{arith}
use Rattle.input_lines.proofs.SoakLemmas.{first_path, other_path}
use Rattle.input_lines.proofs.soak.path.Goals.{then-part-eq0, else-part-eq0}
use Rattle.input_lines.proofs.soak.path.Goals as goal

pub returns : goal.returns
returns c = elim c.if-part-eq0.branch [
  | then-part-eq0 w ↦ first_path c.args.part c.if-part-eq0.from c.in_ok-turns.turns w.from-is w.if-part-eq0.true c.in_ok-turns.ensures
  | else-part-eq0 w ↦
      let other = w.if-part-eq0.false in
      other_path c.args.part c.if-part-eq0.from c.in_ok-turns.turns w.from-is (omega (arith, other)) c.requires c.in_ok-turns.ensures
]
