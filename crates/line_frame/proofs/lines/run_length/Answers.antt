use Rattle.std.proofs.Common.{arith, eq-eqb}
use Rattle.line_frame.proofs.ScriptLemmas.{IsLine-before}
use Rattle.line_frame.proofs.lines.run_length.Goals as goal

pub returns-in-Some-clause-no_lf : goal.returns-in-Some-clause-no_lf
returns-in-Some-clause-no_lf c = IsLine-before _ _ (λ k lt e. c.in-Some.ensures.0.before k (omega arith) lt (eq-eqb _ _ e))

pub returns-in-None-clause-no_lf : goal.returns-in-None-clause-no_lf
returns-in-None-clause-no_lf c = IsLine-before _ _ (λ k lt e. c.in-None.ensures k (omega arith) lt (eq-eqb _ _ e))
