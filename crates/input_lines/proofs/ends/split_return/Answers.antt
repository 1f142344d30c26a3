use Rattle.std.proofs.Common.{arith, eq-eqb}
use Rattle.input_lines.proofs.EndLemmas.{NoReturn-before, NoReturn-whole}
use Rattle.input_lines.proofs.ends.split_return.Goals as goal

pub returns-in-Some-clause-front : goal.returns-in-Some-clause-front
returns-in-Some-clause-front c = NoReturn-before _ _ (λ k lt e. c.in-Some.ensures.0.before k (omega arith) lt (eq-eqb _ _ e))

pub returns-in-None-clause-front : goal.returns-in-None-clause-front
returns-in-None-clause-front c = NoReturn-whole _ (λ k lt e. c.in-None.ensures k (omega arith) lt (eq-eqb _ _ e))
