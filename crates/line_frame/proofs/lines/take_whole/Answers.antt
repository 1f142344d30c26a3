use Rattle.std.proofs.Common.{refl}
use Rattle.line_frame.proofs.StandsLemmas.{stands_whole, stops_whole}
use Rattle.line_frame.proofs.lines.take_whole.Goals as goal

pub returns-in-Some-clause-goes : goal.returns-in-Some-clause-goes
returns-in-Some-clause-goes g c = λ limit below behind start first begun bytes at.
    stops_whole at (g.met.M.Machine.no_lines c.args.machine.now) c.args.line.now c.requires.none_kept c.requires.no_lf behind below
    c.LONGEST.ensures c.front.ensures c.in-Some.ensures.line

pub returns-in-None-clause-goes : goal.returns-in-None-clause-goes
returns-in-None-clause-goes g c = λ limit below start first begun bytes at.
    stands_whole at _ c.args.line.now c.requires.none_kept c.requires.no_lf below c.LONGEST.ensures c.front.ensures refl refl
    c.requires.none_kept c.in-None.ensures.line
