use Rattle.std.proofs.Common.{ℕ, List, refl, subst}
use Rattle.line_frame.proofs.StandsLemmas.{stops_line, stands_line}
use Rattle.line_frame.specs.Stands.{RunsLine, EndsAt}
use Rattle.line_frame.proofs.lines.take_lf.Goals as goal

pub returns-in-Some-clause-goes : goal.returns-in-Some-clause-goes
returns-in-Some-clause-goes g c = λ limit below behind start first begun bytes at.
    stops_line at (g.met.M.Machine.no_lines c.args.machine.now) behind below
    (subst (λ (z : List ℕ). EndsAt (g.M.Machine.tells c.args.machine.now) (g.O.Sink.taken c.args.out.now)
    (g.O.Sink.taken c.end_line.new.out) c.args.cursor.now.due.text.list g.M.Machine.LONGEST c.args.cursor.now.number z c.in-Some.finish)
    c.as_slice.ensures c.in-Some.ensures.line)

pub returns-in-None-clause-goes : goal.returns-in-None-clause-goes
returns-in-None-clause-goes g c = λ limit below start first begun bytes at.
    stands_line at _ below refl refl c.truncate.ensures
    (subst (λ (z : List ℕ). RunsLine (g.M.Machine.tells c.args.machine.now) (g.M.Machine.tells c.end_line.new.machine)
    (g.O.Sink.taken c.args.out.now) (g.O.Sink.taken c.end_line.new.out) c.args.cursor.now.due.text.list c.end_line.new.due.text.list
    g.M.Machine.LONGEST z) c.as_slice.ensures
    c.in-None.ensures.line)
