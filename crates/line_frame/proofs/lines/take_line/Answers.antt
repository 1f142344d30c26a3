use Rattle.std.proofs.Common.{◌+◌, ◌<◌, ℕ, List, ◌++◌, length, take, drop, arith, length-take, subst}
use Rattle.line_frame.proofs.Going.{with_lf, with_behind}
use Rattle.line_frame.specs.Stands.{Stands, StopsRun}
use Rattle.line_frame.proofs.lines.take_line.Goals as goal

pub returns-in-Some-clause-goes : goal.returns-in-Some-clause-goes
returns-in-Some-clause-goes g c = λ start first begun bytes at.
    let piece = c.args.bytes.now in
    let run = c.run_length-run.result in
    let fits = c.run_length-run.ensures.fits in
    let left = c.saturating_sub.ensures in
    let lt : run < length piece = omega arith in
    let below : c.args.cursor.now.count + length (take run piece) < c.args.limit = omega (arith, length-take run piece) in
    subst (λ (z : List ℕ). StopsRun (g.M.Machine.tells start 1) first (g.O.Sink.taken c.take_whole.new.out) begun c.args.limit (bytes ++ z)
    c.in-Some.finish) (with_behind piece run lt (c.run_length-run.ensures.lf lt))
    (c.in-Some.ensures.goes c.args.limit below (drop (run + 1) piece) start first begun bytes at)

pub returns-then-run-saturating_sub-clause-goes : goal.returns-then-run-saturating_sub-clause-goes
returns-then-run-saturating_sub-clause-goes g c = λ start first begun bytes at.
    let piece = c.args.bytes.now in
    let run = c.run_length-run.result in
    let fits = c.run_length-run.ensures.fits in
    let left = c.saturating_sub.ensures in
    let lt : run < length piece = omega arith in
    let below : c.args.cursor.now.count + length (take run piece) < c.args.limit = omega (arith, length-take run piece) in
    subst (λ (z : List ℕ). Stands (g.M.Machine.tells start 1) (g.M.Machine.tells c.take_whole.new.machine) first
    (g.O.Sink.taken c.take_whole.new.out) begun g.M.Machine.LONGEST c.args.limit c.take_whole.new.cursor (bytes ++ z))
    (with_lf piece run lt (c.run_length-run.ensures.lf lt))
    (c.in_default.ensures.goes c.args.limit below start first begun bytes at)
