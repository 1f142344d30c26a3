use Rattle.std.proofs.Common.{◌≡◌, ◌+◌, ◌<◌, ◌≤◌, ℕ, zero, suc, List, [], ◌∷◌, ◌++◌, get_or, take, drop, length, None, Some, sym, subst, arith, length-take, length-drop}
use Rattle.std.proofs.lemmas.List.{take-append-drop}
use Rattle.line_frame.specs.RanOut.{IsBehindLine}
use Rattle.line_frame.specs.Stands.{StopsRun}
use Rattle.line_frame.specs.Due.{EndsDue}
use Rattle.line_frame.specs.declared.finish.Finish.{Finish}
use Rattle.line_frame.specs.declared.finish.Finish.TheVariants.{Memory}
use Rattle.line_frame.proofs.StandsLemmas.{stands_run, stops_long, stops_memory, stops_settled}
use Rattle.line_frame.proofs.Going.{goes_then, with_lf, with_behind}
use Rattle.line_frame.specs.Machines.{GoesOver, StopsOver}
use Rattle.line_frame.proofs.MachineLemmas.{goes_nowhere, stops_here}
use Rattle.line_frame.proofs.lines.take_part.Goals as goal

-- behind the bytes of a line comes its LF, or nothing
behind_line : (bytes : List ℕ) (n : ℕ) → (n < length bytes → get_or bytes n 0 ≡ 10) → IsBehindLine (drop n bytes)
behind_line [] zero lf = tt
behind_line [] (suc n) lf = tt
behind_line (byte ∷ bytes) zero lf = lf (omega arith)
behind_line (byte ∷ bytes) (suc n) lf = behind_line bytes n (λ lt. lf (omega arith))

pub returns-then-taken-saturating_sub-clause-goes : goal.returns-then-taken-saturating_sub-clause-goes
returns-then-taken-saturating_sub-clause-goes g c = λ start first begun bytes at.
    let over = c.if-taken-saturating_sub.true in
    let taken = c.min-taken.ensures in
    let left = c.saturating_sub.ensures in
    let none = g.met.M.Machine.no_lines c.args.machine.now in
    let no_lf = c.run_length-run.ensures.no_lf in
    stops_settled at c.args.bytes.now c.end.ensures.bytes (λ took. stops_long at none took c.run_length-run.result c.min-taken.result
    c.args.bytes.now no_lf (omega arith) (omega arith) (omega arith))

pub returns-in-Some-clause-goes : goal.returns-in-Some-clause-goes
returns-in-Some-clause-goes g c = λ start first begun bytes at.
    let piece = c.args.bytes.now in
    let run = c.run_length-run.result in
    let fits = c.run_length-run.ensures.fits in
    let under = c.if-taken-saturating_sub.false in
    let taken = c.min-taken.ensures in
    let left = c.saturating_sub.ensures in
    let counted = at.counted in
    let within = at.within in
    let whole = g.M.Machine.tells start 1 in
    let old = g.O.Sink.taken c.args.out.now in
    let new = g.O.Sink.taken c.end-in-Some.new.out in
    let none = g.met.M.Machine.no_lines c.args.machine.now in
    let no_lf = c.run_length-run.ensures.no_lf in
    let ends : EndsDue old new c.args.cursor.now.due.text.list Memory c.end-in-Some.result =
    subst (λ (z : List ℕ). EndsDue old new z Memory c.end-in-Some.result) c.in-Some.ensures.due
    (subst (λ (finish : Finish). EndsDue old new c.take_run.new.self.due.text.list finish c.end-in-Some.result) c.in-Some.ensures.takes
    c.end-in-Some.ensures.bytes) in
    stops_settled at piece ends (λ took.
    subst (λ (z : List ℕ). StopsRun whole first new begun c.args.limit (bytes ++ z) Memory) (take-append-drop run piece)
    (stops_memory at none took (take run piece) (drop run piece) no_lf (behind_line piece run c.run_length-run.ensures.lf)
    (omega (arith, length-take run piece, length-drop run piece, length-take 1 (drop run piece)))))

pub returns-then-run-bytes-clause-goes : goal.returns-then-run-bytes-clause-goes
returns-then-run-bytes-clause-goes g c = λ start first begun bytes at.
    let run = c.run_length-run.result in
    let fits = c.run_length-run.ensures.fits in
    let under = c.if-taken-saturating_sub.false in
    let taken = c.min-taken.ensures in
    let left = c.saturating_sub.ensures in
    let within = at.within in
    stands_run at _ c.LONGEST.ensures c.run_length-run.ensures.no_lf (omega (arith, length-take run c.args.bytes.now))
    c.in_default.ensures.takes

pub returns-in-Some-take_lf-clause-goes : goal.returns-in-Some-take_lf-clause-goes
returns-in-Some-take_lf-clause-goes g c = λ start first begun bytes at.
    let piece = c.args.bytes.now in
    let run = c.run_length-run.result in
    let before = c.args.machine.now in
    let fits = c.run_length-run.ensures.fits in
    let under = c.if-taken-saturating_sub.false in
    let taken = c.min-taken.ensures in
    let left = c.saturating_sub.ensures in
    let within = at.within in
    let whole = c.if-run-bytes.false in
    let counted = c.in_default.ensures.takes.counted in
    let lt : run < length piece = omega arith in
    let le : c.args.cursor.now.count + length (take run piece) ≤ c.args.limit = omega (arith, length-take run piece) in
    let below : c.take_run.new.self.count < c.args.limit = omega (arith, length-take run piece) in
    goes_then g.M.Machine.tells before before c.take_lf.new.machine _ (g.O.Sink.taken c.args.out.now) _ _ _ _ c.take_run.new.self
    c.take_lf.new.cursor
    (Some c.in-Some-take_lf.finish) _ _ _ (with_behind piece run lt (c.run_length-run.ensures.lf lt))
    (λ start first begun bytes at. stands_run at _ c.LONGEST.ensures c.run_length-run.ensures.no_lf le c.in_default.ensures.takes)
    (c.in-Some-take_lf.ensures.goes c.args.limit below (drop (run + 1) piece)) start first begun bytes at

pub returns-in-None-clause-goes : goal.returns-in-None-clause-goes
returns-in-None-clause-goes g c = λ start first begun bytes at.
    let piece = c.args.bytes.now in
    let run = c.run_length-run.result in
    let before = c.args.machine.now in
    let fits = c.run_length-run.ensures.fits in
    let under = c.if-taken-saturating_sub.false in
    let taken = c.min-taken.ensures in
    let left = c.saturating_sub.ensures in
    let within = at.within in
    let whole = c.if-run-bytes.false in
    let counted = c.in_default.ensures.takes.counted in
    let lt : run < length piece = omega arith in
    let le : c.args.cursor.now.count + length (take run piece) ≤ c.args.limit = omega (arith, length-take run piece) in
    let below : c.take_run.new.self.count < c.args.limit = omega (arith, length-take run piece) in
    goes_then g.M.Machine.tells before before c.take_lf.new.machine _ (g.O.Sink.taken c.args.out.now) _ _ _ _ c.take_run.new.self
    c.take_lf.new.cursor None _ _ _ (with_lf piece run lt (c.run_length-run.ensures.lf lt))
    (λ start first begun bytes at. stands_run at _ c.LONGEST.ensures c.run_length-run.ensures.no_lf le c.in_default.ensures.takes)
    (c.in-None.ensures.goes c.args.limit below) start first begun bytes at

pub returns-then-taken-saturating_sub-clause-machine : goal.returns-then-taken-saturating_sub-clause-machine
returns-then-taken-saturating_sub-clause-machine g c =
    stops_here g.M.Machine.takes g.M.Machine.stops c.args.machine.now _ _ c.args.cursor.now.due.text.list _ _ c.end.ensures.bytes

pub returns-in-Some-clause-machine : goal.returns-in-Some-clause-machine
returns-in-Some-clause-machine g c =
    subst (λ (z : List ℕ). StopsOver g.M.Machine.takes g.M.Machine.stops c.args.machine.now c.args.machine.now (g.O.Sink.taken c.args.out.now)
    (g.O.Sink.taken c.end-in-Some.new.out) z) c.in-Some.ensures.due
    (stops_here g.M.Machine.takes g.M.Machine.stops c.args.machine.now _ _ c.take_run.new.self.due.text.list _ _ c.end-in-Some.ensures.bytes)

pub returns-then-run-bytes-clause-machine : goal.returns-then-run-bytes-clause-machine
returns-then-run-bytes-clause-machine g c =
    subst (λ (z : List ℕ). GoesOver g.M.Machine.takes c.args.machine.now c.args.machine.now (g.O.Sink.taken c.args.out.now)
    (g.O.Sink.taken c.args.out.now) c.args.cursor.now.due.text.list z) (sym c.in_default.ensures.due)
    (goes_nowhere g.M.Machine.takes g.M.Machine.stops c.args.machine.now (g.O.Sink.taken c.args.out.now) c.args.cursor.now.due.text.list)

pub returns-in-Some-take_lf-clause-machine : goal.returns-in-Some-take_lf-clause-machine
returns-in-Some-take_lf-clause-machine g c =
    subst (λ (z : List ℕ). StopsOver g.M.Machine.takes g.M.Machine.stops c.args.machine.now c.take_lf.new.machine (g.O.Sink.taken c.args.out.now)
    (g.O.Sink.taken c.take_lf.new.out) z) c.in_default.ensures.due c.in-Some-take_lf.ensures.machine

pub returns-in-None-clause-machine : goal.returns-in-None-clause-machine
returns-in-None-clause-machine g c =
    subst (λ (z : List ℕ). GoesOver g.M.Machine.takes c.args.machine.now c.take_lf.new.machine (g.O.Sink.taken c.args.out.now)
    (g.O.Sink.taken c.take_lf.new.out) z c.take_lf.new.cursor.due.text.list) c.in_default.ensures.due c.in-None.ensures.machine
