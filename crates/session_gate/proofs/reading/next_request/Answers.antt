use Rattle.std.proofs.Common.{◌++◌, refl, ap, sym, subst, ◌∙◌}
use Rattle.outer_io.specs.Causes.{next_count}
use Rattle.task_model.specs.Terms.Text.{Text}
use Rattle.http_requests.specs.Knowledge.{HasRead}
use Rattle.http_requests.specs.Streams.{HasNoRequest}
use Rattle.session_gate.proofs.ListLemmas.{gives_all}
use Rattle.session_gate.proofs.ReadingLemmas.{reads_nothing, reads_more, knows_here, knows_more, unfinished}
use Rattle.session_gate.proofs.reading.next_request.Goals as goal

pub reading-init : goal.reading-init
reading-init g c = record {
  reading = reads_nothing _ _;
  read = λ more. c.new-reader.ensures (c.args.kept.now.items ++ more);
  faults = refl;
  ended = λ e. absurd cc;
}

pub read-requires : goal.read-requires
read-requires g c = subst (HasRead c.reading.reader) (sym c.as_slice.ensures) (knows_here c.reading.invariant.read)

pub returns-in-More-clause-next : goal.returns-in-More-clause-next
returns-in-More-clause-next g c =
    let u = unfinished c.in-Ok.ensures.progress c.in-More.is c.as_slice.ensures in
    (u.no_whole, u.awaited c.if-ended.true, c.reading.invariant.ended c.if-ended.true, c.reading.invariant.faults)

pub reading-preserved-in-More-fill : goal.reading-preserved-in-More-fill
reading-preserved-in-More-fill g c =
    let knows = λ (more : Text). subst (λ (z : Text). HasRead c.read.new.self (z ++ more)) c.as_slice.ensures (c.in-Ok.ensures.read more) in
    record {
      reading = reads_more c.reading.invariant.reading c.in-More-fill.ensures.reading;
      read = knows_more c.in-More-fill.ensures.reading knows;
      faults = c.in-More-fill.ensures.filled.1 ∙ c.reading.invariant.faults;
      ended = λ e. let f = c.if-ended.false in absurd (cc (e, f));
    }

pub reading-preserved : goal.reading-preserved
reading-preserved g c =
    let knows = λ (more : Text). subst (λ (z : Text). HasRead c.read.new.self (z ++ more)) c.as_slice.ensures (c.in-Ok.ensures.read more) in
    record {
      reading = reads_more c.reading.invariant.reading c.in-Ended.ensures.reading;
      read = knows_more c.in-Ended.ensures.reading knows;
      faults = c.in-Ended.ensures.filled.2 ∙ c.reading.invariant.faults;
      ended = λ e. gives_all _ _ _ _ c.reading.invariant.reading.consumed c.in-Ended.ensures.filled.1;
    }

pub returns-in-Failed-clause-reading : goal.returns-in-Failed-clause-reading
returns-in-Failed-clause-reading g c = reads_more c.reading.invariant.reading c.in-Failed.ensures.reading

pub returns-in-Failed-clause-next : goal.returns-in-Failed-clause-next
returns-in-Failed-clause-next g c =
    let u = unfinished c.in-Ok.ensures.progress c.in-More.is c.as_slice.ensures in (
      subst HasNoRequest (sym c.in-Failed.ensures.filled.0) u.no_whole,
      c.in-Failed.ensures.filled.1 ∙ ap next_count c.reading.invariant.faults,
    )

pub returns-in-Memory-clause-reading : goal.returns-in-Memory-clause-reading
returns-in-Memory-clause-reading g c = reads_more c.reading.invariant.reading c.in-Memory.ensures.reading
