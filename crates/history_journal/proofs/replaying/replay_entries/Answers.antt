use Rattle.world_core.specs.World.{world_term}
use Rattle.history_journal.proofs.Restarts.{taken_front, taken_alone}
use Rattle.std.proofs.Common.{◌≡◌, ap, Err}
use Rattle.std.specs.Prelude.{Result}
use Rattle.world_core.proofs.WorldLemmas.{standing_legal}
use Rattle.history_journal.specs.declared.replaying.RecordStop.{RecordStop}
use Rattle.history_journal.proofs.Fronts.{only_journal, front_place, bad_refused, bad_record, bad_gate}
use Rattle.history_journal.proofs.Places.{bad_place}
use Rattle.history_journal.proofs.replaying.replay_entries.Goals as goal

abbrev err_of : RecordStop → Result Unit RecordStop
err_of stop = Err stop

pub entries-preserved : goal.entries-preserved
entries-preserved c =
    let old = world_term c.entries.world in
    let new = world_term c.take_record.new.world in
    let here = c.entries.invariant in
    let t = c.in-Ok-take_record.ensures.ok in
    record {
      next = c.in-Ok-take_record.ensures.rest;
      standing = t.standing;
      front = taken_front c.args.bytes.now c.entries.rest.now c.in-Ok.record.now c.in-Ok.after.now old new here.front c.in-Ok.ensures.ok t;
      alone = taken_alone c.in-Ok.record.now old new here.standing here.alone t;
    }

pub returns-in-Err-Closed-clause-ok : goal.returns-in-Err-Closed-clause-ok
returns-in-Err-Closed-clause-ok c =
    let here = c.entries.invariant in
    let h = (world_term c.entries.world).history in
    record {
      standing = here.standing;
      only = only_journal c.args.bytes.now h c.entries.rest.now here.front (c.in-Err-Closed.ensures.closed c.in-Err-Closed.field-0-is) here.alone;
      place_is = front_place c.args.bytes.now h c.entries.rest.now here.front;
    }

pub returns-in-Err-Bad-take_record-clause-bad : goal.returns-in-Err-Bad-take_record-clause-bad
returns-in-Err-Bad-take_record-clause-bad c place is =
    let here = c.entries.invariant in
    let w = world_term c.entries.world in
    bad_place c.args.bytes.now _ place is
    (bad_refused c.args.bytes.now w.history c.entries.rest.now c.in-Ok.record.now c.in-Ok.after.now here.front (standing_legal w here.standing)
    c.in-Ok.ensures.ok here.alone (c.in-Err-Bad-take_record.ensures.bad (ap err_of c.in-Err-Bad-take_record.field-0-is)))

pub returns-in-Err-Bad-clause-bad : goal.returns-in-Err-Bad-clause-bad
returns-in-Err-Bad-clause-bad c place is =
    let here = c.entries.invariant in
    let w = world_term c.entries.world in
    bad_place c.args.bytes.now _ place is
    (bad_record c.args.bytes.now w.history c.entries.rest.now here.front (standing_legal w here.standing)
    (c.in-Err-Bad.ensures.bad c.in-Err-Bad.field-0-is))

pub returns-in-Err-Missing-clause-bad : goal.returns-in-Err-Missing-clause-bad
returns-in-Err-Missing-clause-bad c place is =
    let here = c.entries.invariant in
    let w = world_term c.entries.world in
    bad_place c.args.bytes.now _ place is
    (bad_gate c.args.bytes.now w.history c.entries.rest.now here.front (standing_legal w here.standing)
    (c.in-Err-Missing.ensures.missing c.in-Err-Missing.field-0-is))
