use Rattle.std.proofs.Common.{◌≡◌, ◌+◌, ◌-◌, ◌++◌, length, true}
use Rattle.task_model.specs.Terms.Text.{Text}
use Rattle.http_requests.specs.Knowledge.{HasRead}
use Rattle.session_gate.specs.Connections.{HasGivenAll}
use Rattle.session_gate.specs.Readings.{Reading}
use Rattle.session_gate.proofs.ReadingLemmas.{unless_ended}
use Rattle.session_gate.proofs.reading.next_request.Given as goal

abbrev pub invariant-reading : goal.invariant-reading
invariant-reading g l = record {
  reading : Reading (g.K.Link.told l.initial.link) (g.K.Link.told l.link) l.initial.kept.items l.kept.items;
  read : (more : Text) → HasRead l.reader (l.kept.items ++ more);
  faults : (g.K.Link.told l.link).read_faults ≡ (g.K.Link.told l.initial.link).read_faults;
  ended : l.ended ≡ true → HasGivenAll (g.K.Link.told l.initial.link).left (g.K.Link.told l.link).left;
}

abbrev pub decreases-reading : goal.decreases-reading
decreases-reading g l = (73728 - length l.kept.items) + unless_ended l.ended
