use Rattle.std.proofs.Common.{refl}
use Rattle.task_model.specs.Terms.Input.{EntryTerm, entry_term}
use Rattle.world_core.specs.World.{world_term}
use Rattle.history_journal.proofs.Legal.{unread_illegal, refused_illegal, not_offered_illegal, over_illegal}
use Rattle.history_journal.proofs.Replies.{not_offered_in, over_in}
use Rattle.history_journal.proofs.replaying.take_record.Goals as goal

pub returns-in-Err-Bad-clause-bad : goal.returns-in-Err-Bad-clause-bad
returns-in-Err-Bad-clause-bad c is =
    unread_illegal (world_term c.args.world.now) c.history-legal.ensures.standing c.args.bytes.now (c.in-Err-Bad.ensures.bad c.in-Err-Bad.field-0-is)

pub returns-in-Err-NotOffered-clause-bad : goal.returns-in-Err-NotOffered-clause-bad
returns-in-Err-NotOffered-clause-bad c is =
    let w = world_term c.args.world.now in
    let e = entry_term c.in-Ok.entry in
    refused_illegal w c.history-legal.ensures.standing c.args.bytes.now e c.in-Ok.ensures.ok.0
    (not_offered_illegal w c.history-legal.ensures.standing e
    (not_offered_in w (world_term c.handle.new.self) e c.in-Err-NotOffered.field-0 c.in-Err-NotOffered.field-0-is c.in-Err-NotOffered.ensures.replies))

pub returns-in-Err-Over-clause-bad : goal.returns-in-Err-Over-clause-bad
returns-in-Err-Over-clause-bad c is =
    let w = world_term c.args.world.now in
    let e = entry_term c.in-Ok.entry in
    refused_illegal w c.history-legal.ensures.standing c.args.bytes.now e c.in-Ok.ensures.ok.0
    (over_illegal w c.history-legal.ensures.standing e
    (over_in w (world_term c.handle.new.self) e c.in-Err-Over.field-0 c.in-Err-Over.field-0-is c.in-Err-Over.ensures.replies))

pub returns-clause-ok : goal.returns-clause-ok
returns-clause-ok c =
    let r = c.in-Ok-handle.ensures.replies in
    record {
      entry = entry_term c.in-Ok.entry;
      state = r.0;
      are = c.in-Ok.ensures.ok.0;
      outcome = r.1;
      world = r.2;
      standing = c.history-legal-2.ensures.standing;
    }
