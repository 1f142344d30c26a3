-- A worker may go to another thread where its sessions may.
use denote.RattleType.{RattleType}
use denote.Param.Send.{IsSend, sendable, view_send, recorded_send, struct_send}
use denote.Struct.Declared.{shape}
use Rattle.std.proofs.Crossing.{crosses}
use Rattle.std.specs.declared.sync.ledger.Ledger as ledger
use Rattle.session_gate.proofs.trace.Trace.TheSendSync as trace
use Rattle.world_lock.specs.declared.mark.Mark as mark
use Rattle.world_lock.specs.contracts.session.Session as session
use Rattle.task_server.specs.declared.watch.Watch as watch
use Rattle.task_server.specs.contracts.crew.Crew as crew
use Rattle.task_server.specs.contracts.crew.Crew.TheInside as inside
use Rattle.task_server.proofs.shares.Shares.TheSendSync as shares

module _ (M W T E : RattleType) (m : mark.Ghosts M.Denot) (l : ledger.Ghosts M.Denot) (v : watch.Ghosts W.Denot) (w : ledger.Ghosts W.Denot)
    (t : ledger.Ghosts T.Denot) (e : ledger.Ghosts E.Denot) (s : IsSend (session.the_row M m l)) where
  inside_send : IsSend (inside.the_row M W T E m l v w t e)
  inside_send =
      let O = inside.the_type M W T E m l v w t e in
      recorded_send (inside.the_field M W T E m l v w t e).row _ _ O.to_one (struct_send (shape O) (
        search (sendable, crosses, s) depth 12,
        (shares.the_field_send W T E w t e, (trace.the_field_send, tt)),
      ))

  pub crew_send : IsSend (crew.the_row M W T E m l v w t e)
  crew_send = view_send _ _ _ _ _ inside_send
