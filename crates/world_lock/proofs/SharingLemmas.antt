-- Sessions may go to other threads, and what is shared may be looked at by each of them, where its parts may.
use denote.RattleType.{RattleType}
use denote.Param.Send.{IsSend, IsSync, sendable, view_send}
use denote.Param.SendFields.{FieldsHave, declared_send, declared_sync, as_row_sync}
use Rattle.std.proofs.Crossing.{crosses, Vec-send}
use Rattle.std.proofs.sync.ledger.Book.TheSendSync as book
use Rattle.std.proofs.sync.ledger.Share.TheSendSync as share
use Rattle.std.specs.declared.sync.ledger.Ledger as ledger
use Rattle.task_model.specs.contracts.input.Entry as entry
use Rattle.world_core.specs.contracts.world.World as world
use Rattle.world_lock.specs.declared.mark.Mark as mark
use Rattle.world_lock.specs.contracts.shared_world.SharedWorld as shared_world
use Rattle.world_lock.specs.contracts.shared_world.SharedWorld.TheInside as shared_inside
use Rattle.world_lock.specs.contracts.shared.Shared as shared
use Rattle.page_board.specs.contracts.reader.BoardReader as reader
use Rattle.page_board.specs.contracts.writer.BoardWriter as writer
use Rattle.world_lock.specs.contracts.session.Session as session
use Rattle.world_lock.specs.contracts.session.Session.TheInside as session_inside

module _ (M R : RattleType) (m : mark.Ghosts M.Denot) (l : ledger.Ghosts M.Denot) where
  pub session_send : IsSend entry.the_row → IsSend reader.the_row → IsSend (session.the_row M m l)
  session_send e r =
      let O = session_inside.the_type M m l in
      let parts : FieldsHave IsSend O.parts = (
        search sendable,
        (search sendable, (r, (Vec-send entry.the_row e, (share.the_send M l, (search sendable, tt))))),
      )
      in view_send _ _ _ _ _ (declared_send O parts)

  shared_world_send : IsSend world.the_row → IsSend (writer.the_row R) → IsSend (shared_world.the_row M R m l)
  shared_world_send w b =
      let O = shared_inside.the_type M R m l in
      let parts : FieldsHave IsSend O.parts = (
        w,
        (b, (book.the_send M l, (share.the_send M l, tt))),
      )
      in view_send _ _ _ _ _ (declared_send O parts)

  pub shared_sync : IsSend world.the_row → IsSend (writer.the_row R) → IsSync (shared.the_row M R m l)
  shared_sync w b =
      let s = shared_world_send w b in
      let O = shared.the_type M R m l in
      let parts : FieldsHave IsSync O.parts = (
        search (s, crosses, sendable) depth 20,
        (search sendable, (search (crosses, as_row_sync, sendable) depth 20, tt)),
      )
      in declared_sync O parts
