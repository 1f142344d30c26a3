use denote.Exit.{yes, no}
use denote.Param.{param, copied}
use denote.Param.Send.{IsSend, IsSync, param_send, param_sync, arg_send, arg_sync, shr_sync}
use denote.Param.SendFields.{FieldsHave, declared_sync}
use denote.Struct.Tuple.{type_at}
use denote.Ref.{ShrRef}
use mir.Syntax.{named}
use Rattle.std.proofs.Common.{[], ◌∷◌, codes}
use Rattle.std.proofs.Crossing as heap
use Rattle.std.specs.contracts.alloc.Global as global
use Rattle.page_board.specs.contracts.reader.BoardReader as reader
use Rattle.page_board.specs.contracts.writer.BoardWriter as writer
use Rattle.world_lock.specs.contracts.shared.Shared as shared
use Rattle.world_lock.proofs.SharingLemmas.{session_send, shared_sync}
use Rattle.world_lock_tests.proofs.tests.at_once.run.Goals as goal

pub map_vec-back-requires-send-J : goal.map_vec-back-requires-send-J
map_vec-back-requires-send-J g c κs within =
    let r : IsSend reader.the_row = record { owned = c.crosses.ensures.owned; leaving = λ k d w. tt } in
    param_send 1 _ (arg_send _ yes _ (session_send g.row.M g.row.R g.M.Mark g.M.Ledger c.entries_cross.ensures r))

pub map_vec-back-requires-send-X : goal.map_vec-back-requires-send-X
map_vec-back-requires-send-X g c κs within =
    let r : IsSend reader.the_row = record { owned = c.crosses.ensures.owned; leaving = λ k d w. tt } in
    param_send 2 _ (arg_send _ yes _ (session_send g.row.M g.row.R g.M.Mark g.M.Ledger c.entries_cross.ensures r))

pub map_vec-back-requires-sync-F : goal.map_vec-back-requires-sync-F
map_vec-back-requires-sync-F g c κs within =
    let M' = param 0 g.row.M in
    let R' = copied 1 g.row.R in
    let b : IsSend (writer.the_row R') = record { owned = c.crosses-2.ensures.owned; leaving = λ k d w. tt } in
    let world = shared_sync M' R' g.M.Mark g.M.Ledger c.worlds_cross.ensures b in
    let captures = ShrRef (named 7) κs.1.1.1.1.1.1.1.0 R' ∷ ShrRef (named 8) κs.1.1.1.1.1.1.1.1.0 global.the_row
    ∷ ShrRef (named 9) κs.1.1.1.1.1.1.1.1.1.0 (shared.the_row M' R' g.M.Mark g.M.Ledger) ∷ [] in
    let body = type_at (codes "world_lock_tests::tests::at_once::fn::run::map_vec+Self") captures in
    let parts : FieldsHave IsSync body.parts = (
      shr_sync _ _ _ c.type_bounds.sync-R,
      (shr_sync _ _ _ heap.sync, (shr_sync _ _ _ world, tt)),
    ) in
    param_sync 4 _ (arg_sync _ no _ (declared_sync body parts))
