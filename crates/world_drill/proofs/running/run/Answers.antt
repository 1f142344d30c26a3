use denote.Exit.{yes, no}
use denote.Hole.{as_row}
use denote.Param.{param, copied}
use denote.Param.Send.{IsSend, IsSync, param_send, param_sync, arg_send, arg_sync, shr_sync, sendable}
use denote.Param.SendFields.{FieldsHave, declared_sync}
use denote.Struct.Field.{u32-field}
use denote.Struct.Tuple.{type_at}
use denote.Ref.{ShrRef}
use mir.Syntax.{named}
use Rattle.std.proofs.Common.{◌≡◌, ◌∙◌, [], ◌∷◌, Ok, IfOk, codes, length, map, slice_index_or, ap, sym, subst, arith}
use Rattle.std.proofs.Crossing as heap
use Rattle.std.specs.contracts.alloc.Global as global
use Rattle.page_board.specs.contracts.reader.BoardReader as reader
use Rattle.page_board.specs.contracts.writer.BoardWriter as writer
use Rattle.world_lock.specs.Sessions.{SeenSession, session_term}
use Rattle.world_lock.specs.contracts.shared.Shared as shared
use Rattle.world_drill.specs.Drilled.{HasGiven, HaveGiven}
use Rattle.world_drill.proofs.DrilledLemmas.{given_each, if_ok, oks_length}
use Rattle.world_lock.proofs.SharingLemmas.{session_send, shared_sync}
use Rattle.world_drill.proofs.running.run.Goals as goal

pub map_vec-requires-send-J : goal.map_vec-requires-send-J
map_vec-requires-send-J g c κs within =
    let r : IsSend reader.the_row = record { owned = c.crosses.ensures.owned; leaving = λ k d w. tt } in
    param_send 1 _ (arg_send _ yes _ (session_send g.row.M g.row.R g.M.Mark g.M.Ledger c.entries_cross.ensures r))

pub map_vec-requires-sync-F : goal.map_vec-requires-sync-F
map_vec-requires-sync-F g c κs within =
    let M' = param 0 g.row.M in
    let R' = copied 1 g.row.R in
    let b : IsSend (writer.the_row R') = record { owned = c.crosses-2.ensures.owned; leaving = λ k d w. tt } in
    let world = shared_sync M' R' g.M.Mark g.M.Ledger c.worlds_cross.ensures b in
    let number : IsSync (as_row u32-field) = search sendable in
    let captures = ShrRef (named 7) κs.1.1.1.1.1.1.1.0 R' ∷ ShrRef (named 8) κs.1.1.1.1.1.1.1.1.0 global.the_row
    ∷ ShrRef (named 9) κs.1.1.1.1.1.1.1.1.1.0 (shared.the_row M' R' g.M.Mark g.M.Ledger)
    ∷ ShrRef (named 10) κs.1.1.1.1.1.1.1.1.1.1.0 (as_row u32-field) ∷ [] in
    let body = type_at (codes "world_drill::running::fn::run::map_vec+Self") captures in
    let parts : FieldsHave IsSync body.parts = (
      shr_sync _ _ _ c.type_bounds.sync-R,
      (shr_sync _ _ _ heap.sync, (shr_sync _ _ _ world, (shr_sync _ _ _ number, tt))),
    ) in
    param_sync 4 _ (arg_sync _ no _ (declared_sync body parts))

pub returns : goal.returns
returns g c =
    let olds = c.args.sessions.items in
    if_ok c.gather.result (λ back. c.in_ok-back.back.items ≡ map Ok back.items)
    (λ back. HaveGiven c.args.each (map session_term olds) (map session_term back.items))
    (λ back is.
    let count = ap length is ∙ oks_length back.items in
    let same : length back.items ≡ length olds =
    omega (arith, count, c.in_ok-back.ensures.len, c.in_ok-back.back.ok, c.args.sessions.ok) in
    given_each c.args.each olds back.items same (λ i d e less.
    let job = (c.in_ok-back.ensures.each i e less).1 in
    let met = subst
    (λ (s : SeenSession). IfOk (slice_index_or c.in_ok-back.back.items i e) (λ t. HasGiven c.args.each (session_term s) (session_term t)))
    (sym (job.job_is d)) job.call.met in
    subst
    (λ rs. IfOk (slice_index_or rs i e) (λ t. HasGiven c.args.each (session_term (slice_index_or olds i d)) (session_term t)))
    is met))
    c.gather.ensures
