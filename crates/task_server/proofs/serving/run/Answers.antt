use denote.Exit.{yes, no}
use denote.Param.{param, copied}
use denote.Param.Send.{IsSend, IsSync, param_send, param_sync, arg_send, arg_sync, shr_sync, sendable}
use denote.Param.SendFields.{FieldsHave, declared_sync}
use denote.Struct.Tuple.{type_at}
use denote.Ref.{ShrRef}
use mir.Syntax.{named}
use Rattle.std.proofs.Common.{◌≡◌, List, [], ◌∷◌, codes, length, slice_index_or, sym, subst, arith}
use Rattle.std.proofs.Crossing.{crosses}
use Rattle.std.proofs.Crossing as heap
use Rattle.std.specs.contracts.sync.Mutex as mutex
use Rattle.std.specs.contracts.alloc.Global as global
use Rattle.page_board.specs.contracts.reader.BoardReader as reader
use Rattle.page_board.specs.contracts.writer.BoardWriter as writer
use Rattle.world_lock.specs.Closings.{HasSessionOf}
use Rattle.world_lock.specs.Sessions.{SeenSession}
use Rattle.world_lock.specs.contracts.session.Session as session
use Rattle.world_lock.specs.contracts.shared.Shared as shared
use Rattle.task_server.specs.Crews.{CrewTerm, HasWorked, desks}
use Rattle.task_server.specs.contracts.porch.Porch as porch
use Rattle.task_server.proofs.CrewLemmas.{worked_each, worked_seats, worked_told}
use Rattle.task_server.proofs.SendLemmas.{crew_send}
use Rattle.world_lock.proofs.SharingLemmas.{session_send, shared_sync}
use Rattle.task_server.proofs.serving.run.Goals as goal

pub crosses-requires-2-send-X : goal.crosses-requires-2-send-X
crosses-requires-2-send-X g c κs within =
    let r : IsSend reader.the_row = record { owned = c.crosses.ensures.owned; leaving = λ k d w. tt } in
    param_send 0 _ (arg_send _ yes _ (session_send g.row.M g.row.R g.M.Mark g.M.Ledger c.entries_cross.ensures r))

pub map_vec-back-requires-send-J : goal.map_vec-back-requires-send-J
map_vec-back-requires-send-J g c κs within =
    let s : IsSend (session.the_row g.row.M g.M.Mark g.M.Ledger) = record { owned = c.crosses-2.ensures.owned; leaving = λ k d w. tt } in
    param_send 1 _ (arg_send _ yes _ (crew_send g.row.M g.row.W g.row.T g.row.E g.M.Mark g.M.Ledger g.W.Watch g.W.Ledger g.T.Ledger g.E.Ledger s))

pub map_vec-back-requires-send-X : goal.map_vec-back-requires-send-X
map_vec-back-requires-send-X g c κs within =
    let s : IsSend (session.the_row g.row.M g.M.Mark g.M.Ledger) = record { owned = c.crosses-2.ensures.owned; leaving = λ k d w. tt } in
    param_send 2 _ (arg_send _ yes _ (crew_send g.row.M g.row.W g.row.T g.row.E g.M.Mark g.M.Ledger g.W.Watch g.W.Ledger g.T.Ledger g.E.Ledger s))

pub map_vec-back-requires-sync-F : goal.map_vec-back-requires-sync-F
map_vec-back-requires-sync-F g c κs within =
    let M' = param 0 g.row.M in
    let R' = copied 5 g.row.R in
    let b : IsSend (writer.the_row R') = record { owned = c.crosses-4.ensures.owned; leaving = λ k d w. tt } in
    let world = shared_sync M' R' g.M.Mark g.M.Ledger c.worlds_cross.ensures b in
    let held : IsSend (porch.the_row M' (param 1 g.row.W) (param 2 g.row.T) (param 3 g.row.E) (param 4 g.row.G) (param 6 g.row.G-Link)
    g.M.Mark g.M.Ledger g.W.Watch g.W.Ledger g.T.Ledger g.E.Ledger g.G.Gate g.G.Link.Link g.G.Link.Source g.G.Link.Sink) =
    record { owned = c.crosses-5.ensures.owned; leaving = λ k d w. tt } in
    let held_row = porch.the_row M' (param 1 g.row.W) (param 2 g.row.T) (param 3 g.row.E) (param 4 g.row.G) (param 6 g.row.G-Link) g.M.Mark
    g.M.Ledger g.W.Watch g.W.Ledger g.T.Ledger g.E.Ledger g.G.Gate g.G.Link.Link g.G.Link.Source g.G.Link.Sink in
    let lock : IsSync (mutex.the_row held_row) = search (held, crosses, sendable) depth 20 in
    let captures = ShrRef (named 7) κs.1.1.1.1.1.1.1.0 R' ∷ ShrRef (named 8) κs.1.1.1.1.1.1.1.1.0 global.the_row
    ∷ ShrRef (named 9) κs.1.1.1.1.1.1.1.1.1.0 (mutex.the_row held_row)
    ∷ ShrRef (named 10) κs.1.1.1.1.1.1.1.1.1.1.0 (shared.the_row M' R' g.M.Mark g.M.Ledger) ∷ [] in
    let body = type_at (codes "task_server::serving::fn::run::map_vec+Self") captures in
    let parts : FieldsHave IsSync body.parts = (
      shr_sync _ _ _ c.type_bounds.sync-R,
      (shr_sync _ _ _ heap.sync, (shr_sync _ _ _ lock, (shr_sync _ _ _ world, tt))),
    ) in
    param_sync 4 _ (arg_sync _ no _ (declared_sync body parts))

pub settle-requires-clause-told : goal.settle-requires-clause-told
settle-requires-clause-told g c κs within =
    let olds = c.args.crews.items in
    let news = c.in-Ok.back.items in
    let same : length news ≡ length olds = omega (arith, c.in-Ok.ensures.len, c.in-Ok.back.ok, c.args.crews.ok) in
    let w = worked_each olds news same (λ i d e less.
    let job = (c.in-Ok.ensures.each i e less).1 in
    subst (λ (x : CrewTerm). HasWorked x (slice_index_or news i e)) (sym (job.job_is d)) job.call.met) in
    let told = worked_told olds news w in (
      omega (arith, c.in-Ok-gather.ensures.parts.2, same, c.requires.parts.2, c.requires.each.2),
      omega (arith, c.in-Ok-gather.ensures.amounts.2, told, c.requires.amounts.2, c.requires.some.0, c.requires.some.1),
    )

pub returns-clause-seats : goal.returns-clause-seats
returns-clause-seats g c = λ seat h.
    let olds = c.args.crews.items in
    let news = c.in-Ok.back.items in
    let same : length news ≡ length olds = omega (arith, c.in-Ok.ensures.len, c.in-Ok.back.ok, c.args.crews.ok) in
    let w = worked_each olds news same (λ i d e less.
    let job = (c.in-Ok.ensures.each i e less).1 in
    subst (λ (x : CrewTerm). HasWorked x (slice_index_or news i e)) (sym (job.job_is d)) job.call.met) in
    subst (λ (ss : List SeenSession). HasSessionOf (desks ss) seat) (sym c.in-Ok-gather.ensures.sessions) (worked_seats olds news w seat h)
