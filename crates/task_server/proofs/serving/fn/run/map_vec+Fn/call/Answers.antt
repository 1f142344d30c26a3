use denote.Param.Send.{param_send, given_send}
use Rattle.task_server.proofs.serving.fn.run.map_vec+Fn.call.Goals as goal

-- what is asked of the type parameters is what was asked of them
pub map_vec-requires : goal.map_vec-requires
map_vec-requires g c =
    let s = c.requires.1.1.1.1.1.1.1 in
    (param_send 0 _ (given_send 0 _ g.row.M s.0), (param_send 1 _ (given_send 1 _ g.row.W s.1), (param_send 2 _ (given_send 2 _ g.row.T s.2), (param_send 3 _ (given_send 3 _ g.row.E s.3), (param_send 4 _ (given_send 4 _ g.row.G s.4), (record { owned = s.5.owned; leaving = λ k x w. tt }, (param_send 6 _ (given_send 6 _ g.row.G-Link s.6), (record { shared = s.7.shared }, (record { shared = s.8.shared }, (record { shared = s.9.shared }, (record { shared = s.10.shared }, record { shared = s.11.shared })))))))))))
