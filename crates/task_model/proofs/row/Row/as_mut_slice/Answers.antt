use Rattle.std.proofs.Common.{List, refl, ap, rules}
use Rattle.std.specs.List.{refill}
use Rattle.task_model.proofs.row.Row.as_mut_slice.Goals as goal

pub returns : goal.returns
returns g c =
    let inside = c.self.inside in
    let refilled = λ (w : List g.row.T.Denot). ap (λ n. refill n inside.items.items w) inside.items.ok.0 in (
      (refl, λ w. rw (← c.self.view_is) (λ i. record { list = refilled w i; spare = inside.spare })),
      record { writes_back = tt; value = search rules },
    )
