use Rattle.task_server.proofs.PorchLemmas.{porch_out}
use Rattle.task_server.proofs.porch.Porch.take.Goals as goal

pub invariant_of-self : goal.invariant_of-self
invariant_of-self g c =
    let (hands, fresh, less, begun, still) = c.in-Some.ensures.some in
    let old = c.self.invariant.1 in (
      c.self.invariant.0,
      porch_out old _ _ (g.G.Gate.tells c.in-Some.link) _ hands less begun still (c.next_link.ensures.state g.W.Watch.entry old.state_is)
          c.next_link.ensures.finished c.add.ensures.total,
    )
