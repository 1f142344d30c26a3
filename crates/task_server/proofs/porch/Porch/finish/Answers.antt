use Rattle.std.proofs.Common.{◌∙◌}
use Rattle.task_server.proofs.AnswerLemmas.{answered_on, terms_on}
use Rattle.task_server.proofs.PorchLemmas.{porch_back}
use Rattle.task_server.proofs.porch.Porch.finish.Goals as goal

pub invariant_of-self : goal.invariant_of-self
invariant_of-self g c =
    let link = g.G.Gate.tells c.args.link in
    let answered = answered_on g.M.Mark.start _ _ link c.args.count (terms_on _ _ c.reach.ensures.theirs) c.requires.answered in
    let done = c.finish.ensures in (
      c.reach.ensures.board ∙ c.self.invariant.0,
      porch_back c.self.invariant.1 _ link c.args.count _ _ _ (terms_on _ _ c.reach.ensures.mine) answered done.left done.count done.finished
          c.sub.ensures.total c.add.ensures.total,
    )
