use Rattle.std.proofs.Common.{sym, subst, inl}
use Rattle.task_model.specs.Terms.Text.{Text}
use Rattle.task_model.specs.declared.widget.Face.TheVariants as faces
use Rattle.world_core.specs.World.{world_term}
use Rattle.world_core.specs.Pages.{IsWorldPage}
use Rattle.journal_runs.proofs.keeper.Keeper.show.Goals as goal

pub returns-in-Ok-clause-answers : goal.returns-in-Ok-clause-answers
returns-in-Ok-clause-answers g c = (
  subst (λ (z : Text). IsWorldPage faces.Text (world_term c.args.self.now.journal.world) c.args.seat z) (sym c.into_bytes.ensures)
      c.in-Ok.ensures.page,
  c.page.ensures.world,
)

pub returns-in-Ok-clause-moves : goal.returns-in-Ok-clause-moves
returns-in-Ok-clause-moves g c = inl (record { world = c.page.ensures.world; disk = c.page.ensures.disk; closed = c.page.ensures.closed })

pub returns-in-Err-clause-stops : goal.returns-in-Err-clause-stops
returns-in-Err-clause-stops g c = inl (record { world = c.page.ensures.world; disk = c.page.ensures.disk; closed = c.page.ensures.closed })
