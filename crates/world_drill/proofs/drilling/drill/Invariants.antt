use Rattle.task_model.specs.Terms.Item.{history_term}
use Rattle.world_drill.proofs.drilling.drill.Given as goal

-- the board and the ledger that were just made
abbrev pub ghosts-drill_marked-M-Ledger : goal.ghosts-drill_marked-M-Ledger
ghosts-drill_marked-M-Ledger g a = record { name = a.opening.name; parts = a.opening.seats }

abbrev pub ghosts-drill_marked-M-Mark : goal.ghosts-drill_marked-M-Mark
ghosts-drill_marked-M-Mark g a = record { board = a.opening.board; start = history_term a.opening.history; seats = a.opening.seats }
