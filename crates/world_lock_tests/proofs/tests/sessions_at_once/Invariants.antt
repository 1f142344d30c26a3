use Rattle.task_model.specs.Terms.Item.{history_term}
use Rattle.world_lock_tests.proofs.tests.sessions_at_once.Given as goal

-- the board and the ledger that were just made
abbrev pub ghosts-drilled-M-Ledger : goal.ghosts-drilled-M-Ledger
ghosts-drilled-M-Ledger g a = record { name = a.opening.name; parts = a.opening.seats }

abbrev pub ghosts-drilled-M-Mark : goal.ghosts-drilled-M-Mark
ghosts-drilled-M-Mark g a = record { board = a.opening.board; start = history_term a.opening.history; seats = a.opening.seats }
