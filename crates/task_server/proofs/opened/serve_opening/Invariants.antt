use Rattle.task_model.specs.Terms.Item.{history_term}
use Rattle.task_server.proofs.opened.serve_opening.Given as goal

-- the board and the ledger that were just made
abbrev pub ghosts-serve_marked-M-Ledger : goal.ghosts-serve_marked-M-Ledger
ghosts-serve_marked-M-Ledger g a = record { name = a.opening.name; parts = a.opening.seats }

abbrev pub ghosts-serve_marked-M-Mark : goal.ghosts-serve_marked-M-Mark
ghosts-serve_marked-M-Mark g a = record { board = a.opening.board; start = history_term a.opening.history; seats = a.opening.seats }
