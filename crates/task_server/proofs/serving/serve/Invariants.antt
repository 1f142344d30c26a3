use Rattle.outer_gates.specs.Gates.{GateTold}
use Rattle.task_server.specs.Crews.{owned}
use Rattle.task_server.proofs.serving.serve.Given as goal

-- the ledgers that were just made
abbrev pub ghosts-serve_as-W-Ledger : goal.ghosts-serve_as-W-Ledger
ghosts-serve_as-W-Ledger g a = record { name = a.blanks.out.name; parts = a.blanks.out.parts }

abbrev pub ghosts-serve_as-W-Watch : goal.ghosts-serve_as-W-Watch
ghosts-serve_as-W-Watch g a = record { entry = g.G.Gate.told a.gate; limit = a.connections; held = owned a.sessions.items }

abbrev pub ghosts-serve_as-T-Ledger : goal.ghosts-serve_as-T-Ledger
ghosts-serve_as-T-Ledger g a = record { name = a.blanks.gained.name; parts = a.blanks.gained.parts }

abbrev pub ghosts-serve_as-E-Ledger : goal.ghosts-serve_as-E-Ledger
ghosts-serve_as-E-Ledger g a = record { name = a.blanks.told.name; parts = a.blanks.told.parts }
