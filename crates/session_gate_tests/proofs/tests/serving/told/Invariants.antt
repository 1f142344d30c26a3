use Rattle.session_gate_tests.proofs.tests.serving.told.Given as goal

abbrev pub ghosts-told_at : goal.ghosts-told_at
ghosts-told_at g a = record { name = a.blank.name; parts = a.blank.parts }
