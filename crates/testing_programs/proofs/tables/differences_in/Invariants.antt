use Rattle.testing_programs.proofs.tables.differences_in.Given as goal

abbrev pub ghosts-counted_differences : goal.ghosts-counted_differences
ghosts-counted_differences g a = record { name = a.blank.name; parts = a.blank.parts }
