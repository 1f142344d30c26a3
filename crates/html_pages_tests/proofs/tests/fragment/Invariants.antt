use Rattle.html_pages_tests.proofs.tests.fragment.Given as goal

abbrev pub ghosts-drawn : goal.ghosts-drawn
ghosts-drawn a = record { name = a.blank.name; parts = a.blank.parts }
