use Rattle.world_hub.proofs.own.answer_job.Given as goal

abbrev pub ghosts-answer_own : goal.ghosts-answer_own
ghosts-answer_own a = record { name = a.blank.name; parts = a.blank.parts }
