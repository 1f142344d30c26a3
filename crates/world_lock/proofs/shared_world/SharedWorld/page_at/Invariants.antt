use Rattle.world_lock.proofs.shared_world.SharedWorld.page_at.Given as goal

abbrev pub ghosts-draw : goal.ghosts-draw
ghosts-draw g a = record { name = a.blank.name; parts = a.blank.parts }
