use Rattle.world_lock.proofs.shared_world.SharedWorld.act.Given as goal

abbrev pub ghosts-happen : goal.ghosts-happen
ghosts-happen g a = record { name = a.blank.name; parts = a.blank.parts }
