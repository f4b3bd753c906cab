use Rattle.mc_queue.proofs.queue.Queue.look_from.Given as goal

abbrev pub ghosts-weight_moved : goal.ghosts-weight_moved
ghosts-weight_moved a = record { name = a.blank.name; parts = a.blank.parts }
