use Rattle.mc_queue.proofs.queue.Queue.least_sync_time_after.Given as goal

abbrev pub ghosts-nearest : goal.ghosts-nearest
ghosts-nearest a = record { name = a.blank.name; parts = a.blank.parts }
