use Rattle.mc_queue.proofs.queue.Queue.greatest_sync_time_before.Given as goal

abbrev pub ghosts-nearest : goal.ghosts-nearest
ghosts-nearest a = record { name = a.blank.name; parts = a.blank.parts }
