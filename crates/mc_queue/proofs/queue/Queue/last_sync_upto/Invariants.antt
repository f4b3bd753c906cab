use Rattle.mc_queue.proofs.queue.Queue.last_sync_upto.Given as goal

abbrev pub ghosts-last_wanted : goal.ghosts-last_wanted
ghosts-last_wanted a = record { name = a.blank.name; parts = a.blank.parts }
