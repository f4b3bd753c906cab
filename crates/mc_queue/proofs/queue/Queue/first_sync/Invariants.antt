use Rattle.mc_queue.proofs.queue.Queue.first_sync.Given as goal

abbrev pub ghosts-first_wanted : goal.ghosts-first_wanted
ghosts-first_wanted a = record { name = a.blank.name; parts = a.blank.parts }
