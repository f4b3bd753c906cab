use Rattle.mc_queue.proofs.queue.Queue.has_sync_from.Given as goal

abbrev pub ghosts-is_any_wanted : goal.ghosts-is_any_wanted
ghosts-is_any_wanted a = record { name = a.blank.name; parts = a.blank.parts }
