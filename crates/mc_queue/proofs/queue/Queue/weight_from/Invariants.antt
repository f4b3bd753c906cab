use Rattle.mc_queue.proofs.queue.Queue.weight_from.Given as goal

abbrev pub ghosts-weight_behind : goal.ghosts-weight_behind
ghosts-weight_behind a = record { name = a.blank.name; parts = a.blank.parts }
