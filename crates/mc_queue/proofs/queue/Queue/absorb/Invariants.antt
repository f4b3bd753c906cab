use Rattle.mc_queue.proofs.queue.Queue.absorb.Given as goal

abbrev pub ghosts-weight_behind : goal.ghosts-weight_behind
ghosts-weight_behind a = record { name = a.blank.name; parts = a.blank.parts }

abbrev pub ghosts-next_wanted : goal.ghosts-next_wanted
ghosts-next_wanted a = record { name = a.blank.name; parts = a.blank.parts }
