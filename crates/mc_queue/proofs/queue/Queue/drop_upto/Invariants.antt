use Rattle.mc_queue.proofs.queue.Queue.drop_upto.Given as goal

abbrev pub ghosts-next_after : goal.ghosts-next_after
ghosts-next_after a = record { name = a.blank.name; parts = a.blank.parts }
