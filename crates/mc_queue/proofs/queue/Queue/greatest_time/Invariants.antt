use Rattle.mc_queue.proofs.queue.Queue.greatest_time.Given as goal

abbrev pub ghosts-greatest : goal.ghosts-greatest
ghosts-greatest a = record { name = a.blank.name; parts = a.blank.parts }
