use Rattle.turn_bench.proofs.cell.place_in_film.Given as goal

abbrev pub ghosts-turn_beside : goal.ghosts-turn_beside
ghosts-turn_beside g a = record { board = a.board.now }
