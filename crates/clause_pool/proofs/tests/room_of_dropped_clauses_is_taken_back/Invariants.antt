use Rattle.clause_pool.proofs.tests.room_of_dropped_clauses_is_taken_back.Given as goal

-- the ledger of the blank
abbrev pub ghosts-packed : goal.ghosts-packed
ghosts-packed g a = record { name = a.blank.name; parts = a.blank.parts }
