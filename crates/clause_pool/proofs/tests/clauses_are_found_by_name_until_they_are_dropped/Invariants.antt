use Rattle.clause_pool.proofs.tests.clauses_are_found_by_name_until_they_are_dropped.Given as goal

-- the ledger of the blank
abbrev pub ghosts-read_and_dropped : goal.ghosts-read_and_dropped
ghosts-read_and_dropped g a = record { name = a.blank.name; parts = a.blank.parts }
