use Rattle.first_uip.proofs.reads.lits_of.Given as goal

-- the ledger is that of the blank
abbrev pub ghosts-read : goal.ghosts-read
ghosts-read a = record { name = a.blank.name; parts = a.blank.parts }
