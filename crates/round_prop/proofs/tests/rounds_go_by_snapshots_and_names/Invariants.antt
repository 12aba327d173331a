use Rattle.round_prop.proofs.tests.rounds_go_by_snapshots_and_names.Given as goal

-- the ledger is that of the blank
abbrev pub ghosts-check_all : goal.ghosts-check_all
ghosts-check_all g a = record { name = a.blank.name; parts = a.blank.parts }
