-- The threads run the scenario of the laboratory that is handed in.
use Rattle.lab_runner.proofs.runner.run_threads.Given as goal

-- its scenario is the named one
abbrev pub ghosts-run_named : goal.ghosts-run_named
ghosts-run_named g a = record { scenario = a.lab.scenario }
