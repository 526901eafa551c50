-- The turns are those of the laboratory's own scenario.
use Rattle.test_rows.proofs.tests.threads.no_lines_take_turns.Given as goal

abbrev pub ghosts-takes_turns : goal.ghosts-takes_turns
ghosts-takes_turns a = record { scenario = a.lab.scenario }
