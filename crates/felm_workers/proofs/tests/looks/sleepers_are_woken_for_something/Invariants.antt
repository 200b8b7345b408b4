use Rattle.felm_workers.proofs.tests.looks.sleepers_are_woken_for_something.Given as goal

abbrev pub ghosts-looks : goal.ghosts-looks
ghosts-looks g a = record { name = a.blank.name; parts = a.blank.parts }
