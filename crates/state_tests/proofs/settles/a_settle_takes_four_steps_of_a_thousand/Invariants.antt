use Rattle.state_tests.proofs.settles.a_settle_takes_four_steps_of_a_thousand.Given as goal

abbrev pub ghosts-three_of_a_thousand : goal.ghosts-three_of_a_thousand
ghosts-three_of_a_thousand g a = record { name = a.blank.name; parts = a.blank.parts }
