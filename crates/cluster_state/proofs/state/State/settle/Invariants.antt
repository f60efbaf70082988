use Rattle.cluster_state.proofs.state.State.settle.Given as goal

abbrev pub ghosts-settle_in : goal.ghosts-settle_in
ghosts-settle_in a = record { name = a.blank.name; parts = a.blank.parts }
