use Rattle.task_table.proofs.tasks.end_in.Given as goal

abbrev pub ghosts-watch_anew : goal.ghosts-watch_anew
ghosts-watch_anew a = record { name = a.blank.name; parts = a.blank.parts }
