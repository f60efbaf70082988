use Rattle.tape_drive.proofs.Runs.{runs_are_life, runs_belong, left_is_next}
use Rattle.tape_drive.proofs.life_laws.runs_are_one_life.Goals as goal

pub returns : goal.returns
returns c = record { life = runs_are_life; belong = runs_belong; next = left_is_next }
