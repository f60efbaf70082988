use Rattle.tape_drive.proofs.Outs.{frames_are}
use Rattle.tape_drive.proofs.Stepping.{input_goes}
use Rattle.tape_drive.proofs.Tapes.{tape_goes}
use Rattle.tape_drive.proofs.life_laws.outputs_are_sent.Goals as goal

pub returns : goal.returns
returns c = record { frames = frames_are; steps = input_goes; moves = tape_goes }
