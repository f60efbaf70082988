use Rattle.std.proofs.Common.{[], refl}
use Rattle.cluster_types.specs.declared.entry.Input.TheVariants.{Open}
use Rattle.tape.specs.Tape.{blank, records}
use Rattle.tape_drive.specs.Drive.{start}
use Rattle.tape_drive.proofs.Lawful.{stand_rests, begin_rests}
use Rattle.tape_drive.proofs.laws.histories_are_legal.Goals as goal

pub returns : goal.returns
returns c = λ key limits scheme hwm misses octets.
    stand_rests key (start [] limits scheme hwm misses) (records blank octets) (begin_rests [] (Open 0 scheme hwm misses) (tt, refl) refl)
