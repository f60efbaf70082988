use Rattle.cluster_store.proofs.Stepping.{all_written}
use Rattle.tape_drive.proofs.Again.{record_again}
use Rattle.cluster_store.proofs.Outs.{outs_are}
use Rattle.tape_drive.proofs.Talks.{talk_is_stream}
use Rattle.tape_drive.proofs.life_laws.definitions_agree.Goals as goal

pub returns : goal.returns
returns c = record { outs = outs_are; kept = all_written; records = record_again; talk = talk_is_stream }
