-- What is kept while a tape is served.
use Rattle.std.specs.Prelude.{◌≡◌, ℕ, List, [], None}
use Rattle.tape.specs.declared.record.TapeRecord.{TapeRecord}
use Rattle.tape_drive.specs.Drive.{Stand, served, outs}
use Rattle.cluster_defs.specs.Scheduling.{due}
use Rattle.cluster_defs.specs.Histories.{History, facts, Legal}

-- a legal history after which no decision is due
abbrev pub Rests : History → Type 0
Rests history = Legal history × (due (facts history) ≡ None)

-- a record that leaves the history as it was, and for which nothing is sent
abbrev pub Unheard : List ℕ → Stand → TapeRecord → Type 0
Unheard key s r = ((served key s r).history ≡ s.history) × (outs key s r ≡ [])
