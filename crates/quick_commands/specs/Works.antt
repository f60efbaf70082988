-- How generated work ends.
use Rattle.std.specs.Prelude.{◌≡◌, ◌≢◌, ℕ, List, [], Option}
use Rattle.command_words.specs.declared.ending.Ending.{Ending}
use Rattle.command_words.specs.declared.ending.Ending.TheVariants as endings
use Rattle.edges.specs.Streams.{AddedFront, Added}
use Rattle.quick_commands.specs.declared.summary.Summary.{Summary}
use Rattle.quick_commands.specs.Summary.{summary_lines}
use Rattle.quick_commands.specs.declared.fault.WorkError.{WorkError}
use Rattle.quick_commands.specs.declared.fault.WorkError.TheVariants.{NotEmpty, DiskFault, HistoryFull, OutOfMemory}
use Rattle.quick_commands.specs.Ends.{IsWorked, IsStopped}

-- how writing a text ends: it was written, or a front of it, or there was no memory for it
abbrev pub PrintEnds : List ℕ → (before now : Option (List ℕ)) → Ending → Type 0
PrintEnds text before now endings.Done = Added text before now
PrintEnds text before now endings.WriteFault = AddedFront text before now
PrintEnds text before now endings.OutOfMemory = now ≡ before
PrintEnds text before now _ = ⊥

-- how the program ends where the work isn't done
abbrev pub ending_of : WorkError → Ending
ending_of (NotEmpty place) = endings.Damaged place
ending_of DiskFault = endings.DiskFault
ending_of (HistoryFull size) = endings.HistoryFull size.entries size.bytes
ending_of OutOfMemory = endings.OutOfMemory

-- all was done over a disk that was empty, and this is of its summary
pub record IsSummedUp (tells : Type 0) (content : List ℕ) (seed tasks : ℕ) (image : List ℕ → Type 0) (P : List ℕ → Type 0) : Type 0 where
  pub empty : tells → content ≡ []
  pub summary : Summary
  pub worked : IsWorked tells seed tasks image summary
  pub lines : P (summary_lines summary)

-- how generated work ends: its summary is written, or a front of it; the next step would pass a limit; or the disk isn't empty
abbrev pub WorkEnds : (tells : Type 0) → List ℕ → (seed tasks : ℕ) → (before now : Option (List ℕ)) → (image : List ℕ → Type 0) → Ending → Type 0
WorkEnds tells content seed tasks before now image endings.Done = IsSummedUp tells content seed tasks image (λ lines. Added lines before now)
WorkEnds tells content seed tasks before now image endings.WriteFault = IsSummedUp tells content seed tasks image (λ lines. AddedFront lines before now)
WorkEnds tells content seed tasks before now image (endings.HistoryFull entries bytes) =
    (now ≡ before) × (tells → content ≡ []) × IsStopped tells seed tasks (record { entries = entries; bytes = bytes })
WorkEnds tells content seed tasks before now image (endings.Damaged place) = (now ≡ before) × (tells → (place ≡ 0) × (content ≢ []))
WorkEnds tells content seed tasks before now image endings.DiskFault = now ≡ before
WorkEnds tells content seed tasks before now image endings.OutOfMemory = now ≡ before
WorkEnds tells content seed tasks before now image _ = ⊥
