-- What the adapters do to the octets of a reader or a writer, where std knows these.
use Rattle.std.specs.Prelude.{ℕ, List, take, Option}
use Rattle.std.specs.Io.KnownBytes.{Consumes, Appends, Keeps, IsAtEnd}
use Rattle.edges.specs.declared.source.Got.{Got}
use Rattle.edges.specs.declared.source.Got.TheVariants.{Bytes, End, Failed as ReadFailed}
use Rattle.edges.specs.declared.sink.Put.{Put}
use Rattle.edges.specs.declared.sink.Put.TheVariants.{Wrote, Failed as WriteFailed}

-- the reader gave these octets, has none left, or lost none
abbrev pub GivesOf : Got → Option (List ℕ) → Option (List ℕ) → List ℕ → Type 0
GivesOf (Bytes n) old new into = Consumes old new (take n into)
GivesOf End old new into = IsAtEnd new
GivesOf ReadFailed old new into = Keeps old new

-- the writer took these octets, or none
abbrev pub TakesOf : Put → Option (List ℕ) → Option (List ℕ) → List ℕ → Type 0
TakesOf (Wrote n) old new from = Appends old new (take n from)
TakesOf WriteFailed old new from = Keeps old new
