-- What stands in a source or a sink in memory.
use Rattle.std.specs.Prelude.{◌≡◌, ◌==◌, ℕ, ◌+◌, ◌-◌, ◌^◌, List, length, min, Bool, if◌then◌else◌}
use Rattle.std.specs.List.{list_any}
use Rattle.edges.specs.declared.sink.Put.{Put}
use Rattle.edges.specs.declared.sink.Put.TheVariants.{Wrote, Failed as WriteFailed}

-- a source: the octets left, the calls so far, the numbers of the calls that fail, and how many have failed
pub record Reading : Type 0 where
  pub left : List ℕ
  pub calls : ℕ
  pub failing : List ℕ
  pub faults : ℕ

-- a sink: the octets written, and the same
pub record Writing : Type 0 where
  pub written : List ℕ
  pub calls : ℕ
  pub failing : List ℕ
  pub faults : ℕ

-- a sink that fails for want of memory alone
pub record SureWriting : Type 0 where
  pub written : List ℕ
  pub faults : ℕ

-- a count after one more, which stands still at the end of its type
abbrev pub counted : ℕ → ℕ
counted n = min (n + 1) (2 ^ 64 - 1)

-- whether the next call, after so many, is listed as one that fails
abbrev pub is_listed : ℕ → List ℕ → Bool
is_listed calls failing = list_any (λ n. n == counted calls) failing

abbrev pub fails_next : Reading → Bool
fails_next s = is_listed s.calls s.failing

abbrev pub fails_next_write : Writing → Bool
fails_next_write s = is_listed s.calls s.failing

-- the count of faults after the next read
abbrev pub faults_after : Reading → ℕ
faults_after s = if fails_next s then counted s.faults else s.faults

-- the count of faults after a write with this answer
abbrev pub put_faults : Put → ℕ → ℕ
put_faults (Wrote n) before = before
put_faults WriteFailed before = counted before

-- a write that didn't fail took all
abbrev pub TakesAll : Put → List ℕ → Type 0
TakesAll (Wrote n) from = n ≡ length from
TakesAll WriteFailed from = Unit {0}
