-- The connections of one opening, which are numbered from 1.
use Rattle.std.specs.Prelude.{◌≡◌, ◌≤◌, ◌<◌, ◌+◌, ◌^◌, ◌==◌, ◌&&◌, ⊤, ℕ, suc, Bool, true, List, [], ◌∷◌, length}
use Rattle.cluster_types.specs.declared.entry.Input.{Input as InputType}
use Rattle.cluster_types.specs.declared.entry.Input.TheVariants.{Open, Up}
use Rattle.cluster_types.specs.declared.entry.Entry.TheVariants.{Input}
use Rattle.cluster_defs.specs.Histories.{History, facts}
use Rattle.cluster_core.specs.Size.{since_open}
use Rattle.cluster_store.specs.Stores.{StoreView}

-- how many connections came up since the last Open
abbrev pub ups : History → ℕ
ups [] = 0
ups (Input (Open moment scheme hwm misses) ∷ older) = 0
ups (Input (Up conn channel moment word identity) ∷ older) = suc (ups older)
ups (_ ∷ older) = ups older

-- each of them has its place among them for a number, from 1
abbrev pub numbered : History → Bool
numbered [] = true
numbered (Input (Open moment scheme hwm misses) ∷ older) = true
numbered (Input (Up conn channel moment word identity) ∷ older) = (conn == suc (ups older)) && numbered older
numbered (_ ∷ older) = numbered older

-- a connection that comes up has the next number
abbrev pub HasNextNumber : History → InputType → Type 0
HasNextNumber history (Up conn channel moment word identity) = conn ≡ suc (ups history)
HasNextNumber history _ = ⊤

-- how many came up, after an input that is no Open
abbrev pub ups_after : InputType → ℕ → ℕ
ups_after (Up conn channel moment word identity) n = suc n
ups_after _ n = n

-- a store for a desk: its limits have 32 bits, an Open stands, all up to the last Open with its decisions is safe, and
-- the connections since then are numbered from 1
pub record IsSet {D : Type 0} (v : StoreView D) : Type 0 where
  pub entries : v.limits.entries + 1 < 2 ^ 32
  pub bytes : v.limits.bytes < 2 ^ 32
  pub begun : (facts v.history).begun ≡ true
  pub safe : length v.history ≤ v.mark + length (since_open v.history)
  pub numbers : numbered v.history ≡ true
  pub counted : ups v.history ≤ v.limits.entries
