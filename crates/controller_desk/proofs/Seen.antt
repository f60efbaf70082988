-- What passes have seen after a turn.
use Rattle.std.proofs.Common.{◌≡◌, ℕ, ◌+◌, ◌-◌, ◌^◌, ◌≤◌, min, true, ap, arith}
use Rattle.std.proofs.lemmas.Bool.Decides.{nat_tests}
use Rattle.cluster_types.specs.Causes.{Rose}
use Rattle.cluster_core.specs.declared.size.HistorySize.{HistorySize}
use Rattle.cluster_core.specs.Size.{is_past}
use Rattle.cluster_store.specs.Stores.{StoreView}
use Rattle.history_lock.specs.declared.known.View.{View}
use Rattle.history_lock.specs.History.{Extends}
use Rattle.history_lock.proofs.Growing.{extends_on}
use Rattle.controller_desk.specs.Contents.{content_of, fulls_seen, limits_seen}
use Rattle.controller_desk.specs.Turns.{InTurn}

-- a pass has gone on
pub turn_later : {D : Type 0} (faults : D → ℕ) (u w : View) (before after : StoreView D) → InTurn faults u before after w → Extends u.seen w.seen
turn_later faults u w before after t = extends_on u.seen (content_of faults before) w.seen t.adds.later t.adds.extends

-- A STEP THAT THE LIMITS REFUSE

pub rose_wider : (a b c d : ℕ) → a ≤ b → Rose b c → c ≤ d → Rose a d
rose_wider a b c d le rose more = omega (arith, le, rose, more)

pub past_lower : (low high : HistorySize) (size : HistorySize) → low.entries ≤ high.entries → low.bytes ≤ high.bytes → is_past high size ≡ true → is_past low size ≡ true
past_lower low high size entries bytes past = grind (arith, nat_tests)

pub full_cause : {D : Type 0} (faults : D → ℕ) (u w : View) (before after : StoreView D) (size : HistorySize) → InTurn faults u before after w → after.fulls ≡ min (before.fulls + 1) (2 ^ 64 - 1) → is_past before.limits size ≡ true →
    Rose (fulls_seen u.seen) (fulls_seen w.seen) × (is_past (limits_seen u.seen) size ≡ true)
full_cause faults u w before after size t counted past =
    let less : fulls_seen u.seen ≤ before.fulls = t.adds.later.counts 2 in
    let now : fulls_seen w.seen ≡ after.fulls = ap fulls_seen t.seen in
    (omega (arith, less, now, counted), past_lower (limits_seen u.seen) before.limits size (t.adds.later.counts 4) (t.adds.later.counts 5) past)
