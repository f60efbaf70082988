-- What is found from a gate on.
use Rattle.std.proofs.Common.{◌≡◌, ℕ, zero, suc, ◌+◌, ◌-◌, ◌<◌, ◌≤◌, min, Bool, true, false, List, [], ◌∷◌, length, get_or, take, drop, Ok, Err, refl, sym, ap, ◌∙◌, arith, inl, inr, length-drop}
use Rattle.std.specs.Prelude.{◌==◌, nat_lt, if◌then◌else◌}
use Rattle.std.specs.Int.{w32, from_be_bytes}
use Rattle.std.proofs.lemmas.Bool.{cases_lt, ltb-false, lt-ltb, le-ltb}
use Rattle.std.proofs.lemmas.List.{length-take, drop-drop, drop_all, drop_more, drop-take, take-take, take_min}
use Rattle.task_journal.specs.declared.fault.OpenFault.TheVariants.{Damaged}
use Rattle.task_journal.specs.declared.gate.GateState.{GateState}
use Rattle.task_journal.specs.declared.gate.GateState.TheVariants.{Missing, Closed, Short, Open}
use Rattle.task_journal.specs.declared.version.Version.{Version}
use Rattle.task_journal.specs.Journal.{◌>>=◌, with_front, records_at, gate_in, from_gate, found_from}
use Rattle.task_journal.specs.Window.{span}

pub found_skip : (version : Version) (total skip : ℕ) (octets : List ℕ) → found_from version total skip octets ≡ found_from version total 0 (drop skip octets)
unfolding found_from
found_skip version total zero octets = refl
found_skip version total (suc skip) [] = refl
found_skip version total (suc skip) (x ∷ octets) = found_skip version total skip octets

few_octets : (n : ℕ) → nat_lt (min 9 n) 9 ≡ nat_lt n 9
few_octets n = elim (cases_lt n 9) [
  | inl lt ↦ (let a : nat_lt (min 9 n) 9 ≡ true = lt-ltb _ _ (omega arith) in a ∙ sym (lt-ltb n 9 lt))
  | inr le ↦ (let a : nat_lt (min 9 n) 9 ≡ false = le-ltb _ _ (omega arith) in a ∙ sym (le-ltb n 9 le))
]

field_front : (n : ℕ) (octets : List ℕ) → n + 4 ≤ 9 → take 4 (drop n (take 9 octets)) ≡ take 4 (drop n octets)
field_front n octets le =
    let size : 9 ≡ n + (9 - n) = omega arith in
    ap (λ (k : ℕ). take 4 (drop n (take k octets))) size ∙ ap (take 4) (drop-take n (9 - n) octets) ∙ take-take 4 (9 - n) (drop n octets) (omega arith)

-- ten octets show a gate
pub gate_front : (octets : List ℕ) → gate_in (take 10 octets) ≡ gate_in octets
gate_front [] = refl
gate_front (gate ∷ octets) = rw (length-take 9 octets, few_octets (length octets), field_front 1 octets (omega arith), field_front 5 octets (omega arith)) refl

chosen : (b : Bool) (c : Bool) (len count m n : ℕ) → (if b then (if c then Short else Open m n) else Closed) ≡ Open len count → c ≡ false
chosen true true len count m n e = absurd cc
chosen true false len count m n e = refl
chosen false c len count m n e = absurd cc

pub open_long : (gate : ℕ) (octets : List ℕ) (len count : ℕ) → gate_in (gate ∷ octets) ≡ Open len count → 9 ≤ length octets
open_long gate octets len count is = ltb-false _ _ (chosen (gate == 167) (nat_lt (length octets) 9) len count (from_be_bytes w32 (take 4 (drop 1 octets))) (from_be_bytes w32 (take 4 (drop 5 octets))) is)

module _ (version : Version) (size gate : ℕ) (disk : List ℕ) (is : size ≡ length disk) (lt : gate < size) where
  at_gate : drop gate disk ≡ get_or disk gate 0 ∷ drop (gate + 1) disk
  at_gate = drop_more disk gate 0 (omega arith)

  long : length (drop (gate + 1) disk) ≡ size - (gate + 1)
  long = omega (arith, length-drop (gate + 1) disk, is)

  stepped : (g : GateState) → gate_in (drop gate disk) ≡ g → found_from version size 0 (drop gate disk) ≡ from_gate version g size (drop (gate + 1) disk) (λ skip. found_from version size skip (drop (gate + 1) disk))
  unfolding found_from
  stepped g e =
      let here : gate_in (get_or disk gate 0 ∷ drop (gate + 1) disk) ≡ g = ap gate_in (sym at_gate) ∙ e in
      ap (λ (z : List ℕ). found_from version size 0 z) at_gate ∙ ap (λ (h : GateState). from_gate version h size (drop (gate + 1) disk) (λ skip. found_from version size skip (drop (gate + 1) disk))) here

  pub step_missing : gate_in (drop gate disk) ≡ Missing → found_from version size 0 (drop gate disk) ≡ Err (Damaged size)
  step_missing e = stepped Missing e

  pub step_closed : gate_in (drop gate disk) ≡ Closed → found_from version size 0 (drop gate disk) ≡ Ok (record { entries = []; places = gate ∷ [] })
  step_closed e =
      let place : size - length (drop (gate + 1) disk) - 1 ≡ gate = omega (arith, long, lt) in
      stepped Closed e ∙ rw place refl

  pub step_short : gate_in (drop gate disk) ≡ Short → found_from version size 0 (drop gate disk) ≡ Err (Damaged gate)
  step_short e =
      let place : size - length (drop (gate + 1) disk) - 1 ≡ gate = omega (arith, long, lt) in
      stepped Short e ∙ rw place refl

  pub open_fits : (len count : ℕ) → gate_in (drop gate disk) ≡ Open len count → gate + 10 ≤ size
  open_fits len count e =
      let here : gate_in (get_or disk gate 0 ∷ drop (gate + 1) disk) ≡ Open len count = ap gate_in (sym at_gate) ∙ e in
      omega (arith, open_long (get_or disk gate 0) (drop (gate + 1) disk) len count here, long)

  pub step_open : (len count end : ℕ) → gate_in (drop gate disk) ≡ Open len count → end ≡ min (gate + 10 + len) size
      → found_from version size 0 (drop gate disk) ≡ (records_at version count end (span (gate + 10) end disk) >>= λ found. with_front found (found_from version size 0 (drop (gate + 10 + len) disk)))
  step_open len count end e ends =
      let fits = open_fits len count e in
      let last : size - length (drop (9 + len) (drop (gate + 1) disk)) ≡ end = omega (arith, length-drop (9 + len) (drop (gate + 1) disk), long, ends, fits) in
      let rest : drop 9 (drop (gate + 1) disk) ≡ drop (gate + 10) disk = drop-drop 9 (gate + 1) disk ∙ ap (λ (n : ℕ). drop n disk) (nine gate) in
      let some : min len (length (drop (gate + 10) disk)) ≡ end - (gate + 10) = omega (arith, length-drop (gate + 10) disk, ends, fits, is) in
      let body : take len (drop 9 (drop (gate + 1) disk)) ≡ span (gate + 10) end disk =
      ap (take len) rest ∙ sym (take_min len (drop (gate + 10) disk)) ∙ ap (λ (n : ℕ). take n (drop (gate + 10) disk)) some in
      let next : found_from version size (9 + len) (drop (gate + 1) disk) ≡ found_from version size 0 (drop (gate + 10 + len) disk) =
      found_skip version size (9 + len) (drop (gate + 1) disk) ∙ ap (λ (z : List ℕ). found_from version size 0 z) (drop-drop (9 + len) (gate + 1) disk ∙ ap (λ (n : ℕ). drop n disk) (more gate len)) in
      stepped (Open len count) e ∙ rw (last, body, next) refl
    where
      nine : (g : ℕ) → g + 1 + 9 ≡ g + 10
      nine g = omega arith

      more : (g n : ℕ) → g + 1 + (9 + n) ≡ g + 10 + n
      more g n = omega arith

pub step_past : (version : Version) (size gate : ℕ) (disk : List ℕ) → size ≡ length disk → size ≤ gate → found_from version size 0 (drop gate disk) ≡ Err (Damaged size)
unfolding found_from
step_past version size gate disk is le = rw (drop_all gate disk (omega arith)) refl

-- the gate is that of the ten octets, or fewer at the disk's end, that were read
pub gate_read : (size gate n : ℕ) (disk octets : List ℕ) → size ≡ length disk → n ≡ min (size - gate) 10 → octets ≡ take n (drop (gate + 0) disk) → gate_in octets ≡ gate_in (drop gate disk)
gate_read size gate n disk octets is ten read =
    let some : n ≡ min 10 (length (drop gate disk)) = omega (arith, length-drop gate disk, is, ten) in
    let here : gate + 0 ≡ gate = omega arith in
    ap gate_in (read ∙ ap (λ (m : ℕ). take n (drop m disk)) here ∙ ap (λ (m : ℕ). take m (drop gate disk)) some ∙ take_min 10 (drop gate disk)) ∙ gate_front (drop gate disk)

-- a place past the last number is past the end of a disk
pub drop_saturated : (m last : ℕ) (disk : List ℕ) → length disk ≤ last → drop (min m last) disk ≡ drop m disk
drop_saturated m last disk le = elim (cases_lt last m) [
  | inl lt ↦ (let a : drop (min m last) disk ≡ [] = drop_all (min m last) disk (omega arith) in a ∙ sym (drop_all m disk (omega arith)))
  | inr ge ↦ (let a : min m last ≡ m = omega arith in ap (λ (n : ℕ). drop n disk) a)
]
