-- Octets that are taken together give what they give one by one, as long as no record can end before their last.
use Rattle.std.proofs.Common.{◌≡◌, ℕ, ◌+◌, ◌-◌, ◌<◌, ◌≤◌, min, Bool, true, false, List, [], ◌∷◌, ◌++◌, length, take, drop, Ok, Err, refl, sym, ap, subst, ◌∙◌, append_assoc, arith}
use Rattle.std.proofs.lemmas.List.{append-nil, take-append-drop, drop-drop, length-take}
use Rattle.tape.specs.declared.record.TapeRecord.{TapeRecord}
use Rattle.edges.specs.declared.stop.Stop.TheVariants.{Short, Bad}
use Rattle.edges.specs.Reading.{Read}
use Rattle.tape.specs.Reading.{record_at}
use Rattle.tape.proofs.Extends.{record_extends}
use Rattle.tape.specs.Tape.{Tape, capped_place, taken, step, tape_after, records}

abbrev pub open_tape : ℕ → List ℕ → Tape
open_tape at rest = record { at = at; rest = rest; ended = false }

-- one octet that only makes what is short longer
short_step : (at : ℕ) (rest : List ℕ) (x k : ℕ) → record_at (rest ++ x ∷ []) ≡ Err (Short k) → step (open_tape at rest) x ≡ (open_tape at (rest ++ x ∷ []), [])
short_step at rest x k e = ap (taken at (rest ++ x ∷ [])) e

chunk : (at : ℕ) (rest : List ℕ) (k x : ℕ) (xs : List ℕ) → record_at rest ≡ Err (Short k) → length xs < k
    → (tape_after (open_tape at rest) (x ∷ xs) ≡ (taken at (rest ++ x ∷ xs) (record_at (rest ++ x ∷ xs))).0) × (records (open_tape at rest) (x ∷ xs) ≡ (taken at (rest ++ x ∷ xs) (record_at (rest ++ x ∷ xs))).1)
chunk at rest k x [] e lt = (refl, append-nil (taken at (rest ++ x ∷ []) (record_at (rest ++ x ∷ []))).1)
chunk at rest k x (y ∷ ys) e lt =
    let s : record_at (rest ++ x ∷ []) ≡ Err (Short (k - 1)) = record_extends.short rest (x ∷ []) k e (omega arith) in
    let one = short_step at rest x (k - 1) s in
    let more = chunk at (rest ++ x ∷ []) (k - 1) y ys s (omega arith) in
    let joined : (rest ++ x ∷ []) ++ y ∷ ys ≡ rest ++ x ∷ y ∷ ys = append_assoc rest (x ∷ []) (y ∷ ys) in (
      ap (λ (p : Tape × List TapeRecord). tape_after p.0 (y ∷ ys)) one ∙ more.0 ∙ ap (λ (zs : List ℕ). (taken at zs (record_at zs)).0) joined,
      ap (λ (p : Tape × List TapeRecord). p.1 ++ records p.0 (y ∷ ys)) one ∙ more.1 ∙ ap (λ (zs : List ℕ). (taken at zs (record_at zs)).1) joined,
    )

-- what a front of a piece gives that is at most as long as what is missing
pub record TakesFront (t : Tape) (front : List ℕ) (read : Read TapeRecord) : Type 0 where
  pub tape : tape_after t front ≡ (taken t.at (t.rest ++ front) read).0
  pub list : records t front ≡ (taken t.at (t.rest ++ front) read).1

front_of_open : (at : ℕ) (rest : List ℕ) (k : ℕ) (front : List ℕ) → record_at rest ≡ Err (Short k) → 0 < length front → length front ≤ k → TakesFront (open_tape at rest) front (record_at (rest ++ front))
front_of_open at rest k [] e some le = absurd (omega arith)
front_of_open at rest k (x ∷ xs) e some le = let c = chunk at rest k x xs e (omega arith) in record { tape = c.0; list = c.1 }

pub takes_front : (t : Tape) (k : ℕ) (front : List ℕ) → t.ended ≡ false → record_at t.rest ≡ Err (Short k) → 0 < length front → length front ≤ k → TakesFront t front (record_at (t.rest ++ front))
takes_front t k front goes e some le =
    subst (λ (b : Bool). TakesFront (record { at = t.at; rest = t.rest; ended = b }) front (record_at (t.rest ++ front))) (sym goes) (front_of_open t.at t.rest k front e some le)

pub still_short : (rest front : List ℕ) (k : ℕ) → record_at rest ≡ Err (Short k) → length front < k → record_at (rest ++ front) ≡ Err (Short (k - length front))
still_short rest front k e lt = record_extends.short rest front k e lt

pub short_some : (rest : List ℕ) (k : ℕ) → record_at rest ≡ Err (Short k) → 0 < k
short_some rest k e = record_extends.some rest k e

-- octets one after another
pub after_append : (t : Tape) (xs ys : List ℕ) → tape_after t (xs ++ ys) ≡ tape_after (tape_after t xs) ys
after_append t [] ys = refl
after_append t (x ∷ xs) ys = after_append (step t x).0 xs ys

pub records_append : (t : Tape) (xs ys : List ℕ) → records t (xs ++ ys) ≡ records t xs ++ records (tape_after t xs) ys
records_append t [] ys = refl
records_append t (x ∷ xs) ys = ap (λ (es : List TapeRecord). (step t x).1 ++ es) (records_append (step t x).0 xs ys) ∙ sym (append_assoc (step t x).1 (records (step t x).0 xs) (records (tape_after (step t x).0 xs) ys))

-- nothing is read behind a record that does not stand
pub record Stays (t : Tape) (xs : List ℕ) : Type 0 where
  pub tape : tape_after t xs ≡ t
  pub list : records t xs ≡ []

closed_stays : (at : ℕ) (rest xs : List ℕ) → Stays (record { at = at; rest = rest; ended = true }) xs
closed_stays at rest [] = record { tape = refl; list = refl }
closed_stays at rest (x ∷ xs) = let s = closed_stays at rest xs in record { tape = s.tape; list = s.list }

pub stays : (t : Tape) (xs : List ℕ) → t.ended ≡ true → Stays t xs
stays t xs e = subst (λ (b : Bool). Stays (record { at = t.at; rest = t.rest; ended = b }) xs) (sym e) (closed_stays t.at t.rest xs)

pub length_front : (n : ℕ) (xs : List ℕ) → n ≤ length xs → length (take n xs) ≡ n
length_front n xs le = omega (arith, length-take n xs)

-- a call of the code that takes a front of a piece
pub record Taking (now : Tape) (at : ℕ) (rest : List ℕ) (k : ℕ) (ended : Bool) (piece new : List ℕ) (n : ℕ) : Type 0 where
  pub is : record { at = at; rest = rest; ended = ended } ≡ now
  pub goes : now.ended ≡ false
  pub short : ended ≡ false → record_at rest ≡ Err (Short k)
  pub some : 0 < length piece
  pub count : n ≡ min (length piece) k
  pub added : new ≡ rest ++ take n piece

open_still : {now : Tape} {at : ℕ} {rest : List ℕ} {k : ℕ} {ended : Bool} {piece new : List ℕ} {n : ℕ} → Taking now at rest k ended piece new n → ended ≡ false
open_still c = ap (λ (t : Tape). t.ended) c.is ∙ c.goes

pub is_some : {now : Tape} {at : ℕ} {rest : List ℕ} {k : ℕ} {ended : Bool} {piece new : List ℕ} {n : ℕ} → Taking now at rest k ended piece new n → (0 < n) × (n ≤ length piece)
is_some {rest = rest} {k = k} c = let p = short_some rest k (c.short (open_still c)) in (omega (arith, c.count, c.some, p), omega (arith, c.count))

taken_so : {now : Tape} {at : ℕ} {rest : List ℕ} {k : ℕ} {ended : Bool} {piece new : List ℕ} {n : ℕ} (c : Taking now at rest k ended piece new n) (read : Read TapeRecord) → record_at new ≡ read
    → (tape_after now (take n piece) ≡ (taken at new read).0) × (records now (take n piece) ≡ (taken at new read).1)
taken_so {now = now} {at = at} {rest = rest} {k = k} {ended = ended} {piece = piece} {new = new} {n = n} c read e =
    let e0 = open_still c in
    let t : Tape = record { at = at; rest = rest; ended = ended } in
    let len = length_front n piece (is_some c).1 in
    let f : TakesFront t (take n piece) (record_at (rest ++ take n piece)) = takes_front t k (take n piece) e0 (c.short e0) (omega (arith, len, (is_some c).0)) (omega (arith, len, c.count)) in
    let g : TakesFront t (take n piece) read = subst (TakesFront t (take n piece)) (ap record_at (sym c.added) ∙ e) f in (
      ap (λ (u : Tape). tape_after u (take n piece)) (sym c.is) ∙ g.tape ∙ ap (λ (xs : List ℕ). (taken at xs read).0) (sym c.added),
      ap (λ (u : Tape). records u (take n piece)) (sym c.is) ∙ g.list ∙ ap (λ (xs : List ℕ). (taken at xs read).1) (sym c.added),
    )

-- its three ends: what the code keeps, and the records that it gives
pub record Ends (now : Tape) (kept : Tape) (front : List ℕ) (given : List TapeRecord) : Type 0 where
  pub tape : kept ≡ tape_after now front
  pub list : given ≡ records now front

pub ends_short : {now : Tape} {at : ℕ} {rest : List ℕ} {k : ℕ} {ended : Bool} {piece new : List ℕ} {n : ℕ} (c : Taking now at rest k ended piece new n) (j : ℕ) → record_at new ≡ Err (Short j)
    → Ends now (record { at = at; rest = new; ended = ended }) (take n piece) []
ends_short {at = at} {new = new} c j e =
    let t = taken_so c (Err (Short j)) e in
    record { tape = ap (λ (b : Bool). record { at = at; rest = new; ended = b }) (open_still c) ∙ sym t.0; list = sym t.1 }

pub ends_bad : {now : Tape} {at : ℕ} {rest : List ℕ} {k : ℕ} {ended : Bool} {piece new : List ℕ} {n : ℕ} (c : Taking now at rest k ended piece new n) → record_at new ≡ Err Bad
    → Ends now (record { at = at; rest = new; ended = true }) (take n piece) []
ends_bad c e = let t = taken_so c (Err Bad) e in record { tape = sym t.0; list = sym t.1 }

pub ends_record : {now : Tape} {at : ℕ} {rest : List ℕ} {k : ℕ} {ended : Bool} {piece new : List ℕ} {n : ℕ} (c : Taking now at rest k ended piece new n) (entry : TapeRecord) (more cleared : List ℕ) (place : ℕ) → record_at new ≡ Ok (entry, more)
    → cleared ≡ [] → place ≡ capped_place at (length new) → Ends now (record { at = place; rest = cleared; ended = ended }) (take n piece) (entry ∷ [])
ends_record {at = at} {ended = ended} {new = new} c entry more cleared place e none is =
    let t = taken_so c (Ok (entry, more)) e in
    let one : record { at = place; rest = cleared; ended = ended } ≡ record { at = capped_place at (length new); rest = []; ended = false } = rw (none, is, open_still c) refl in
    record { tape = one ∙ sym t.0; list = sym t.1 }

pub waits : {now : Tape} {at : ℕ} {rest : List ℕ} {k : ℕ} {ended : Bool} {piece new : List ℕ} {n : ℕ} (c : Taking now at rest k ended piece new n) → n < k → record_at new ≡ Err (Short (k - n))
waits {rest = rest} {k = k} {piece = piece} {new = new} {n = n} c lt =
    let len = length_front n piece (is_some c).1 in
    ap record_at c.added ∙ still_short rest (take n piece) k (c.short (open_still c)) (omega (arith, len)) ∙ ap (λ (m : ℕ). Err (Short (k - m))) len

pub nothing_short : record_at [] ≡ Err (Short 1)
unfolding record_at
nothing_short = refl

pub tape_goes_on : (t new : Tape) (piece : List ℕ) (at n : ℕ) → new ≡ tape_after t (take n (drop at piece)) → tape_after new (drop (at + n) piece) ≡ tape_after t (drop at piece)
tape_goes_on t new piece at n is =
    ap (λ (u : Tape). tape_after u (drop (at + n) piece)) is
    ∙ ap (λ (ys : List ℕ). tape_after (tape_after t (take n (drop at piece))) ys) (sym (drop-drop n at piece))
    ∙ sym (after_append t (take n (drop at piece)) (drop n (drop at piece)))
    ∙ ap (tape_after t) (take-append-drop n (drop at piece))

pub records_go_on : (t new : Tape) (piece : List ℕ) (at n : ℕ) (list more : List TapeRecord) → new ≡ tape_after t (take n (drop at piece)) → more ≡ list ++ records t (take n (drop at piece))
    → more ++ records new (drop (at + n) piece) ≡ list ++ records t (drop at piece)
records_go_on t new piece at n list more is list-is =
    ap (λ (es : List TapeRecord). es ++ records new (drop (at + n) piece)) list-is
    ∙ ap (λ (u : Tape). (list ++ records t (take n (drop at piece))) ++ records u (drop (at + n) piece)) is
    ∙ append_assoc list (records t (take n (drop at piece))) (records (tape_after t (take n (drop at piece))) (drop (at + n) piece))
    ∙ ap (λ (ys : List ℕ). list ++ (records t (take n (drop at piece)) ++ records (tape_after t (take n (drop at piece))) ys)) (sym (drop-drop n at piece))
    ∙ ap (λ (es : List TapeRecord). list ++ es) (sym (records_append t (take n (drop at piece)) (drop n (drop at piece))))
    ∙ ap (λ (ys : List ℕ). list ++ records t ys) (take-append-drop n (drop at piece))

pub stays_all : (t : Tape) (xs : List ℕ) → t.ended ≡ true → t ≡ tape_after t xs
stays_all t xs e = sym (stays t xs e).tape

pub stays_none : (t : Tape) (xs : List ℕ) (list : List TapeRecord) → t.ended ≡ true → list ≡ list ++ records t xs
stays_none t xs list e = rw (stays t xs e).list (sym (append-nil list))
