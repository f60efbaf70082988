-- The newest entry that tells of a connection tells whether it is live.
use Rattle.std.proofs.Common.{◌≡◌, ◌≢◌, ◌∙◌, ◌⊎◌, inl, inr, ℕ, ◌==◌, List, [], ◌∷◌, ◌++◌, Bool, true, false, cond, refl, sym, ap, Option, Some, None, option_map, ◌+◌, ◌-◌, ◌<◌, ◌≤◌, length, take, get_or, reverse, arith}
use Rattle.std.proofs.lemmas.Bool.{eq-eqb, ne_eqb}
use Rattle.std.proofs.lemmas.Bool.Decides.{eqb_tells}
use Rattle.std.proofs.lemmas.List.{reverse-append, take_all, take_more}
use Rattle.std.specs.Prelude.{◌&&◌}
use Rattle.std.specs.Option.{is_none}
use Rattle.cluster_types.specs.declared.config.Channel.{Channel}
use Rattle.cluster_types.specs.declared.entry.Entry.{Entry}
use Rattle.cluster_types.specs.declared.entry.Entry.TheVariants.{Input, Hand, Settle, Lose}
use Rattle.cluster_types.specs.declared.entry.Input.TheVariants.{Open, Up, Down, In, Beat, Time}
use Rattle.cluster_defs.specs.declared.connection.Connection.{Connection}
use Rattle.cluster_defs.specs.Connections.{connection_on, channel_on, with_connection, without_connection}
use Rattle.cluster_defs.specs.Histories.{History, facts, Legal}
use Rattle.cluster_core.specs.Told.{told_by, or_before, told}

abbrev Tells : ℕ → ℕ → Type 0
Tells a b = (((a == b) ≡ true) × (a ≡ b)) ⊎ (((a == b) ≡ false) × (a ≢ b))

up_told : (live : List Connection) (conn : ℕ) (channel : Channel) (identity : List ℕ) (n : ℕ) → connection_on live conn ≡ None →
    channel_on (with_connection conn channel identity live) n ≡ or_before (cond (conn == n) (Some (Some channel)) None) (channel_on live n)
up_told [] conn channel identity n none = by (conn == n)
  where
    by : (b : Bool) → option_map (λ (c : Connection). c.channel) (cond b (Some (record { number = conn; channel = channel; identity = identity })) None) ≡ or_before (cond b (Some (Some channel)) None) None
    by true = refl
    by false = refl
up_told (x ∷ xs) conn channel identity n none = by (λ tail. up_told xs conn channel identity n tail) (eqb_tells x.number n) (eqb_tells x.number conn)
  where
    by : (connection_on xs conn ≡ None → channel_on (with_connection conn channel identity xs) n ≡ or_before (cond (conn == n) (Some (Some channel)) None) (channel_on xs n)) →
        Tells x.number n → Tells x.number conn → channel_on (with_connection conn channel identity (x ∷ xs)) n ≡ or_before (cond (conn == n) (Some (Some channel)) None) (channel_on (x ∷ xs) n)
    by more at (inl here) = absurd (let some : Some x ≡ None = rw here.0 at none in cc)
    by more (inl on) (inr off) =
        let apart : (conn == n) ≡ false = ne_eqb conn n (λ same. off.1 (on.1 ∙ sym same)) in
        rw (on.0, apart) refl
    by more (inr there) (inr off) =
        let tail : connection_on xs conn ≡ None = rw off.0 at none in
        rw there.0 (more tail)

down_told : (live : List Connection) (conn n : ℕ) → channel_on (without_connection conn live) n ≡ or_before (cond (conn == n) (Some None) None) (channel_on live n)
down_told [] conn n = by (conn == n)
  where
    by : (b : Bool) → None ≡ or_before (cond b (Some None) None) None
    by true = refl
    by false = refl
down_told (x ∷ xs) conn n = by (down_told xs conn n) (eqb_tells x.number conn) (eqb_tells x.number n)
  where
    by : channel_on (without_connection conn xs) n ≡ or_before (cond (conn == n) (Some None) None) (channel_on xs n) → Tells x.number conn → Tells x.number n → channel_on (without_connection conn (x ∷ xs)) n ≡ or_before (cond (conn == n) (Some None) None) (channel_on (x ∷ xs) n)
    by more (inl dropped) (inl on) =
        let same : (conn == n) ≡ true = eq-eqb conn n (sym dropped.1 ∙ on.1) in
        let rest : channel_on (without_connection conn xs) n ≡ None = rw same at more in
        rw (dropped.0, same) rest
    by more (inl dropped) (inr off) = rw (dropped.0, off.0) more
    by more (inr kept) (inl on) =
        let apart : (conn == n) ≡ false = ne_eqb conn n (λ same. kept.1 (on.1 ∙ sym same)) in
        rw (kept.0, on.0, apart) refl
    by more (inr kept) (inr off) = rw (kept.0, off.0) more

none_of : {T : Type 0} (b : Bool) (o : Option T) → (b && is_none o) ≡ true → o ≡ None
none_of true None h = refl
none_of true (Some t) h = cc
none_of false o h = cc

pub told_is : (h : History) → Legal h → (n : ℕ) → told h n ≡ channel_on (facts h).connections n
told_is [] legal n = refl
told_is (Input (Open moment scheme hwm misses) ∷ older) legal n = refl
told_is (Input (Up conn channel moment word identity) ∷ older) legal n =
    ap (or_before (told_by (Input (Up conn channel moment word identity)) n)) (told_is older legal.1 n)
    ∙ sym (up_told (facts older).connections conn channel identity n (none_of (facts older).begun (connection_on (facts older).connections conn) legal.0.1))
told_is (Input (Down conn moment word) ∷ older) legal n =
    ap (or_before (told_by (Input (Down conn moment word)) n)) (told_is older legal.1 n) ∙ sym (down_told (facts older).connections conn n)
told_is (Input (In conn moment word m) ∷ older) legal n = told_is older legal.1 n
told_is (Input (Beat moment word) ∷ older) legal n = told_is older legal.1 n
told_is (Input (Time moment word) ∷ older) legal n = told_is older legal.1 n
told_is (Hand id e ∷ older) legal n = told_is older legal.1 n
told_is (Settle id v c ∷ older) legal n = told_is older legal.1 n
told_is (Lose e ∷ older) legal n = told_is older legal.1 n

-- a history that is read from its newest entry on
pub told_front : (xs : List Entry) (i : ℕ) (e : Entry) (n : ℕ) → i < length xs → e ≡ get_or xs i e → told (reverse (take (i + 1) xs)) n ≡ or_before (told_by e n) (told (reverse (take i xs)) n)
told_front xs i e n lt is =
    let front : take (i + 1) xs ≡ take i xs ++ e ∷ [] = take_more xs i e lt ∙ ap (λ (x : Entry). take i xs ++ x ∷ []) (sym is) in
    ap (λ h. told h n) (ap reverse front ∙ reverse-append (take i xs) (e ∷ []))

pub told_none : (xs : List Entry) (n : ℕ) → told (reverse (take 0 xs)) n ≡ None
told_none xs n = refl

-- of all entries
pub told_all : (xs : List Entry) (n : ℕ) → told (reverse (take (length xs) xs)) n ≡ told (reverse xs) n
told_all xs n = ap (λ ys. told (reverse ys) n) (take_all (length xs) xs (omega arith))

-- an entry that tells, behind which none does
pub told_at : (xs : List Entry) (left : ℕ) (e : Entry) (n : ℕ) (channel : Option Channel) → 0 < left → left ≤ length xs → e ≡ get_or xs (left - 1) e → told_by e n ≡ Some channel → told (reverse (take left xs)) n ≡ channel
told_at xs left e n channel some le is tells =
    let one : left ≡ (left - 1) + 1 = omega (arith, some) in
    ap (λ j. told (reverse (take j xs)) n) one ∙ told_front xs (left - 1) e n (omega (arith, some, le)) is ∙ ap (λ o. or_before o (told (reverse (take (left - 1) xs)) n)) tells
