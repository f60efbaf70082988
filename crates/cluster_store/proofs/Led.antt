-- What each call of a store does to the world that it stands in.
use Rattle.std.proofs.Common.{◌≡◌, inl, inr, ◌⊎◌, ⊎_elim, ℕ, ◌-◌, ◌≤◌, ◌==◌, suc, List, [], ◌∷◌, ◌++◌, length, reverse, Bool, true, false, refl, sym, ap, ◌∙◌, subst, arith, le_refl, Some, None, Option, Ok, Err, append-nil}
use Rattle.std.specs.Prelude.{slice_get, nat_le, if◌then◌else◌}
use Rattle.std.proofs.lemmas.Bool.{eqb-true, leb-true}
use Rattle.std.proofs.lemmas.List.{reverse-reverse}
use Rattle.cluster_types.specs.declared.config.Config.{Config}
use Rattle.cluster_types.specs.declared.entry.Input.{Input as InputType}
use Rattle.cluster_types.specs.declared.entry.Input.TheVariants.{Open}
use Rattle.cluster_types.specs.declared.entry.Entry.{Entry}
use Rattle.cluster_types.specs.declared.entry.Entry.TheVariants.{Input}
use Rattle.cluster_defs.specs.Scheduling.{due, Allowed}
use Rattle.cluster_defs.specs.Histories.{History, facts, kept, decide_all}
use Rattle.cluster_defs.specs.Lives.{World, Move, Grow, Flush, Send, Crash, May, Sending, kept_end, sendings_to, is_open, told_after, moved_by, OpensIf}
use Rattle.cluster_core.proofs.Plans.{decide_all_rests}
use Rattle.task_journal.specs.Journal.{StandsFor, IsSame, journal, holding}
use Rattle.task_journal.specs.Settled.{Unharmed}
use Rattle.task_journal.specs.declared.found.Found.{Found}
use Rattle.task_journal.proofs.Making.{stands_alike}
use Rattle.task_journal.proofs.On.{ok_is}
use Rattle.cluster_store.specs.declared.taken.Taken.{Taken}
use Rattle.cluster_store.specs.declared.taken.Taken.TheVariants.{Out as Hands, NothingYet, Closed}
use Rattle.cluster_store.specs.Stores.{StoreView, StandsIn, Becomes, told, told_by, one_more, up_to, written, answer, is_live, next_to}
use Rattle.cluster_store.specs.Openings.{opened, IsOpened, HasOpen}
use Rattle.cluster_store.specs.Worlds.{world_after, MayGo}
use Rattle.cluster_store.specs.Moves.{LeadsTo, LeftBy, LeftAfter}
use Rattle.cluster_store.proofs.Fits.{decides_to}
use Rattle.cluster_store.proofs.Lived.{Grown, grown_all, step_grows, flush_is_move, take_is_move}

-- a store that has the same history, mark and outs
stays : {D : Type 0} (old new : StoreView D) (w : World) → StandsIn old w → new.history ≡ old.history → ((c : ℕ) → told new c ≡ told old c) → new.mark ≡ old.mark → StandsIn new w
stays old new w s history outs mark = record {
  history = s.history ∙ sym history;
  mark = s.mark ∙ sym mark;
  told_are = λ c. s.told_are c ∙ sym (outs c);
  up = s.up;
}

no_moves : {D : Type 0} (new : StoreView D) (w : World) → StandsIn new w → LeadsTo w new
no_moves new w s = record { moves = []; may = tt; stands = s }

pub step_leads : {D : Type 0} (old new : StoreView D) (w : World) (input : InputType) → StandsIn old w → Allowed (facts old.history) (Input input) → is_open (Input input) ≡ false
    → Becomes old (decide_all (Input input ∷ old.history)) (told old) old.fulls new → LeadsTo w new
step_leads old new w input s allowed off b =
    let g = step_grows w input s.up (subst (λ (h : History). Allowed (facts h) (Input input)) (sym s.history) allowed) off in
    let made : StandsIn new (record w { history = decide_all (Input input ∷ w.history) }) = record {
      history = ap (λ (h : History). decide_all (Input input ∷ h)) s.history ∙ sym b.history_is;
      mark = s.mark ∙ sym b.mark;
      told_are = λ c. s.told_are c ∙ sym (b.taken_are c);
      up = s.up;
    } in
    record { moves = g.0; may = g.1; stands = subst (StandsIn new) (sym g.2) made }

pub refusal_stays : {D : Type 0} (old new : StoreView D) (w : World) (fulls : ℕ) → StandsIn old w → Becomes old old.history (told old) fulls new → StandsIn new w
refusal_stays old new w fulls s b = stays old new w s b.history_is b.taken_are b.mark

pub flush_leads : {D : Type 0} (old new : StoreView D) (w : World) → StandsIn old w → old.mark ≤ length old.history → due (facts old.history) ≡ None
    → new.history ≡ old.history → ((c : ℕ) → told new c ≡ told old c) → new.mark ≡ length old.history → LeadsTo w new
flush_leads old new w s fits rests history outs mark =
    let le : w.mark ≤ length w.history = omega (arith, s.mark, ap length s.history, fits) in
    let m = flush_is_move w s.up le (subst (λ (h : History). due (facts h) ≡ None) (sym s.history) rests) in
    let made : StandsIn new (record w { mark = length w.history }) = record {
      history = s.history ∙ sym history;
      mark = ap length s.history ∙ sym mark;
      told_are = λ c. s.told_are c ∙ sym (outs c);
      up = s.up;
    } in
    record { moves = Flush w.history ∷ []; may = (m.0, tt); stands = subst (StandsIn new) (sym m.1) made }

pub fault_stays : {D : Type 0} (old new : StoreView D) (w : World) → StandsIn old w → new.history ≡ old.history → ((c : ℕ) → told new c ≡ told old c) → new.mark ≡ old.mark → StandsIn new w
fault_stays old new w s history outs mark = stays old new w s history outs mark

-- a take that hands nothing out
none_taken : (taken : Taken) (conn : ℕ) (told : ℕ → ℕ) → one_more taken (told conn) ≡ told conn → (c : ℕ) → told_by taken conn told c ≡ told c
none_taken taken conn told same c = by_case (c == conn) refl
  where
    by_case : (b : Bool) → (c == conn) ≡ b → (if b then one_more taken (told c) else told c) ≡ told c
    by_case true is = subst (λ (n : ℕ). one_more taken (told n) ≡ told n) (sym (eqb-true c conn is)) same
    by_case false is = refl

taken_as : {D : Type 0} (old new : StoreView D) (w : World) (conn : ℕ) (taken : Taken) (next : Option Sending) → next_to old conn ≡ next → StandsIn old w → taken ≡ answer (is_live old.history conn) old.mark next
    → Becomes old old.history (told_by taken conn (told old)) old.fulls new → LeadsTo w new
taken_as {D} old new w conn taken None is s answered b = nothing (is_live old.history conn) answered
  where
    untold : taken ≡ NothingYet ⊎ taken ≡ Closed → LeadsTo w new
    untold (inl yet) = no_moves new w (stays old new w s b.history_is (λ c. b.taken_are c ∙ none_taken taken conn (told old) (ap (λ (t : Taken). one_more t (told old conn)) yet) c) b.mark)
    untold (inr closed) = no_moves new w (stays old new w s b.history_is (λ c. b.taken_are c ∙ none_taken taken conn (told old) (ap (λ (t : Taken). one_more t (told old conn)) closed) c) b.mark)

    nothing : (live : Bool) → taken ≡ (if live then NothingYet else Closed) → LeadsTo w new
    nothing true yet = untold (inl yet)
    nothing false closed = untold (inr closed)
taken_as {D} old new w conn taken (Some sending) is s answered b = by_mark (nat_le (kept_end sending.0) old.mark) refl
  where
    by_mark : (safe : Bool) → nat_le (kept_end sending.0) old.mark ≡ safe → LeadsTo w new
    by_mark false unsafe =
        let yet : taken ≡ NothingYet = answered ∙ ap (λ (x : Bool). if x then Hands sending.1 else NothingYet) unsafe in
        no_moves new w (stays old new w s b.history_is (λ c. b.taken_are c ∙ none_taken taken conn (told old) (ap (λ (t : Taken). one_more t (told old conn)) yet) c) b.mark)
    by_mark true safe =
        let hands : taken ≡ Hands sending.1 = answered ∙ ap (λ (x : Bool). if x then Hands sending.1 else NothingYet) safe in
        let here : slice_get (sendings_to w.history conn) (w.told conn) ≡ Some sending = ap (λ (h : History). slice_get (sendings_to h conn) (w.told conn)) s.history ∙ ap (λ (n : ℕ). slice_get (sendings_to old.history conn) n) (s.told_are conn) ∙ is in
        let below : kept_end sending.0 ≤ w.mark = omega (arith, leb-true (kept_end sending.0) old.mark safe, s.mark) in
        let m = take_is_move w conn sending s.up here below in
        let made : StandsIn new (record w { sent = sending ∷ w.sent; told = told_by (Hands sending.1) conn w.told }) = record {
          history = s.history ∙ sym b.history_is;
          mark = s.mark ∙ sym b.mark;
          told_are = λ c. ap (λ (n : ℕ). if c == conn then suc n else n) (s.told_are c) ∙ ap (λ (t : Taken). told_by t conn (told old) c) (sym hands) ∙ sym (b.taken_are c);
          up = s.up;
        } in
        record { moves = Send conn sending ∷ []; may = (m.0, tt); stands = subst (StandsIn new) (sym m.1) made }

pub take_leads : {D : Type 0} (old new : StoreView D) (w : World) (conn : ℕ) (taken : Taken) → StandsIn old w → taken ≡ answer (is_live old.history conn) old.mark (next_to old conn)
    → Becomes old old.history (told_by taken conn (told old)) old.fulls new → LeadsTo w new
take_leads old new w conn taken s answered b = taken_as old new w conn taken (next_to old conn) refl s answered b

-- AN OPENING

-- moves behind moves
after_more : (w : World) (first more : List Move) → world_after w (more ++ first) ≡ world_after (world_after w first) more
after_more w first [] = refl
after_more w first (m ∷ more) = ap (λ (v : World). moved_by v m) (after_more w first more)

go_more : (w : World) (first more : List Move) → MayGo w first → MayGo (world_after w first) more → MayGo w (more ++ first)
go_more w first [] may rest = may
go_more w first (m ∷ more) may rest = (subst (λ (v : World). May v m) (sym (after_more w first more)) rest.0, go_more w first more may rest.1)

-- the entry of an Open
abbrev open_entry : Config → ℕ → Entry
open_entry config moment = Input (Open moment config.scheme config.hwm config.misses)

-- a world behind an Open and the decisions that are then due
abbrev pub begun : (config : Config) (moment : ℕ) (w : World) → World
begun config moment w = record w { history = opened config moment w.history; told = λ c. 0; down = false }

pub record Begins (config : Config) (moment : ℕ) (w : World) : Type 0 where
  pub moves : List Move
  pub may : MayGo w moves
  pub is : world_after w moves ≡ begun config moment w
  pub longer : length w.history ≤ length (opened config moment w.history)

begins : (config : Config) (moment : ℕ) (w : World) → due (facts w.history) ≡ None → Begins config moment w
begins config moment w rests =
    let entry = open_entry config moment in
    let first : May w (Grow entry) = ((rests, refl), opens w.down) in
    let mid = moved_by w (Grow entry) in
    let to = decides_to (entry ∷ w.history) in
    let here : Grown mid (entry ∷ w.history) = record { moves = []; may = tt; is = refl; longer = le_refl _ } in
    let all : Grown mid (decide_all (entry ∷ w.history)) = subst (Grown mid) (sym to.appended) (grown_all mid (entry ∷ w.history) to.decisions refl to.each_due here) in
    record {
      moves = all.moves ++ Grow entry ∷ [];
      may = go_more w (Grow entry ∷ []) all.moves (first, tt) all.may;
      is = after_more w (Grow entry ∷ []) all.moves ∙ all.is;
      longer = let le = all.longer in omega (arith, le);
    }
  where
    opens : (b : Bool) → OpensIf b (open_entry config moment)
    opens true = refl
    opens false = tt

pub opening_leads : {D : Type 0} (config : Config) (moment : ℕ) (new : StoreView D) (w : World) → due (facts w.history) ≡ None → w.mark ≤ length w.history
    → new.history ≡ opened config moment w.history → new.mark ≡ length new.history → ((c : ℕ) → told new c ≡ 0) → LeadsTo w new
opening_leads config moment new w rests fits history mark outs =
    let b = begins config moment w rests in
    let mid = begun config moment w in
    let le : mid.mark ≤ length mid.history = let more = b.longer in omega (arith, fits, more) in
    let m = flush_is_move mid refl le (decide_all_rests (open_entry config moment ∷ w.history)) in
    let made : StandsIn new (record mid { mark = length mid.history }) = record {
      history = sym history;
      mark = ap length (sym history) ∙ sym mark;
      told_are = λ c. sym (outs c);
      up = refl;
    } in
    record {
      moves = Flush mid.history ∷ b.moves;
      may = (subst (λ (v : World). May v (Flush mid.history)) (sym b.is) m.0, b.may);
      stands = subst (StandsIn new) (sym (ap (λ (v : World). moved_by v (Flush mid.history)) b.is ∙ m.1)) made;
    }

-- CRASHES

stood_once : (octets : List ℕ) (a b : List Entry) → StandsFor octets a → StandsFor octets b → a ≡ b
stood_once octets a b s t = ap (λ (f : Found). f.entries) (ok_is (holding a s.0) (holding b t.0) (sym s.1 ∙ t.1))

-- the front that a disk stands for, which a crash of the world leaves
front_is : (history front : History) (list : List Entry) → written front ≡ list → reverse list ≡ kept front
front_is history front list is = ap reverse (sym is) ∙ reverse-reverse (kept front)

behind_open : (w : World) (content : List ℕ) (config : Config) (moment : ℕ) (octets : List ℕ) → LeftBy w content → HasOpen content config moment octets → LeftAfter w octets
behind_open w content config moment octets left behind =
    let front = left.0 in
    let list_is : written front ≡ behind.from.list = stood_once content (written front) behind.from.list left.2 (behind.from.stands tt) in
    let kept_is : reverse behind.from.list ≡ kept front = front_is behind.history front behind.from.list list_is in
    let crashed = moved_by w (Crash front) in
    let rests : due (facts crashed.history) ≡ None = subst (λ (h : History). due (facts h) ≡ None) (append-nil (reverse behind.from.list) ∙ kept_is) behind.from.fit.1 in
    let b = begins config moment crashed rests in
    let mid = begun config moment crashed in
    let same : behind.history ≡ mid.history = behind.from.is ∙ ap (opened config moment) kept_is in
    let longer : length (kept front) ≤ length mid.history = b.longer in
    let may : May mid (Crash mid.history) = ((([], refl), longer, decide_all_rests (open_entry config moment ∷ crashed.history)), refl) in
    record {
      front = front;
      first = left.1;
      moves = b.moves;
      may = b.may;
      left = (mid.history, subst (λ (v : World). May v (Crash mid.history)) (sym b.is) may, subst (λ (h : History). StandsFor octets (written h)) same behind.stands);
    }

pub crashes_join : (w : World) (image : List ℕ → Type 0) (content : List ℕ) (config : Config) (moment : ℕ) (octets : List ℕ)
    → ((c : List ℕ) → image c → LeftBy w c) → image content
    → (Unharmed image content octets ⊎ HasOpen content config moment octets) → LeftBy w octets ⊎ LeftAfter w octets
crashes_join w image content config moment octets each now (inl (inl before)) = inl (each octets before)
crashes_join w image content config moment octets each now (inl (inr same)) =
    let left = each content now in
    inl (left.0, left.1, stands_alike octets content (holding (written left.0) left.2.0) same left.2.1)
crashes_join w image content config moment octets each now (inr behind) = inr (behind_open w content config moment octets (each content now) behind)
