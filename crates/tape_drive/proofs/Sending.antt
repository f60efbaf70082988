-- All that waits is sent, in any order that keeps the one to each connection.
use Rattle.std.proofs.Common.{◌≡◌, ℕ, suc, ◌≤◌, List, [], ◌∷◌, ◌++◌, length, map, append_assoc, append-nil, Bool, true, false, cond, Some, refl, sym, ap, ◌∙◌, subst, arith}
use Rattle.std.specs.Prelude.{◌==◌, nat_le, slice_get}
use Rattle.std.specs.List.{list_all}
use Rattle.std.proofs.lemmas.Bool.{leb-true, and_parts, eqb-true, eq-eqb}
use Rattle.std.proofs.lemmas.Bool.Decides.{nat_tests}
use Rattle.std.proofs.lemmas.List.{length-append}
use Rattle.cluster_types.specs.declared.out.Out.{Out}
use Rattle.cluster_defs.specs.Lives.{World, Move, Send, Sending, May, kept_end, sendings_to, moved_by}
use Rattle.cluster_defs.specs.Outs.{conn_of, outs_on}
use Rattle.cluster_store.specs.Worlds.{MayGo, world_after}
use Rattle.cluster_store.proofs.Taking.{ends_within}
use Rattle.tape_drive.specs.Sent.{HasSent}
use Rattle.tape_drive.proofs.Going.{world_on, may_on, sent_on, sent_none}
use Rattle.tape_drive.proofs.Sorting.{first_on}
use Rattle.cluster_types.proofs.Numbers.{swapped}

-- what waits to be sent to a connection: all behind what was sent
pub record Waits (w : World) (order : List Out) (conn : ℕ) : Type 0 where
  pub before : List Sending
  pub waiting : List Sending
  pub are : sendings_to w.history conn ≡ before ++ waiting
  pub told : w.told conn ≡ length before
  pub outs : map (λ s. s.1) waiting ≡ outs_on conn order

-- all is sent
pub record IsSent (w : World) (order : List Out) : Type 0 where
  pub moves : List Move
  pub may : MayGo w moves
  pub history_is : (world_after w moves).history ≡ w.history
  pub mark_is : (world_after w moves).mark ≡ w.mark
  pub up : (world_after w moves).down ≡ false
  pub sends : HasSent w (world_after w moves) order
  pub told_all : (conn : ℕ) → (world_after w moves).told conn ≡ length (sendings_to w.history conn)

none_left : (w : World) (conn : ℕ) → Waits w [] conn → w.told conn ≡ length (sendings_to w.history conn)
none_left w conn v = v.told ∙ ap length (sym (append-nil v.before) ∙ ap (λ (xs : List Sending). v.before ++ xs) (sym (none v.waiting v.outs)) ∙ sym v.are)
  where
    none : (ss : List Sending) → map (λ (s : Sending). s.1) ss ≡ [] → ss ≡ []
    none [] is = refl
    none (s ∷ ss) is = cc

-- the first of what waits
record Split (ss : List Sending) (o : Out) (os : List Out) : Type 0 where
  pub first : Sending
  pub rest : List Sending
  pub are : ss ≡ first ∷ rest
  pub out : first.1 ≡ o
  pub outs : map (λ s. s.1) rest ≡ os

split : (ss : List Sending) (o : Out) (os : List Out) → map (λ (s : Sending). s.1) ss ≡ o ∷ os → Split ss o os
split [] o os is = cc
split (s ∷ ss) o os is =
    let one : s.1 ≡ o = cc in
    let rest : map (λ (s : Sending). s.1) ss ≡ os = cc in
    record { first = s; rest = ss; are = refl; out = one; outs = rest }

get_behind : (xs ys : List Sending) (s : Sending) → slice_get (xs ++ s ∷ ys) (length xs) ≡ Some s
get_behind [] ys s = refl
get_behind (x ∷ xs) ys s = get_behind xs ys s

end_behind : (xs ys : List Sending) (s : Sending) (n : ℕ) → list_all (λ s. nat_le (kept_end s.0) n) (xs ++ s ∷ ys) ≡ true → kept_end s.0 ≤ n
end_behind [] ys s n all = leb-true (kept_end s.0) n (and_parts (nat_le (kept_end s.0) n) (list_all (λ s. nat_le (kept_end s.0) n) ys) all).0
end_behind (x ∷ xs) ys s n all = end_behind xs ys s n (and_parts (nat_le (kept_end x.0) n) (list_all (λ s. nat_le (kept_end s.0) n) (xs ++ s ∷ ys)) all).1

one_less : (o : Out) (os : List Out) (conn : ℕ) → (conn_of o == conn) ≡ false → outs_on conn (o ∷ os) ≡ outs_on conn os
one_less o os conn off = ap (λ b. cond b (o ∷ outs_on conn os) (outs_on conn os)) off

-- one is sent
record OneSent (w : World) (o : Out) (os : List Out) : Type 0 where
  pub sending : Sending
  pub may : May w (Send (conn_of o) sending)
  pub out : sending.1 ≡ o
  pub waits : (conn : ℕ) → Waits (moved_by w (Send (conn_of o) sending)) os conn

send_one : (w : World) (o : Out) (os : List Out) → w.down ≡ false → w.mark ≡ length w.history → ((conn : ℕ) → Waits w (o ∷ os) conn) → OneSent w o os
send_one w o os up safe waits = record {
  sending = s;
  may = (next, within, up);
  out = here.out;
  waits = λ conn. after conn;
}
  where
    c : ℕ
    c = conn_of o

    v : Waits w (o ∷ os) (conn_of o)
    v = waits (conn_of o)

    here : Split (waits (conn_of o)).waiting o (outs_on (conn_of o) os)
    here = split v.waiting o (outs_on c os) (v.outs ∙ first_on o os)

    s : Sending
    s = here.first

    all : sendings_to w.history (conn_of o) ≡ v.before ++ here.first ∷ here.rest
    all = v.are ∙ ap (λ (xs : List Sending). v.before ++ xs) here.are

    next : slice_get (sendings_to w.history (conn_of o)) (w.told (conn_of o)) ≡ Some here.first
    next = ap (λ n. slice_get (sendings_to w.history c) n) v.told ∙ ap (λ xs. slice_get xs (length v.before)) all ∙ get_behind v.before here.rest here.first

    within : kept_end here.first.0 ≤ w.mark
    within = subst (λ n. kept_end here.first.0 ≤ n) (sym safe) (end_behind v.before here.rest here.first (length w.history) (ap (list_all (λ s. nat_le (kept_end s.0) (length w.history))) (sym all) ∙ ends_within w.history c))

    sent_here : (b : Bool) → (conn_of o == conn_of o) ≡ b → b ≡ true → cond b (suc (w.told (conn_of o))) (w.told (conn_of o)) ≡ length (v.before ++ here.first ∷ [])
    sent_here true is on =
        let long = length-append v.before (here.first ∷ []) in
        let told = v.told in
        omega (arith, long, told)
    sent_here false is on = cc

    after_here : Waits (moved_by w (Send (conn_of o) here.first)) os (conn_of o)
    after_here = record {
      before = v.before ++ here.first ∷ [];
      waiting = here.rest;
      are = all ∙ sym (append_assoc v.before (here.first ∷ []) here.rest);
      told = sent_here (c == c) refl (eq-eqb c c refl);
      outs = here.outs;
    }

    by : (conn : ℕ) (b : Bool) → (conn == conn_of o) ≡ b → Waits (moved_by w (Send (conn_of o) here.first)) os conn
    by conn true is = subst (Waits (moved_by w (Send c here.first)) os) (sym (eqb-true conn c is)) after_here
    by conn false is = record {
      before = (waits conn).before;
      waiting = (waits conn).waiting;
      are = (waits conn).are;
      told = ap (λ b. cond b (suc (w.told conn)) (w.told conn)) is ∙ (waits conn).told;
      outs = (waits conn).outs ∙ one_less o os conn (swapped c conn ∙ is);
    }

    after : (conn : ℕ) → Waits (moved_by w (Send (conn_of o) here.first)) os conn
    after conn = by conn (conn == c) refl

pub send_all : (w : World) (order : List Out) → w.down ≡ false → w.mark ≡ length w.history → ((conn : ℕ) → Waits w order conn) → IsSent w order
send_all w [] up safe waits = record {
  moves = [];
  may = tt;
  history_is = refl;
  mark_is = refl;
  up = up;
  sends = sent_none w w refl;
  told_all = λ conn. none_left w conn (waits conn);
}
send_all w (o ∷ os) up safe waits =
    let one = send_one w o os up safe waits in
    let m = Send (conn_of o) one.sending in
    let mid = moved_by w (Send (conn_of o) one.sending) in
    let rest = send_all (moved_by w (Send (conn_of o) one.sending)) os up safe one.waits in
    let is = world_on w rest.moves (Send (conn_of o) one.sending ∷ []) in
    record {
      moves = rest.moves ++ Send (conn_of o) one.sending ∷ [];
      may = may_on w rest.moves (Send (conn_of o) one.sending ∷ []) (one.may, tt) rest.may;
      history_is = ap (λ (v : World). v.history) is ∙ rest.history_is;
      mark_is = ap (λ (v : World). v.mark) is ∙ rest.mark_is;
      up = ap (λ (v : World). v.down) is ∙ rest.up;
      sends = subst (λ (v : World). HasSent w v (o ∷ os)) (sym is)
          (sent_on w (moved_by w (Send (conn_of o) one.sending)) (world_after (moved_by w (Send (conn_of o) one.sending)) rest.moves) (o ∷ []) os
          (record { newer = one.sending ∷ []; sent = refl; outs_are = ap (λ (x : Out). x ∷ []) one.out }) rest.sends);
      told_all = λ conn. ap (λ (v : World). v.told conn) is ∙ rest.told_all conn;
    }
