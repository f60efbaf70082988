-- Lists in which no two engines are on one connection, and what an echo does in them.
use Rattle.std.proofs.Common.{◌≡◌, ap, sym, ◌∙◌, ℕ, zero, suc, ◌<◌, ◌≤◌, List, [], ◌∷◌, ◌++◌, length, map, set, get_or, Bool, true, false, cond, not, ◌&&◌, ◌||◌, refl, subst, Option, Some, None, arith}
use Rattle.std.specs.Prelude.{find, filter, slice_get, nat_lt, ◌==◌}
use Rattle.std.specs.List.{list_any}
use Rattle.std.proofs.lemmas.Bool.{both_ways, eqb-true, eq-eqb, ne_eqb, and_parts, and_from}
use Rattle.cluster_defs.specs.declared.engine.Engine.{Engine}
use Rattle.cluster_defs.specs.Engines.{raises, marked, engine_on}
use Rattle.engine_registry.specs.Places.{passing, engine_at}
use Rattle.engine_registry.specs.Lone.{are_apart}
use Rattle.cluster_types.proofs.Booleans.{or_false}

off_of : (b : Bool) → not b ≡ true → b ≡ false
off_of true h = sym h
off_of false h = refl

turned : (a b : ℕ) → (a == b) ≡ false → (b == a) ≡ false
turned a b off = ne_eqb b a (λ e. both_ways (a == b) off (eq-eqb a b (sym e)))

-- none is found where none passes
any_none : (p : Engine → Bool) (live : List Engine) → find p live ≡ None → list_any p live ≡ false
any_none p [] h = refl
any_none p (x ∷ xs) h =
    (elim (p x) as (λ b. cond b (Some x) (find p xs) ≡ None → (b || list_any p xs) ≡ false) [
      | true ↦ λ h. cc
      | false ↦ λ h. any_none p xs h
    ]) h

none_any : (p : Engine → Bool) (live : List Engine) → list_any p live ≡ false → find p live ≡ None
none_any p [] h = refl
none_any p (x ∷ xs) h =
    (elim (p x) as (λ b. (b || list_any p xs) ≡ false → cond b (Some x) (find p xs) ≡ None) [
      | true ↦ λ h. cc
      | false ↦ λ h. none_any p xs h
    ]) h

-- ONE MORE, AND SOME LESS

any_more : (p : Engine → Bool) (live : List Engine) (e : Engine) → list_any p live ≡ false → p e ≡ false → list_any p (live ++ e ∷ []) ≡ false
any_more p [] e h off = rw off refl
any_more p (x ∷ xs) e h off =
    (elim (p x) as (λ b. (b || list_any p xs) ≡ false → (b || list_any p (xs ++ e ∷ [])) ≡ false) [
      | true ↦ λ h. h
      | false ↦ λ h. any_more p xs e h off
    ]) h

pub apart_more : (live : List Engine) (e : Engine) → are_apart live ≡ true → engine_on live e.conn ≡ None → are_apart (live ++ e ∷ []) ≡ true
apart_more [] e apart none = refl
apart_more (x ∷ xs) e apart none =
    let parts = and_parts (not (list_any (λ f. f.conn == x.conn) xs)) (are_apart xs) apart in
    (elim (x.conn == e.conn) as (λ b. (x.conn == e.conn) ≡ b → cond b (Some x) (engine_on xs e.conn) ≡ None → are_apart (x ∷ (xs ++ e ∷ [])) ≡ true) [
      | true ↦ λ on h. cc
      | false ↦ λ off h.
          and_from (not (list_any (λ f. f.conn == x.conn) (xs ++ e ∷ []))) (are_apart (xs ++ e ∷ []))
          (ap not (any_more (λ f. f.conn == x.conn) xs e (off_of _ parts.0) (turned x.conn e.conn off)))
          (apart_more xs e parts.1 h)
    ]) refl none

any_less : (p q : Engine → Bool) (live : List Engine) → list_any p live ≡ false → list_any p (filter q live) ≡ false
any_less p q [] h = h
any_less p q (x ∷ xs) h =
    (elim (p x) as (λ b. p x ≡ b → (b || list_any p xs) ≡ false → list_any p (cond (q x) (x ∷ filter q xs) (filter q xs)) ≡ false) [
      | true ↦ λ on h. cc
      | false ↦ λ off h. either (q x) off (any_less p q xs h)
    ]) refl h
  where
    either : (c : Bool) → p x ≡ false → list_any p (filter q xs) ≡ false → list_any p (cond c (x ∷ filter q xs) (filter q xs)) ≡ false
    either true off rest = rw off rest
    either false off rest = rest

pub apart_less : (q : Engine → Bool) (live : List Engine) → are_apart live ≡ true → are_apart (filter q live) ≡ true
apart_less q [] h = h
apart_less q (x ∷ xs) h =
    let parts = and_parts (not (list_any (λ f. f.conn == x.conn) xs)) (are_apart xs) h in
    either (q x) (ap not (any_less (λ f. f.conn == x.conn) q xs (off_of _ parts.0))) (apart_less q xs parts.1)
  where
    either : (c : Bool) → not (list_any (λ f. f.conn == x.conn) (filter q xs)) ≡ true → are_apart (filter q xs) ≡ true → are_apart (cond c (x ∷ filter q xs) (filter q xs)) ≡ true
    either true one two = and_from _ _ one two
    either false one two = two

-- ECHOES

conn_cases : (b : Bool) (e : Engine) (beat : ℕ) → (cond b (record e { mark = beat }) e).conn ≡ e.conn
conn_cases true e beat = refl
conn_cases false e beat = refl

pub conn_marked : (conn beat : ℕ) (e : Engine) → (marked conn beat e).conn ≡ e.conn
conn_marked conn beat e = conn_cases (raises conn beat e) e beat

uuid_cases : (b : Bool) (e : Engine) (beat : ℕ) → (cond b (record e { mark = beat }) e).uuid ≡ e.uuid
uuid_cases true e beat = refl
uuid_cases false e beat = refl

pub uuid_marked : (conn beat : ℕ) (e : Engine) → (marked conn beat e).uuid ≡ e.uuid
uuid_marked conn beat e = uuid_cases (raises conn beat e) e beat

number_cases : (b : Bool) (e : Engine) (beat : ℕ) → (cond b (record e { mark = beat }) e).number ≡ e.number
number_cases true e beat = refl
number_cases false e beat = refl

pub number_marked : (conn beat : ℕ) (e : Engine) → (marked conn beat e).number ≡ e.number
number_marked conn beat e = number_cases (raises conn beat e) e beat

any_marked : (conn beat other : ℕ) (live : List Engine) → list_any (λ f. f.conn == other) (map (marked conn beat) live) ≡ list_any (λ f. f.conn == other) live
any_marked conn beat other [] = refl
any_marked conn beat other (x ∷ xs) = rw (conn_marked conn beat x, any_marked conn beat other xs) refl

pub apart_marked : (conn beat : ℕ) (live : List Engine) → are_apart (map (marked conn beat) live) ≡ are_apart live
apart_marked conn beat [] = refl
apart_marked conn beat (x ∷ xs) = rw (conn_marked conn beat x, any_marked conn beat x.conn xs, apart_marked conn beat xs) refl

off_marked : (conn beat : ℕ) (e : Engine) → (e.conn == conn) ≡ false → marked conn beat e ≡ e
off_marked conn beat e off = rw off refl

-- an echo on a connection without an engine does nothing
pub none_marked : (conn beat : ℕ) (live : List Engine) → engine_on live conn ≡ None → map (marked conn beat) live ≡ live
none_marked conn beat [] h = refl
none_marked conn beat (x ∷ xs) h =
    (elim (x.conn == conn) as (λ b. (x.conn == conn) ≡ b → cond b (Some x) (engine_on xs conn) ≡ None → (marked conn beat x ∷ map (marked conn beat) xs) ≡ x ∷ xs) [
      | true ↦ λ on h. cc
      | false ↦ λ off h. rw (off_marked conn beat x off, none_marked conn beat xs h) refl
    ]) refl h

has_at : (conn : ℕ) (live : List Engine) (i : ℕ) (e : Engine) → i < length live → e ≡ get_or live i e → (e.conn == conn) ≡ true → list_any (λ f. f.conn == conn) live ≡ true
has_at conn [] i e lt is on = absurd (omega arith)
has_at conn (x ∷ xs) zero e lt is on = let same : e ≡ x = is in rw (sym same, on) refl
has_at conn (x ∷ xs) (suc i) e lt is on =
    elim (x.conn == conn) as (λ b. (b || list_any (λ f. f.conn == conn) xs) ≡ true) [
      | true ↦ refl
      | false ↦ has_at conn xs i e (omega arith) is on
    ]

-- an echo raises the mark of the one engine on its connection
pub one_marked : (conn beat : ℕ) (live : List Engine) (i : ℕ) (e : Engine) → are_apart live ≡ true → i < length live → e ≡ get_or live i e → (e.conn == conn) ≡ true → set live i (marked conn beat e) ≡ map (marked conn beat) live
one_marked conn beat [] i e apart lt is on = absurd (omega arith)
one_marked conn beat (x ∷ xs) zero e apart lt is on =
    let parts = and_parts (not (list_any (λ f. f.conn == x.conn) xs)) (are_apart xs) apart in
    let same : e ≡ x = is in
    let at : x.conn ≡ conn = eqb-true x.conn conn (subst (λ (y : Engine). (y.conn == conn) ≡ true) same on) in
    let none : list_any (λ f. f.conn == conn) xs ≡ false = subst (λ c. list_any (λ f. f.conn == c) xs ≡ false) at (off_of _ parts.0) in
    rw (none_marked conn beat xs (none_any (λ f. f.conn == conn) xs none), same) refl
one_marked conn beat (x ∷ xs) (suc i) e apart lt is on =
    let parts = and_parts (not (list_any (λ f. f.conn == x.conn) xs)) (are_apart xs) apart in
    let there : list_any (λ f. f.conn == conn) xs ≡ true = has_at conn xs i e (omega arith) is on in
    let rest : set xs i (marked conn beat e) ≡ map (marked conn beat) xs = one_marked conn beat xs i e parts.1 (omega arith) is on in
    (elim (x.conn == conn) as (λ b. (x.conn == conn) ≡ b → (x ∷ set xs i (marked conn beat e)) ≡ (marked conn beat x ∷ map (marked conn beat) xs)) [
      | true ↦ λ same.
          absurd (both_ways (list_any (λ f. f.conn == conn) xs) (subst (λ c. list_any (λ f. f.conn == c) xs ≡ false) (eqb-true x.conn conn same) (off_of _ parts.0)) there)
      | false ↦ λ off. rw (off_marked conn beat x off, rest) refl
    ]) refl

-- whether the one engine on a connection has a lower mark
raised : ℕ → Option Engine → Bool
raised beat None = false
raised beat (Some e) = nat_lt e.mark beat

none_raised : (conn beat : ℕ) (live : List Engine) → list_any (λ f. f.conn == conn) live ≡ false → list_any (raises conn beat) live ≡ false
none_raised conn beat [] h = refl
none_raised conn beat (x ∷ xs) h =
    (elim (x.conn == conn) as (λ b. (b || list_any (λ f. f.conn == conn) xs) ≡ false → ((b && nat_lt x.mark beat) || list_any (raises conn beat) xs) ≡ false) [
      | true ↦ λ h. cc
      | false ↦ λ h. none_raised conn beat xs h
    ]) h

pub none_on : (conn beat : ℕ) (live : List Engine) → engine_on live conn ≡ None → list_any (raises conn beat) live ≡ false
none_on conn beat live none = none_raised conn beat live (any_none (λ f. f.conn == conn) live none)

pub one_raised : (conn beat : ℕ) (live : List Engine) (e : Engine) → are_apart live ≡ true → engine_on live conn ≡ Some e → list_any (raises conn beat) live ≡ nat_lt e.mark beat
one_raised conn beat [] e apart is = cc
one_raised conn beat (x ∷ xs) e apart is =
    let parts = and_parts (not (list_any (λ f. f.conn == x.conn) xs)) (are_apart xs) apart in
    (elim (x.conn == conn) as (λ b. (x.conn == conn) ≡ b → cond b (Some x) (engine_on xs conn) ≡ Some e → ((b && nat_lt x.mark beat) || list_any (raises conn beat) xs) ≡ nat_lt e.mark beat) [
      | true ↦ λ same is.
          let first : x ≡ e = cc in
          let none : list_any (raises conn beat) xs ≡ false = none_raised conn beat xs (subst (λ c. list_any (λ f. f.conn == c) xs ≡ false) (eqb-true x.conn conn same) (off_of _ parts.0)) in
          rw none (or_false (nat_lt x.mark beat) ∙ ap (λ (y : Engine). nat_lt y.mark beat) first)
      | false ↦ λ _ is. one_raised conn beat xs e parts.1 is
    ]) refl is

-- THE ENGINE AT A PLACE

get_some : (live : List Engine) (i : ℕ) (d : Engine) → i < length live → slice_get live i ≡ Some (get_or live i d)
get_some [] i d lt = absurd (omega arith)
get_some (x ∷ xs) zero d lt = refl
get_some (x ∷ xs) (suc i) d lt = get_some xs i d (omega arith)

set_same : (live : List Engine) (i : ℕ) (d : Engine) → i < length live → set live i (get_or live i d) ≡ live
set_same [] i d lt = absurd (omega arith)
set_same (x ∷ xs) zero d lt = refl
set_same (x ∷ xs) (suc i) d lt = ap (λ ys. x ∷ ys) (set_same xs i d (omega arith))

get_alike : (live : List Engine) (i : ℕ) (d e : Engine) → i < length live → get_or live i d ≡ get_or live i e
get_alike [] i d e lt = absurd (omega arith)
get_alike (x ∷ xs) zero d e lt = refl
get_alike (x ∷ xs) (suc i) d e lt = get_alike xs i d e (omega arith)

pub at_marked : (conn beat : ℕ) (live : List Engine) (i : ℕ) (d y : Engine) → are_apart live ≡ true → i < length live → y ≡ marked conn beat (get_or live i d) → engine_at live (λ f. f.conn == conn) (Some i) ≡ engine_on live conn → set live i y ≡ map (marked conn beat) live
at_marked conn beat live i d y apart lt made is =
    let e : Engine = get_or live i d in
    ap (set live i) made
    ∙ elim (e.conn == conn) as (λ b. (e.conn == conn) ≡ b → set live i (marked conn beat e) ≡ map (marked conn beat) live) [
      | true ↦ λ there. one_marked conn beat live i e apart lt (get_alike live i d e lt) there
      | false ↦ λ off.
          let none : engine_at live (λ f. f.conn == conn) (Some i) ≡ None = ap (passing (λ f. f.conn == conn)) (get_some live i d lt) ∙ ap (λ b. cond b (Some e) None) off in
          ap (set live i) (off_marked conn beat e off) ∙ set_same live i d lt ∙ sym (none_marked conn beat live (sym is ∙ none))
    ] refl

past_none : (live : List Engine) (i : ℕ) → length live ≤ i → slice_get live i ≡ None
past_none [] i le = refl
past_none (x ∷ xs) zero le = absurd (omega arith)
past_none (x ∷ xs) (suc i) le = past_none xs i (omega arith)

pub past_marked : (conn beat : ℕ) (live : List Engine) (i : ℕ) → length live ≤ i → engine_at live (λ f. f.conn == conn) (Some i) ≡ engine_on live conn → live ≡ map (marked conn beat) live
past_marked conn beat live i le is =
    sym (none_marked conn beat live (sym is ∙ ap (passing (λ f. f.conn == conn)) (past_none live i le)))
