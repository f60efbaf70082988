-- The first batches of a list end with a step.
use Rattle.std.proofs.Common.{◌≡◌, ℕ, zero, suc, ◌<◌, Bool, true, false, cond, List, [], ◌∷◌, ◌++◌, take, refl, sym, ap, ◌∙◌, arith, append_assoc, append-nil}
use Rattle.cluster_types.specs.declared.entry.Entry.{Entry}
use Rattle.journal_standby.specs.Steps.{is_input, steps_from, BeginsStep, EndsStep}
use Rattle.journal_standby.specs.Batches.{has_room, batches_from, batches_of, batches, joined}

-- a step begins with an input
abbrev Begins : List Entry → Type 0
Begins [] = ⊥
Begins (e ∷ es) = is_input e ≡ true

abbrev AllBegin : List (List Entry) → Type 0
AllBegin [] = Unit {0}
AllBegin (s ∷ ss) = Begins s × AllBegin ss

-- the first step of some entries, and those behind it
record Parted (step list : List Entry) : Type 0 where
  more : List Entry
  behind : List (List Entry)
  is : steps_from step list ≡ (step ++ more) ∷ behind
  begin : AllBegin behind
  whole : (step ++ more) ++ joined behind ≡ step ++ list

at_input : (step : List Entry) (e : Entry) (list : List Entry) → is_input e ≡ true → Parted (e ∷ []) list → Parted step (e ∷ list)
at_input step e list is p = record {
  more = [];
  behind = (e ∷ p.more) ∷ p.behind;
  is = ap (λ (b : Bool). cond b (step ∷ steps_from (e ∷ []) list) (steps_from (step ++ e ∷ []) list)) is ∙ ap (λ (ss : List (List Entry)). step ∷ ss) p.is ∙ ap (λ (s : List Entry). s ∷ (e ∷ p.more) ∷ p.behind) (sym (append-nil step));
  begin = (is, p.begin);
  whole = ap (λ (s : List Entry). s ++ ((e ∷ p.more) ++ joined p.behind)) (append-nil step) ∙ ap (λ (es : List Entry). step ++ es) p.whole;
}

at_decision : (step : List Entry) (e : Entry) (list : List Entry) → is_input e ≡ false → Parted (step ++ e ∷ []) list → Parted step (e ∷ list)
at_decision step e list is p =
    let first : (step ++ e ∷ []) ++ p.more ≡ step ++ e ∷ p.more = append_assoc step (e ∷ []) p.more in
    record {
      more = e ∷ p.more;
      behind = p.behind;
      is = ap (λ (b : Bool). cond b (step ∷ steps_from (e ∷ []) list) (steps_from (step ++ e ∷ []) list)) is ∙ p.is ∙ ap (λ (s : List Entry). s ∷ p.behind) first;
      begin = p.begin;
      whole = ap (λ (s : List Entry). s ++ joined p.behind) (sym first) ∙ p.whole ∙ append_assoc step (e ∷ []) list;
    }

parted : (step list : List Entry) → Parted step list
parted step [] = record { more = []; behind = []; is = ap (λ (s : List Entry). s ∷ []) (sym (append-nil step)); begin = tt; whole = append-nil (step ++ []) }
parted step (e ∷ list) =
    let input = parted (e ∷ []) list in
    let decision = parted (step ++ e ∷ []) list in
    elim (is_input e) as (λ b. is_input e ≡ b → Parted step (e ∷ list)) [
      | true ↦ λ is. at_input step e list is input
      | false ↦ λ is. at_decision step e list is decision
    ] refl

-- what is behind the first batches, one and so many more
record Cut (batch : List Entry) (ss : List (List Entry)) (k : ℕ) : Type 0 where
  rest : List (List Entry)
  parts : batch ++ joined ss ≡ joined (take (suc k) (batches_from batch ss)) ++ joined rest
  begin : AllBegin rest

none_taken : (k : ℕ) → take k (let none : List (List Entry) = [] in none) ≡ []
none_taken zero = refl
none_taken (suc k) = refl

one_batch : (batch : List Entry) (k : ℕ) → Cut batch [] k
one_batch batch k = record {
  rest = [];
  parts = sym (append-nil (batch ++ [])) ∙ ap (λ (bs : List (List Entry)). (batch ++ joined bs) ++ []) (sym (none_taken k));
  begin = tt;
}

with_step : (batch s : List Entry) (ss : List (List Entry)) (k : ℕ) → has_room batch s ≡ true → Cut (batch ++ s) ss k → Cut batch (s ∷ ss) k
with_step batch s ss k room c = record {
  rest = c.rest;
  parts = sym (append_assoc batch s (joined ss)) ∙ c.parts
      ∙ ap (λ (b : Bool). joined (take (suc k) (cond b (batches_from (batch ++ s) ss) (batch ∷ batches_from s ss))) ++ joined c.rest) (sym room);
  begin = c.begin;
}

cut_here : (batch s : List Entry) (ss : List (List Entry)) → has_room batch s ≡ false → AllBegin (s ∷ ss) → Cut batch (s ∷ ss) 0
cut_here batch s ss full begin = record {
  rest = s ∷ ss;
  parts = ap (λ (b : List Entry). b ++ joined (s ∷ ss)) (sym (append-nil batch))
      ∙ ap (λ (b : Bool). joined (take 1 (cond b (batches_from (batch ++ s) ss) (batch ∷ batches_from s ss))) ++ joined (s ∷ ss)) (sym full);
  begin = begin;
}

cut_later : (batch s : List Entry) (ss : List (List Entry)) (k : ℕ) → has_room batch s ≡ false → Cut s ss k → Cut batch (s ∷ ss) (suc k)
cut_later batch s ss k full c = record {
  rest = c.rest;
  parts = ap (λ (es : List Entry). batch ++ es) c.parts ∙ sym (append_assoc batch (joined (take (suc k) (batches_from s ss))) (joined c.rest))
      ∙ ap (λ (b : Bool). joined (take (suc (suc k)) (cond b (batches_from (batch ++ s) ss) (batch ∷ batches_from s ss))) ++ joined c.rest) (sym full);
  begin = c.begin;
}

cut : (batch : List Entry) (ss : List (List Entry)) (k : ℕ) → AllBegin ss → Cut batch ss k
cut batch [] k begin = one_batch batch k
cut batch (s ∷ ss) zero begin =
    let more = cut (batch ++ s) ss zero begin.1 in
    elim (has_room batch s) as (λ b. has_room batch s ≡ b → Cut batch (s ∷ ss) zero) [
      | true ↦ λ room. with_step batch s ss zero room more
      | false ↦ λ full. cut_here batch s ss full begin
    ] refl
cut batch (s ∷ ss) (suc k) begin =
    let more = cut (batch ++ s) ss (suc k) begin.1 in
    let later = cut s ss k begin.1 in
    elim (has_room batch s) as (λ b. has_room batch s ≡ b → Cut batch (s ∷ ss) (suc k)) [
      | true ↦ λ room. with_step batch s ss (suc k) room more
      | false ↦ λ full. cut_later batch s ss k full later
    ] refl

begins_step : (rest : List (List Entry)) → AllBegin rest → BeginsStep (joined rest)
begins_step [] begin = tt
begins_step ([] ∷ ss) begin = absurd begin.0
begins_step ((e ∷ es) ∷ ss) begin = begin.0

pub ends_step : (list : List Entry) (count : ℕ) → 0 < count → EndsStep list (joined (take count (batches list)))
ends_step list zero some = absurd (omega arith)
ends_step [] (suc k) some = record { rest = []; parts = refl; begins = tt }
ends_step (e ∷ es) (suc k) some =
    let p = parted (e ∷ []) es in
    let c = cut (e ∷ p.more) p.behind k p.begin in
    record {
      rest = joined c.rest;
      parts = sym p.whole ∙ c.parts ∙ ap (λ (ss : List (List Entry)). joined (take (suc k) (batches_of ss)) ++ joined c.rest) (sym p.is);
      begins = begins_step c.rest c.begin;
    }

-- all batches together are the list
joined_from : (batch : List Entry) (ss : List (List Entry)) → joined (batches_from batch ss) ≡ batch ++ joined ss
joined_from batch [] = refl
joined_from batch (s ∷ ss) =
    let more : joined (batches_from (batch ++ s) ss) ≡ batch ++ joined (s ∷ ss) = joined_from (batch ++ s) ss ∙ append_assoc batch s (joined ss) in
    let behind : joined (batch ∷ batches_from s ss) ≡ batch ++ joined (s ∷ ss) = ap (λ (es : List Entry). batch ++ es) (joined_from s ss) in
    elim (has_room batch s) as (λ b. joined (cond b (batches_from (batch ++ s) ss) (batch ∷ batches_from s ss)) ≡ batch ++ joined (s ∷ ss)) [
      | true ↦ more
      | false ↦ behind
    ]

pub joined_batches : (list : List Entry) → joined (batches list) ≡ list
joined_batches [] = refl
joined_batches (e ∷ es) =
    let p = parted (e ∷ []) es in
    ap (λ (ss : List (List Entry)). joined (batches_of ss)) p.is ∙ joined_from (e ∷ p.more) p.behind ∙ p.whole
