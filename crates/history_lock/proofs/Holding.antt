-- What a pass keeps at each step.
use Rattle.std.proofs.Common.{◌≡◌, ℕ, ◌+◌, List, [], ◌∷◌, true, false, Option, Some, None, MatchOption, refl, ap, sym, ◌∙◌, subst, subst₂}
use Rattle.atomic_table.specs.Table.{Me, rest}
use Rattle.history_lock.specs.declared.known.Content.{Content}
use Rattle.history_lock.specs.declared.known.Knows.{Knows}
use Rattle.history_lock.specs.Log.{longer_log}
use Rattle.history_lock.specs.Loans.{Loan, loan_in, hold_after}
use Rattle.history_lock.specs.History.{Extends, Stand, ascend, merged}
use Rattle.history_lock.specs.Rule.{half_kept, half_given, whole, without_turn, added_by, knows, kept_of_split, given_of_split, told_seat, IsTaken, IsMerged}
use Rattle.history_lock.specs.Slots.{HasSlots, held}
use Rattle.history_lock.proofs.Places.{stand_later, placed_more}

module _ {T : Type 0} where
  pub record Holds (share : ℕ) (m : Me (Option T) (Knows T)) : Type 0 where
    pub shared : m.0.view.share ≡ share
    pub slots : HasSlots m
    pub unspent : m.0.view.spent ≡ false
    pub stand : Stand m.0.view.seen.list m.0.view.added
    pub ascends : ascend m.0.view.added ≡ true

module _ {T : Type 0} (content : T → Content) (follows : T → T → Type 0) (loan : T → Loan) where
  abbrev SeatState : Type 0
  SeatState = Me (Option T) (Knows T)

  pub taking : (share : ℕ) (old new : SeatState) (result : Option T) → Holds share old → MatchOption result (new ≡ old) (λ value. IsTaken content follows loan old ((0, None) ∷ []) value new) → Holds share new
  taking share old new None h t = subst (Holds share) (sym t) h
  taking share old new (Some value) h t = subst (Holds share) (sym t.is) (record { shared = h.shared; slots = refl; unspent = refl; stand = stand_later old.0.view.seen (content value) old.0.view.added t.later h.stand; ascends = h.ascends })

  pub leaving : (v : Knows T) (new : SeatState) (value : T) → Stand v.view.seen.list v.view.added → ascend v.view.added ≡ true → Extends v.view.seen (content value) → new ≡ (knows (without_turn v.view.share (content value) (added_by v.view (content value).list)) (value ∷ v.log) (hold_after v.hold (loan_in loan v.log) (loan value)), []) → Holds v.view.share new
  leaving v new value s a x is = let t = placed_more v.view.seen (content value) v.view.added x s a in subst (Holds v.view.share) (sym is) (record { shared = refl; slots = refl; unspent = refl; stand = t.0; ascends = t.1 })

  -- the seat that has the turn, once the value lies in its slot
  pub putting : (old new : SeatState) (value : T) → HasSlots old → old.0.view.has_turn ≡ true → new ≡ (old.0, (0, Some value) ∷ rest old.1) → new ≡ (old.0, (0, Some value) ∷ [])
  putting old new value h turn is = is ∙ ap (λ l. (old.0, (0, Some value) ∷ rest l)) (h ∙ ap held turn)

  pub joining : (share : ℕ) (old other : Knows T) (new : SeatState) (log : List T) (hold : Loan) → Stand old.view.seen.list old.view.added → ascend old.view.added ≡ true → Extends old.view.seen (merged old.view.seen other.view.seen) → new ≡ (knows (without_turn share (merged old.view.seen other.view.seen) old.view.added) log hold, []) → Holds share new
  joining share old other new log hold s a x is = subst (Holds share) (sym is) (record { shared = refl; slots = refl; unspent = refl; stand = stand_later old.view.seen (merged old.view.seen other.view.seen) old.view.added x s; ascends = a })

  pub empty : (m : SeatState) → HasSlots m → m.0.view.has_turn ≡ false → m.1 ≡ []
  empty m h idle = h ∙ ap held idle

  -- a pass that was told of another, once it has told_merged
  -- what it knows then
  pub now_knows : (old : SeatState) (other : Knows T) (told new : SeatState) → HasSlots old → old.0.view.has_turn ≡ false → told ≡ (told_seat old.0 other, old.1) → IsMerged content follows loan told new
      → new ≡ (knows (without_turn (old.0.view.share + other.view.share) (merged old.0.view.seen other.view.seen) old.0.view.added) (longer_log old.0.log other.log) old.0.hold, [])
  now_knows old other told new h idle was is = is.is ∙ (ap (λ (m : SeatState). (knows (without_turn m.0.view.share (merged m.0.view.seen m.0.view.told) m.0.view.added) (longer_log m.0.log m.0.told) m.0.hold, m.1)) was
      ∙ ap (λ l. (knows (without_turn (old.0.view.share + other.view.share) (merged old.0.view.seen other.view.seen) old.0.view.added) (longer_log old.0.log other.log) old.0.hold, l)) (empty old h idle))

  pub joined : (old : SeatState) (other : Knows T) (told new : SeatState) → HasSlots old → old.0.view.has_turn ≡ false → Stand old.0.view.seen.list old.0.view.added → ascend old.0.view.added ≡ true
      → told ≡ (told_seat old.0 other, old.1) → IsMerged content follows loan told new → Holds (old.0.view.share + other.view.share) new
  joined old other told new h idle s a was is =
      let now = now_knows old other told new h idle was is in
      joining (old.0.view.share + other.view.share) old.0 other new (longer_log old.0.log other.log) old.0.hold s a (subst₂ (λ (m n : SeatState). Extends m.0.view.seen n.0.view.seen) was now is.seen) now

  -- of a pass that is split, the half that stays, and the half that goes
  pub splitting_kept : (old new : SeatState) → HasSlots old → old.0.view.spent ≡ false → Stand old.0.view.seen.list old.0.view.added → ascend old.0.view.added ≡ true → new ≡ (kept_of_split old.0, old.1) → Holds (half_kept old.0.view.share) new
  splitting_kept old new h unspent s a is = subst (Holds (half_kept old.0.view.share)) (sym is) (record { shared = refl; slots = h; unspent = unspent; stand = s; ascends = a })

  pub splitting_given : (old : Knows T) (new : SeatState) → new ≡ (given_of_split old, []) → Holds (half_given old.view.share) new
  splitting_given old new is = subst (Holds (half_given old.view.share)) (sym is) (record { shared = refl; slots = refl; unspent = refl; stand = refl; ascends = refl })

  pub starting : (value : T) (new : SeatState) → new ≡ (knows (without_turn whole (content value) []) (value ∷ []) (loan value), []) → Holds whole new
  starting value new is = subst (Holds whole) (sym is) (record { shared = refl; slots = refl; unspent = refl; stand = refl; ascends = refl })
