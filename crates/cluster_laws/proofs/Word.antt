-- A decision of a legal history has the word and the moment of the newest input, whether that is kept or not.
use Rattle.std.proofs.Common.{◌≡◌, ℕ, [], ◌∷◌, Bool, true, false, cond, refl, ap, ◌∙◌, Option, Some, None, ◌⊎◌, inl, inr, ⊎_elim}
use Rattle.cluster_types.specs.declared.verdict.Verdict.{Verdict}
use Rattle.cluster_types.specs.declared.verdict.Cause.{Cause}
use Rattle.cluster_types.specs.declared.entry.Input.TheVariants.{Open, Up, Down, In, Beat, Time}
use Rattle.cluster_types.specs.declared.entry.Entry.{Entry}
use Rattle.cluster_types.specs.declared.entry.Entry.TheVariants.{Input, Hand, Settle, Lose}
use Rattle.cluster_defs.specs.Words.{Id}
use Rattle.cluster_defs.specs.Facts.{event_on}
use Rattle.cluster_defs.specs.Steps.{changes}
use Rattle.cluster_types.specs.Chance.{next_word}
use Rattle.cluster_defs.specs.Scheduling.{due}
use Rattle.cluster_defs.specs.Histories.{History, facts, Legal}
use Rattle.cluster_defs.specs.Uses.{newest_word, newest_moment}
use Rattle.cluster_laws.proofs.Kept.{in_same}

-- word and moment are those of the newest input, or no decision is due
abbrev Even : History → Type 0
Even h = (((facts h).word ≡ newest_word h) × ((facts h).moment ≡ newest_moment h)) ⊎ (due (facts h) ≡ None)

none_some : (o : Option Entry) (d : Entry) → o ≡ None → o ≡ Some d → ⊥
none_some None d a b = cc
none_some (Some x) d a b = cc

at_decision : (h : History) (d : Entry) → due (facts h) ≡ Some d → Even h → ((facts h).word ≡ newest_word h) × ((facts h).moment ≡ newest_moment h)
at_decision h d is = ⊎_elim (λ same. same) (λ none. absurd (none_some (due (facts h)) d none is))

even : (h : History) → Legal h → Even h
even [] legal = inl (refl, refl)
even (Hand id n ∷ older) legal = let same = at_decision older (Hand id n) legal.0 (even older legal.1) in inl (ap next_word same.0, same.1)
even (Settle id v c ∷ older) legal = inl (at_decision older (Settle id v c) legal.0 (even older legal.1))
even (Lose n ∷ older) legal = inl (at_decision older (Lose n) legal.0 (even older legal.1))
even (Input (Open moment scheme hwm misses) ∷ older) legal = inl (refl, refl)
even (Input (Up conn channel moment word identity) ∷ older) legal = inl (refl, refl)
even (Input (Down conn moment word) ∷ older) legal = inl (refl, refl)
even (Input (Beat moment word) ∷ older) legal = inl (refl, refl)
even (Input (Time moment word) ∷ older) legal = inl (refl, refl)
even (Input (In conn moment word message) ∷ older) legal =
    let f = facts older in
    let event = event_on f conn message in
    let go : (b : Bool) → changes f conn message event ≡ b → Even (Input (In conn moment word message) ∷ older) = elim [
      | true ↦ λ on. inl (ap (λ b. cond b word f.word) on, ap (λ b. cond b moment f.moment) on)
      | false ↦ λ off. inr (ap due (in_same f conn moment word message event off) ∙ legal.0.0)
    ] in
    go (changes f conn message event) refl

pub drawn_word : (h : History) (id : Id) (n : ℕ) → Legal (Hand id n ∷ h) → (facts h).word ≡ newest_word h
drawn_word h id n legal = (at_decision h (Hand id n) legal.0 (even h legal.1)).0

pub settled_moment : (h : History) (id : Id) (v : Verdict) (c : Cause) → Legal (Settle id v c ∷ h) → (facts h).moment ≡ newest_moment h
settled_moment h id v c legal = (at_decision h (Settle id v c) legal.0 (even h legal.1)).1
