-- The thin history is legal, and the same further entries are legal after both histories.
use Rattle.std.proofs.Common.{◌≡◌, ℕ, ◌≤◌, suc, List, [], ◌∷◌, ◌++◌, length, Bool, true, false, cond, refl, sym, ap, ◌∙◌, subst, arith, Some}
use Rattle.std.specs.Option.{is_some}
use Rattle.std.proofs.lemmas.Bool.{false_from_ne_true, both_ways}
use Rattle.cluster_types.specs.declared.config.Scheme.{Scheme}
use Rattle.cluster_types.specs.declared.entry.Input.TheVariants.{Open, Up, Down, In, Beat, Time}
use Rattle.cluster_types.specs.declared.entry.Entry.{Entry}
use Rattle.cluster_types.specs.declared.entry.Entry.TheVariants.{Input, Hand, Settle, Lose}
use Rattle.cluster_defs.specs.Words.{Id}
use Rattle.cluster_defs.specs.Facts.{Facts, event_on, event_in}
use Rattle.cluster_defs.specs.Acceptance.{accepted}
use Rattle.cluster_defs.specs.Purges.{copied_from}
use Rattle.cluster_defs.specs.Steps.{next, changes}
use Rattle.cluster_defs.specs.Scheduling.{due, Allowed, is_kept}
use Rattle.cluster_defs.specs.Histories.{History, facts, Legal, kept}
use Rattle.cluster_defs.specs.Thin.{thin_request, thin_reply, thin_entry, thin_by, with_bodies}
use Rattle.cluster_laws.proofs.Closed.{purged_stays}
use Rattle.cluster_laws.proofs.Copies.{old_copied}
use Rattle.cluster_laws.proofs.Thin.{Bodies, Replies, Like, thin_message, changes_alike}
use Rattle.cluster_laws.proofs.ThinStep.{Shut, AllShut, copies_in, same_like, facts_thin}

-- LEGAL IS THE SAME, since no decision and no input reads what is let go

allowed_thin : (gone purged : Id → Bool) (f : Facts) (b : Bodies) (r : Replies) (e : Entry) → Allowed f e → Allowed (with_bodies f b r) (thin_entry gone purged f e (event_in f e))
allowed_thin gone purged f b r (Hand i n) h = h
allowed_thin gone purged f b r (Settle i v c) h = h
allowed_thin gone purged f b r (Lose n) h = h
allowed_thin gone purged f b r (Input (Open moment scheme hwm misses)) h = h
allowed_thin gone purged f b r (Input (Up conn channel moment word identity)) h = h
allowed_thin gone purged f b r (Input (Down conn moment word)) h = h
allowed_thin gone purged f b r (Input (Beat moment word)) h = h
allowed_thin gone purged f b r (Input (Time moment word)) h = h
allowed_thin gone purged f b r (Input (In conn moment word m)) h =
    let thinned = thin_message gone purged f conn m (event_on f conn m) refl in
    (h.0, ap is_some thinned.event ∙ h.1)

pub thin_legal : (gone purged : Id → Bool) (h : History) → AllShut gone h → Legal h → Legal (thin_by gone purged h)
unfolding AllShut
thin_legal gone purged [] shut legal = tt
thin_legal gone purged (e ∷ older) shut legal =
    let like = facts_thin gone purged older shut.1 in
    (subst (λ f. Allowed f (thin_entry gone purged (facts older) e (event_in (facts older) e))) (sym like.is) (allowed_thin gone purged (facts older) like.bodies like.replies e legal.0), thin_legal gone purged older shut.1 legal.1)

allowed_there : (f : Facts) (b : Bodies) (r : Replies) (e : Entry) → Allowed f e → Allowed (with_bodies f b r) e
allowed_there f b r (Hand i n) h = h
allowed_there f b r (Settle i v c) h = h
allowed_there f b r (Lose n) h = h
allowed_there f b r (Input (Open moment scheme hwm misses)) h = h
allowed_there f b r (Input (Up conn channel moment word identity)) h = h
allowed_there f b r (Input (Down conn moment word)) h = h
allowed_there f b r (Input (In conn moment word m)) h = h
allowed_there f b r (Input (Beat moment word)) h = h
allowed_there f b r (Input (Time moment word)) h = h

allowed_back : (f : Facts) (b : Bodies) (r : Replies) (e : Entry) → Allowed (with_bodies f b r) e → Allowed f e
allowed_back f b r (Hand i n) h = h
allowed_back f b r (Settle i v c) h = h
allowed_back f b r (Lose n) h = h
allowed_back f b r (Input (Open moment scheme hwm misses)) h = h
allowed_back f b r (Input (Up conn channel moment word identity)) h = h
allowed_back f b r (Input (Down conn moment word)) h = h
allowed_back f b r (Input (In conn moment word m)) h = h
allowed_back f b r (Input (Beat moment word)) h = h
allowed_back f b r (Input (Time moment word)) h = h

-- KEPT AND DUE

kept_message : (gone purged : Id → Bool) (f : Facts) (b : Bodies) (r : Replies) (conn moment word : ℕ) (m : _) →
    is_kept (with_bodies f b r) (thin_entry gone purged f (Input (In conn moment word m)) (event_on f conn m)) ≡ is_kept f (Input (In conn moment word m))
kept_message gone purged f b r conn moment word m =
    let o = event_on f conn m in
    let n = thin_reply purged f conn o (thin_request gone (accepted f m o) m) in
    let thinned = thin_message gone purged f conn m o refl in
    ap (changes (with_bodies f b r) conn n) thinned.event
    ∙ subst (λ x. changes (with_bodies f b r) conn x o ≡ changes f conn m o) (sym thinned.is) (changes_alike f b r thinned.content thinned.buffers conn m o)

is_kept_thin : (gone purged : Id → Bool) (f : Facts) (b : Bodies) (r : Replies) (e : Entry) → is_kept (with_bodies f b r) (thin_entry gone purged f e (event_in f e)) ≡ is_kept f e
is_kept_thin gone purged f b r (Hand i n) = refl
is_kept_thin gone purged f b r (Settle i v c) = refl
is_kept_thin gone purged f b r (Lose n) = refl
is_kept_thin gone purged f b r (Input (Open moment scheme hwm misses)) = refl
is_kept_thin gone purged f b r (Input (Up conn channel moment word identity)) = refl
is_kept_thin gone purged f b r (Input (Down conn moment word)) = refl
is_kept_thin gone purged f b r (Input (Beat moment word)) = refl
is_kept_thin gone purged f b r (Input (Time moment word)) = refl
is_kept_thin gone purged f b r (Input (In conn moment word m)) = kept_message gone purged f b r conn moment word m

kept_length : (h : History) → length (kept h) ≤ length h
kept_length [] = omega arith
kept_length (e ∷ older) =
    let before = kept_length older in
    elim (is_kept (facts older) e) as (λ b. length (cond b (e ∷ kept older) (kept older)) ≤ suc (length older)) [ true ↦ omega arith | false ↦ omega arith ]

too_short : (xs ys : History) (e : Entry) → length xs ≤ length ys → xs ≡ e ∷ ys → ⊥
too_short xs ys e le is = let same : length xs ≡ suc (length ys) = ap length is in absurd (omega arith)

newest_kept : (e : Entry) (older : History) → kept (e ∷ older) ≡ e ∷ older → (is_kept (facts older) e ≡ true) × (kept older ≡ older)
newest_kept e older is =
    (elim (is_kept (facts older) e) as (λ b. cond b (e ∷ kept older) (kept older) ≡ e ∷ older → (b ≡ true) × (kept older ≡ older)) [
      | true ↦ λ same. (refl, cc)
      | false ↦ λ same. absurd (too_short (kept older) older e (kept_length older) same)
    ]) is

pub thin_kept : (gone purged : Id → Bool) (h : History) → AllShut gone h → kept h ≡ h → kept (thin_by gone purged h) ≡ thin_by gone purged h
unfolding AllShut
thin_kept gone purged [] shut is = refl
thin_kept gone purged (e ∷ older) shut is =
    let like = facts_thin gone purged older shut.1 in
    let parts = newest_kept e older is in
    let thinned = thin_entry gone purged (facts older) e (event_in (facts older) e) in
    let on : is_kept (facts (thin_by gone purged older)) thinned ≡ true = ap (λ f. is_kept f thinned) like.is ∙ is_kept_thin gone purged (facts older) like.bodies like.replies e ∙ parts.0 in
    rw (on, thin_kept gone purged older shut.1 parts.1) refl

pub thin_due : (gone purged : Id → Bool) (h : History) → AllShut gone h → due (facts (thin_by gone purged h)) ≡ due (facts h)
thin_due gone purged h shut = ap due ((facts_thin gone purged h shut).is)

-- FURTHER ENTRIES

-- what passes a test is purged
unfoldable pub Covers : (Id → Bool) → Facts → Type 0
Covers test f = (id : Id) → test id ≡ true → f.purged id ≡ true

pub covers_more : (test : Id → Bool) (f : Facts) (e : Entry) → Covers test f → Covers test (next f e)
unfolding Covers
covers_more test f e covers id h = purged_stays f e id (covers id h)

pub covers_all : (test : Id → Bool) (h : History) → Covers test (facts h) → (entries : List Entry) → Covers test (facts (entries ++ h))
covers_all test h covers [] = covers
covers_all test h covers (e ∷ entries) = covers_more test (facts (entries ++ h)) e (covers_all test h covers entries)

-- what isn't purged fails the test
pub not_yet : (test : Id → Bool) (f : Facts) → Covers test f → (id : Id) → f.purged id ≡ false → test id ≡ false
unfolding Covers
not_yet test f covers id off = false_from_ne_true _ (λ g. both_ways _ off (covers id g))

copies_from_in : (f : Facts) (e : Entry) (id old : Id) → copied_from id (copies_in f e) ≡ Some old → f.purged old ≡ false
copies_from_in f e id old is = (old_copied f (event_in f e) id old is).unpurged

pub further_shut : (gone : Id → Bool) (f : Facts) → Covers gone f → (e : Entry) → Shut gone (copies_in f e)
unfolding Shut
further_shut gone f covers e id old is g = not_yet gone f covers old (copies_from_in f e id old is)

-- after the same further entries the facts are still alike
pub facts_further : (gone purged : Id → Bool) (h t : History) → Covers gone (facts h) → Like gone purged (facts h) (facts t) → (entries : List Entry) → Like gone purged (facts (entries ++ h)) (facts (entries ++ t))
facts_further gone purged h t covers like [] = like
facts_further gone purged h t covers like (e ∷ entries) =
    same_like gone purged (facts (entries ++ h)) _ (facts_further gone purged h t covers like entries) e (further_shut gone (facts (entries ++ h)) (covers_all gone h covers entries) e)

pub further_legal : (gone purged : Id → Bool) (h t : History) → Covers gone (facts h) → Like gone purged (facts h) (facts t) → Legal t → (entries : List Entry) → Legal (entries ++ h) → Legal (entries ++ t)
further_legal gone purged h t covers like base [] legal = base
further_legal gone purged h t covers like base (e ∷ entries) legal =
    let there = facts_further gone purged h t covers like entries in
    (subst (λ f. Allowed f e) (sym there.is) (allowed_there (facts (entries ++ h)) there.bodies there.replies e legal.0), further_legal gone purged h t covers like base entries legal.1)

pub further_back : (gone purged : Id → Bool) (h t : History) → Covers gone (facts h) → Like gone purged (facts h) (facts t) → Legal h → (entries : List Entry) → Legal (entries ++ t) → Legal (entries ++ h)
further_back gone purged h t covers like base [] legal = base
further_back gone purged h t covers like base (e ∷ entries) legal =
    let there = facts_further gone purged h t covers like entries in
    (allowed_back (facts (entries ++ h)) there.bodies there.replies e (subst (λ f. Allowed f e) there.is legal.0), further_back gone purged h t covers like base entries legal.1)

-- an Open goes on from both
abbrev pub opened : ℕ → Scheme → ℕ → ℕ → Entry
opened moment scheme hwm misses = Input (Open moment scheme hwm misses)

pub open_like : (gone purged : Id → Bool) (h t : History) → Covers gone (facts h) → Like gone purged (facts h) (facts t) → (e : Entry) → Like gone purged (facts (e ∷ h)) (facts (e ∷ t))
open_like gone purged h t covers like e = same_like gone purged (facts h) (facts t) like e (further_shut gone (facts h) covers e)

pub open_legal : (gone purged : Id → Bool) (h t : History) → Like gone purged (facts h) (facts t) → Legal t → (e : Entry) → Allowed (facts h) e → Legal (e ∷ t)
open_legal gone purged h t like legal e allowed = (subst (λ f. Allowed f e) (sym like.is) (allowed_there (facts h) like.bodies like.replies e allowed), legal)

pub open_back : (gone purged : Id → Bool) (h t : History) → Like gone purged (facts h) (facts t) → Legal h → (e : Entry) → Allowed (facts t) e → Legal (e ∷ h)
open_back gone purged h t like legal e allowed = (allowed_back (facts h) like.bodies like.replies e (subst (λ f. Allowed f e) like.is allowed), legal)

-- what more entries allow, they allowed before
pub legal_below : (entries : List Entry) (h : History) → Legal (entries ++ h) → Legal h
legal_below [] h legal = legal
legal_below (e ∷ entries) h legal = legal_below entries h legal.1
