-- The laws of the thin history.
use Rattle.std.proofs.Common.{◌≡◌, ℕ, List, [], ◌∷◌, ◌++◌, refl, ◌↔◌}
use Rattle.cluster_types.specs.declared.config.Scheme.{Scheme}
use Rattle.cluster_types.specs.declared.entry.Entry.{Entry}
use Rattle.cluster_defs.specs.Scheduling.{due}
use Rattle.cluster_defs.specs.Histories.{History, facts, Legal, kept}
use Rattle.cluster_defs.specs.Outs.{outs}
use Rattle.cluster_defs.specs.Thin.{let_go, thin}
use Rattle.cluster_laws.proofs.LetGo.{covers, all_shut}
use Rattle.cluster_laws.proofs.Thin.{Like}
use Rattle.cluster_laws.proofs.ThinStep.{facts_thin}
use Rattle.cluster_laws.proofs.Gone.{Covers, covers_more, covers_all, thin_legal, thin_kept, thin_due, facts_further, further_legal, further_back, open_like, open_legal, open_back, legal_below, opened}
use Rattle.cluster_laws.proofs.ThinOuts.{newest_same}

pub thin_is_legal : (h : History) → Legal h → Legal (thin h)
thin_is_legal h legal = thin_legal (let_go h) (facts h).purged h (all_shut (facts h).purged h) legal

pub thin_is_kept : (h : History) → Legal h → kept h ≡ h → kept (thin h) ≡ thin h
thin_is_kept h legal is = thin_kept (let_go h) (facts h).purged h (all_shut (facts h).purged h) is

pub thin_is_due : (h : History) → Legal h → due (facts (thin h)) ≡ due (facts h)
thin_is_due h legal = thin_due (let_go h) (facts h).purged h (all_shut (facts h).purged h)

thin_alike : (h : History) → Like (let_go h) (facts h).purged (facts h) (facts (thin h))
thin_alike h = facts_thin (let_go h) (facts h).purged h (all_shut (facts h).purged h)

gone_covers : (h : History) → Covers (let_go h) (facts h)
unfolding Covers
gone_covers h = covers h

purged_covers : (h : History) → Covers (facts h).purged (facts h)
unfolding Covers
purged_covers h id is = is

goes_on : (h : History) (entries : List Entry) (e : Entry) → Legal h → Legal (entries ++ e ∷ h) → Legal (entries ++ e ∷ thin h)
goes_on h entries e legal more =
    let gone = let_go h in
    let purged = (facts h).purged in
    let base = legal_below entries (e ∷ h) more in
    further_legal gone purged (e ∷ h) (e ∷ thin h) (covers_more gone (facts h) e (gone_covers h)) (open_like gone purged h (thin h) (gone_covers h) (thin_alike h) e)
    (open_legal gone purged h (thin h) (thin_alike h) (thin_is_legal h legal) e base.0) entries more

comes_back : (h : History) (entries : List Entry) (e : Entry) → Legal h → Legal (entries ++ e ∷ thin h) → Legal (entries ++ e ∷ h)
comes_back h entries e legal more =
    let gone = let_go h in
    let purged = (facts h).purged in
    let base = legal_below entries (e ∷ thin h) more in
    further_back gone purged (e ∷ h) (e ∷ thin h) (covers_more gone (facts h) e (gone_covers h)) (open_like gone purged h (thin h) (gone_covers h) (thin_alike h) e)
    (open_back gone purged h (thin h) (thin_alike h) legal e base.0) entries more

pub thin_goes_on : (h : History) (entries : List Entry) (moment : ℕ) (scheme : Scheme) (hwm misses : ℕ) → Legal h →
    Legal (entries ++ opened moment scheme hwm misses ∷ h) ↔ Legal (entries ++ opened moment scheme hwm misses ∷ thin h)
thin_goes_on h entries moment scheme hwm misses legal =
    let e = opened moment scheme hwm misses in
    (goes_on h entries e legal, comes_back h entries e legal)

pub thin_sends_same : (h : History) (entries : List Entry) (moment : ℕ) (scheme : Scheme) (hwm misses : ℕ) → Legal h → Legal (entries ++ opened moment scheme hwm misses ∷ h) →
    outs (entries ++ opened moment scheme hwm misses ∷ thin h) ≡ outs (entries ++ opened moment scheme hwm misses ∷ h)
thin_sends_same h [] moment scheme hwm misses legal more = refl
thin_sends_same h (d ∷ entries) moment scheme hwm misses legal more =
    let e = opened moment scheme hwm misses in
    let gone = let_go h in
    let purged = (facts h).purged in
    let like = open_like gone purged h (thin h) (gone_covers h) (thin_alike h) e in
    let covered = covers_more gone (facts h) e (gone_covers h) in
    newest_same gone purged entries moment scheme hwm misses h (thin h) d (facts_further gone purged (e ∷ h) (e ∷ thin h) covered like entries)
    (covers_all gone (e ∷ h) covered entries) (covers_all purged (e ∷ h) (covers_more purged (facts h) e (purged_covers h)) entries) more
