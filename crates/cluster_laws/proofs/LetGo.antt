-- What the thin history lets go is purged, and no copy of what stays was made of it.
use Rattle.std.proofs.Common.{◌≡◌, List, [], ◌∷◌, Bool, true, false, cond, not, ◌&&◌, ◌||◌, refl, sym, ◌∙◌, subst, Option, Some, None, bytes_eq}
use Rattle.std.specs.Prelude.{find, option_map}
use Rattle.std.specs.List.{list_all}
use Rattle.std.proofs.lemmas.Bool.{and_parts, and_from, false_from_ne_true, both_ways}
use Rattle.cluster_types.specs.declared.entry.Entry.{Entry}
use Rattle.cluster_defs.specs.Words.{Id, is_listed}
use Rattle.cluster_defs.specs.Facts.{Facts, event_in}
use Rattle.cluster_defs.specs.Purges.{Copy, copied_from}
use Rattle.cluster_defs.specs.Histories.{History, facts}
use Rattle.cluster_defs.specs.Thin.{narrowed, copies_of, gone_from}
use Rattle.cluster_defs.proofs.Options.{same_id, id_self}
use Rattle.cluster_laws.proofs.Copies.{AllCopied, all_copied}
use Rattle.cluster_laws.proofs.Numbers.{AllNew, copies_new, numbered}
use Rattle.cluster_laws.proofs.Closed.{listed_stays}
use Rattle.cluster_laws.proofs.ThinStep.{Shut, AllShut, copies_in}
use Rattle.cluster_types.proofs.Lists.{found_passes}

narrowed_less : (gone : Id → Bool) (copies : List Copy) (id : Id) → narrowed gone copies id ≡ true → gone id ≡ true
narrowed_less gone copies id h = (and_parts _ _ h).0

gone_less : (gone : Id → Bool) (h : History) (id : Id) → gone_from gone h id ≡ true → gone id ≡ true
gone_less gone [] id h = h
gone_less gone (e ∷ older) id h = narrowed_less gone (copies_of (copies_in (facts older) e)) id (gone_less (narrowed gone (copies_of (copies_in (facts older) e))) older id h)

pub covers : (h : History) (id : Id) → gone_from (facts h).purged h id ≡ true → (facts h).purged id ≡ true
covers h id g = gone_less (facts h).purged h id g

-- what an entry copies was known before, and its copies weren't
abbrev OldKnown : Facts → List Copy → Type 0
OldKnown f [] = Unit {0}
OldKnown f (c ∷ copies) = (is_listed c.old f.known ≡ true) × OldKnown f copies

old_known : (f : Facts) (copies : List Copy) → AllCopied f copies → OldKnown f copies
old_known f [] all = tt
old_known f (c ∷ copies) all = (all.0.known, old_known f copies all.1)

made_known : (f : Facts) (e : Entry) (o : Option (List Copy)) → copies_in f e ≡ o → OldKnown f (copies_of o)
made_known f e None is = tt
made_known f e (Some copies) is = old_known f copies (all_copied f (event_in f e) copies is)

-- an id that wasn't known stays as it was
not_copied : (f : Facts) (gone : Id → Bool) (copies : List Copy) (id : Id) → OldKnown f copies → is_listed id f.known ≡ false → list_all (λ c. not (bytes_eq c.old id) || gone c.new) copies ≡ true
not_copied f gone [] id known off = refl
not_copied f gone (c ∷ copies) id known off =
    let other : bytes_eq c.old id ≡ false = false_from_ne_true _ (λ same. both_ways (is_listed id f.known) off (subst (λ i. is_listed i f.known ≡ true) (same_id c.old id same) known.0)) in
    and_from _ _ (first (bytes_eq c.old id) (gone c.new) other) (not_copied f gone copies id known.1 off)
  where
    first : (a b : Bool) → a ≡ false → (not a || b) ≡ true
    first true b h = cc
    first false b h = refl

and_true : (a b : Bool) → b ≡ true → (a && b) ≡ a
and_true true b h = h
and_true false b h = refl

narrowed_other : (f : Facts) (gone : Id → Bool) (copies : List Copy) (id : Id) → OldKnown f copies → is_listed id f.known ≡ false → narrowed gone copies id ≡ gone id
narrowed_other f gone copies id known off = and_true (gone id) _ (not_copied f gone copies id known off)

not_listed_before : (older : History) (e : Entry) (id : Id) → is_listed id (facts (e ∷ older)).known ≡ false → is_listed id (facts older).known ≡ false
not_listed_before older e id off = false_from_ne_true _ (λ on. both_ways _ off (listed_stays (facts older) e id on))

unchanged : (gone : Id → Bool) (h : History) (id : Id) → is_listed id (facts h).known ≡ false → gone_from gone h id ≡ gone id
unchanged gone [] id off = refl
unchanged gone (e ∷ older) id off =
    let before = not_listed_before older e id off in
    let copies = copies_of (copies_in (facts older) e) in
    unchanged (narrowed gone copies) older id before ∙ narrowed_other (facts older) gone copies id (made_known (facts older) e (copies_in (facts older) e) refl) before

-- where an old id may go, its copy may
copy_gone : (gone : Id → Bool) (copies : List Copy) (c : Copy) (p : Copy → Bool) → find p copies ≡ Some c → list_all (λ d. not (bytes_eq d.old c.old) || gone d.new) copies ≡ true → gone c.new ≡ true
copy_gone gone [] c p is h = cc
copy_gone gone (d ∷ copies) c p is h =
    let both = and_parts (not (bytes_eq d.old c.old) || gone d.new) (list_all (λ x. not (bytes_eq x.old c.old) || gone x.new) copies) h in
    (elim (p d) as (λ b. cond b (Some d) (find p copies) ≡ Some c → gone c.new ≡ true) [
      | true ↦ λ k. let same : d ≡ c = cc in own c (subst (λ (x : Copy). (not (bytes_eq x.old c.old) || gone x.new) ≡ true) same both.0)
      | false ↦ λ k. copy_gone gone copies c p k both.1
    ]) is
  where
    own : (x : Copy) → (not (bytes_eq x.old x.old) || gone x.new) ≡ true → gone x.new ≡ true
    own x k = subst (λ b. (not b || gone x.new) ≡ true) (id_self x.old) k

-- a copy's id wasn't known
copy_new : (known : List Id) (copies : List Copy) (c : Copy) (p : Copy → Bool) → AllNew known copies → find p copies ≡ Some c → is_listed c.new known ≡ false
copy_new known [] c p all is = cc
copy_new known (d ∷ copies) c p all is =
    (elim (p d) as (λ b. cond b (Some d) (find p copies) ≡ Some c → is_listed c.new known ≡ false) [
      | true ↦ λ k. let same : d ≡ c = cc in subst (λ (x : Copy). is_listed x.new known ≡ false) same all.0
      | false ↦ λ k. copy_new known copies c p all.1 k
    ]) is

-- the copy that has an id
pub record Found (id old : Id) (copies : List Copy) : Type 0 where
  pub copy : Copy
  pub at : find (λ c. bytes_eq c.new id) copies ≡ Some copy
  pub new : copy.new ≡ id
  pub from : copy.old ≡ old

found : (id old : Id) (copies : List Copy) → copied_from id (Some copies) ≡ Some old → Found id old copies
found id old copies h = go (find (λ c. bytes_eq c.new id) copies) refl h
  where
    go : (o : Option Copy) → find (λ (c : Copy). bytes_eq c.new id) copies ≡ o → option_map (λ (c : Copy). c.old) o ≡ Some old → Found id old copies
    go None is k = cc
    go (Some c) is k = record { copy = c; at = is; new = same_id c.new id (found_passes (λ (d : Copy). bytes_eq d.new id) copies c is); from = cc }

made_shut : (gone : Id → Bool) (older : History) (copies : List Copy) → AllNew (facts older).known copies → OldKnown (facts older) copies → (id old : Id) → copied_from id (Some copies) ≡ Some old →
    gone_from (narrowed gone copies) older old ≡ true → gone_from (narrowed gone copies) older id ≡ true
made_shut gone older copies new known id old is on =
    let f = found id old copies is in
    let c = f.copy in
    let test : Copy → Bool = λ d. bytes_eq d.new id in
    let on_old : narrowed gone copies c.old ≡ true = subst (λ x. narrowed gone copies x ≡ true) (sym f.from) (gone_less (narrowed gone copies) older old on) in
    let gone_new : gone c.new ≡ true = copy_gone gone copies c test f.at (and_parts _ _ on_old).1 in
    let unlisted : is_listed c.new (facts older).known ≡ false = copy_new (facts older).known copies c test new f.at in
    let still : gone_from (narrowed gone copies) older c.new ≡ true = unchanged (narrowed gone copies) older c.new unlisted ∙ narrowed_other (facts older) gone copies c.new known unlisted ∙ gone_new in
    subst (λ x. gone_from (narrowed gone copies) older x ≡ true) f.new still

entry_shut : (gone : Id → Bool) (older : History) (e : Entry) (o : Option (List Copy)) → copies_in (facts older) e ≡ o → Shut (gone_from (narrowed gone (copies_of o)) older) o
unfolding Shut
entry_shut gone older e None is id old from off = cc
entry_shut gone older e (Some copies) is id old from off =
    false_from_ne_true _ (λ on. both_ways _ off (made_shut gone older copies (copies_new (facts older) (event_in (facts older) e) copies (numbered older) is) (old_known (facts older) copies (all_copied (facts older) (event_in (facts older) e) copies is)) id old from on))

pub all_shut : (gone : Id → Bool) (h : History) → AllShut (gone_from gone h) h
unfolding AllShut
all_shut gone [] = tt
all_shut gone (e ∷ older) = (entry_shut gone older e (copies_in (facts older) e) refl, all_shut (narrowed gone (copies_of (copies_in (facts older) e))) older)
