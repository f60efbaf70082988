-- A bound of the marks, after a change of the engines.
use Rattle.std.proofs.Common.{◌≡◌, ap, sym, ◌∙◌, ℕ, ◌≤◌, ◌<◌, ◌-◌, List, [], ◌∷◌, ◌++◌, ◌+◌, length, take, get_or, subst, map, Bool, true, false, cond, ◌&&◌, refl, None, arith}
use Rattle.std.specs.Prelude.{find, nat_lt, nat_le, ◌==◌}
use Rattle.std.proofs.lemmas.Bool.{leb-true, le-leb, ltb-true, false_from_ne_true, and_parts, and_from}
use Rattle.std.proofs.lemmas.List.{take_more}
use Rattle.cluster_defs.specs.declared.engine.Engine.{Engine}
use Rattle.cluster_defs.specs.Engines.{marked, missed}
use Rattle.engine_registry.specs.Indexed.{is_least}

lower : (a b c : ℕ) → a ≤ b → nat_le b c ≡ true → nat_le a c ≡ true
lower a b c lt h = let le : b ≤ c = leb-true b c h in le-leb a c (omega (arith, lt, le))

-- a lower bound is one
pub least_lower : (live : List Engine) (a b : ℕ) → a ≤ b → is_least live b ≡ true → is_least live a ≡ true
least_lower [] a b le h = refl
least_lower (x ∷ xs) a b le h =
    let parts = and_parts (nat_le b x.mark) (is_least xs b) h in
    and_from (nat_le a x.mark) (is_least xs a) (lower a b x.mark le parts.0) (least_lower xs a b le parts.1)

pub least_more : (live : List Engine) (e : Engine) (least : ℕ) → is_least live least ≡ true → least ≤ e.mark → is_least (live ++ e ∷ []) least ≡ true
least_more [] e least h le = and_from (nat_le least e.mark) true (le-leb least e.mark le) refl
least_more (x ∷ xs) e least h le =
    let parts = and_parts (nat_le least x.mark) (is_least xs least) h in
    and_from (nat_le least x.mark) (is_least (xs ++ e ∷ []) least) parts.0 (least_more xs e least parts.1 le)

mark_cases : (b c : Bool) (e : Engine) (beat least : ℕ) → nat_lt e.mark beat ≡ b → nat_le least e.mark ≡ true → nat_le least (cond (c && b) (record e { mark = beat }) e).mark ≡ true
mark_cases true true e beat least lt h =
    let above : e.mark < beat = ltb-true e.mark beat lt in
    let le : least ≤ e.mark = leb-true least e.mark h in
    le-leb least beat (omega (arith, above, le))
mark_cases true false e beat least lt h = h
mark_cases false true e beat least lt h = h
mark_cases false false e beat least lt h = h

pub least_marked : (conn beat : ℕ) (live : List Engine) (least : ℕ) → is_least live least ≡ true → is_least (map (marked conn beat) live) least ≡ true
least_marked conn beat [] least h = refl
least_marked conn beat (x ∷ xs) least h =
    let parts = and_parts (nat_le least x.mark) (is_least xs least) h in
    and_from (nat_le least (marked conn beat x).mark) (is_least (map (marked conn beat) xs) least) (mark_cases (nat_lt x.mark beat) (x.conn == conn) x beat least refl parts.0) (least_marked conn beat xs least parts.1)

-- where the bound is near the beats, no engine missed too many
pub none_missing : (live : List Engine) (misses beats least : ℕ) → is_least live least ≡ true → beats - least ≤ misses → find (λ e. nat_lt misses (missed beats e)) live ≡ None
none_missing [] misses beats least h near = refl
none_missing (x ∷ xs) misses beats least h near =
    let parts = and_parts (nat_le least x.mark) (is_least xs least) h in
    let le : least ≤ x.mark = leb-true least x.mark parts.0 in
    let off : nat_lt misses (beats - x.mark) ≡ false = false_from_ne_true (nat_lt misses (beats - x.mark)) (λ on. let lt : misses < beats - x.mark = ltb-true misses (beats - x.mark) on in omega (arith, le, near, lt)) in
    rw off (none_missing xs misses beats least parts.1 near)

-- the least of the marks up to here, and the next one
pub least_next : (live : List Engine) (i : ℕ) (e : Engine) (least m : ℕ) → i < length live → e ≡ get_or live i e → is_least (take i live) least ≡ true → m ≤ least → m ≤ e.mark → is_least (take (i + 1) live) m ≡ true
least_next live i e least m lt is h below le =
    subst (λ xs. is_least xs m ≡ true) (sym (take_more live i e lt ∙ ap (λ x. take i live ++ x ∷ []) (sym is)))
    (least_more (take i live) e m (least_lower (take i live) m least below h) le)
