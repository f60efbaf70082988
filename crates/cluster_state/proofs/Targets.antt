-- The engines whose uuid is listed, one more after another.
use Rattle.std.proofs.Common.{◌≡◌, ◌<◌, ◌+◌, ◌==◌, ℕ, suc, List, [], ◌∷◌, ◌++◌, length, take, get_or, map, filter, Bool, true, false, true≢false, cond, if◌then◌else◌, arith, refl, sym, ap, ◌∙◌}
use Rattle.std.proofs.lemmas.List.{take_more}
use Rattle.cluster_defs.specs.declared.engine.Engine.{Engine}
use Rattle.cluster_defs.specs.Words.{is_listed}
use Rattle.cluster_defs.specs.Requests.{targets_of}

-- where no uuid is listed there is none
none_of : (live : List Engine) → targets_of live [] ≡ []
none_of [] = refl
none_of (e ∷ live) = none_of live

pub none_where_empty : (live : List Engine) (uuids : List (List ℕ)) → (length uuids == 0) ≡ true → [] ≡ targets_of live uuids
none_where_empty live [] h = sym (none_of live)
none_where_empty live (uuid ∷ uuids) h =
    let some : (suc (length uuids) == 0) ≡ false = grind arith in
    absurd (true≢false (sym h ∙ some))

one : (b : Bool) (e : Engine) → map (λ x. x.number) (cond b (e ∷ []) []) ≡ (if b then e.number ∷ [] else [])
one true e = refl
one false e = refl

behind : (b : Bool) (x : Engine) (whole front : List Engine) (tail : List ℕ) → map (λ e. e.number) whole ≡ map (λ e. e.number) front ++ tail
    → map (λ e. e.number) (cond b (x ∷ whole) whole) ≡ map (λ e. e.number) (cond b (x ∷ front) front) ++ tail
behind true x whole front tail h = ap (λ ns. x.number ∷ ns) h
behind false x whole front tail h = h

more : (live : List Engine) (uuids : List (List ℕ)) (e : Engine) → targets_of (live ++ e ∷ []) uuids ≡ targets_of live uuids ++ (if is_listed e.uuid uuids then e.number ∷ [] else [])
more [] uuids e = one (is_listed e.uuid uuids) e
more (x ∷ live) uuids e =
    behind (is_listed x.uuid uuids) x (filter (λ y. is_listed y.uuid uuids) (live ++ e ∷ [])) (filter (λ y. is_listed y.uuid uuids) live) (if is_listed e.uuid uuids then e.number ∷ [] else []) (more live uuids e)

pub one_more : (live : List Engine) (uuids : List (List ℕ)) (i : ℕ) (e : Engine) → i < length live → e ≡ get_or live i e
    → targets_of (take (i + 1) live) uuids ≡ targets_of (take i live) uuids ++ (if is_listed e.uuid uuids then e.number ∷ [] else [])
one_more live uuids i e inside is =
    ap (λ es. targets_of es uuids) (take_more live i e inside ∙ ap (λ x. take i live ++ x ∷ []) (sym is)) ∙ more (take i live) uuids e
