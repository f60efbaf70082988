use Rattle.std.proofs.Common.{◌≡◌, ◌≢◌, ◌-◌, ◌++◌, ℕ, List, Bool, true, false, length, take, codes, refl, ap, ◌∙◌}
use Rattle.std.proofs.lemmas.Bool.Decides.{Decides-eqb}
use Rattle.std.proofs.lemmas.Slice.Eq.{ends_is}
use Rattle.std.specs.Str.Pattern.{FindsTextSuffix, StripsSuffix}
use Rattle.cluster_defs.specs.Event.{is_request}
use Rattle.cluster_defs.specs.Texts.{stem_of}
use Rattle.jupyter_header.proofs.kinds.stem_of.Goals as goal

ends : (s front : List ℕ) → s ≡ front ++ codes "_request" → is_request s ≡ true
unfolding is_request
ends s front e = (ends_is Decides-eqb s (codes "_request") (is_request s) refl).1 front e

ends_not : (s : List ℕ) (test : Bool) → is_request s ≡ test → ((front : List ℕ) → s ≢ front ++ codes "_request") → test ≡ false
unfolding is_request
ends_not s true e other = absurd (other _ ((ends_is Decides-eqb s (codes "_request") (is_request s) refl).0 e))
ends_not s false e other = refl

stripped : (s stem : List ℕ) → StripsSuffix (FindsTextSuffix (codes "_request")) s stem → stem ≡ stem_of s
stripped s stem p =
    let yes : is_request s ≡ true = ends s _ p.1.1 in
    let eight : p.0 ≡ 8 = p.1.0 in
    rw yes (p.2 ∙ ap (λ n. take (length s - n) s) eight)

whole : (s : List ℕ) → ((front : List ℕ) → s ≢ front ++ codes "_request") → s ≡ stem_of s
whole s other = rw (ends_not s (is_request s) refl other) refl

pub returns-in-Some : goal.returns-in-Some
returns-in-Some c = stripped c.args.msg_type.now c.in-Some.stem.now c.in-Some.ensures.cases

pub returns-in-None : goal.returns-in-None
returns-in-None c = whole c.args.msg_type.now c.in-None.ensures.cases
