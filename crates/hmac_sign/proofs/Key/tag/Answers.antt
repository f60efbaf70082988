use Rattle.std.proofs.Common.{◌≡◌, ◌++◌, List, ℕ, ap, ◌∙◌, append-nil, subst}
use Rattle.sha2.specs.Sha256.{sha256}
use Rattle.sha2.specs.Hashers.{Holds256}
use Rattle.hex.specs.Hex.{encode_lower}
use Rattle.hmac_sign.specs.Hmac.{hmac, with_pad}
use Rattle.hmac_sign.proofs.Key.tag.Goals as goal

pub returns : goal.returns
unfolding hmac
returns c =
    let key = c.args.self.now in
    let text = c.args.a.now ++ c.args.b.now ++ c.args.c.now ++ c.args.d.now in
    let is : c.self.inside.octets.items ≡ key = c.self.view_is in
    let InnerHolds : List ℕ → Type 0 = λ k. Holds256 c.self.inside.inner (with_pad 0x36 k) in
    let OuterHolds : List ℕ → Type 0 = λ k. Holds256 c.self.inside.outer (with_pad 0x5c k) in
    let inner : c.digest_from-inner.result ≡ sha256 (with_pad 0x36 key ++ text) = c.digest_from-inner.ensures _ (subst InnerHolds is c.self.invariant.0) in
    let outer : c.digest_from-outer.result ≡ hmac key text =
    c.digest_from-outer.ensures _ (subst OuterHolds is c.self.invariant.1) ∙ ap (λ z. sha256 (with_pad 0x5c key ++ z)) (simp append-nil inner) in
    c.hex_of.ensures ∙ ap encode_lower outer
