-- The link at the place of a number.
use Rattle.std.proofs.Common.{◌≡◌, ℕ, suc, ◌+◌, ◌<◌, List, [], ◌∷◌, length, set, get_or, true, false, true≢false, cond, refl, sym, ap, arith, Option, Some, None}
use Rattle.std.specs.Prelude.{◌==◌, option_map}
use Rattle.std.specs.Option.{is_some}
use Rattle.cluster_types.specs.declared.config.Channel.{Channel}
use Rattle.zmtp_peer.specs.declared.phase.PeerFed.{PeerFed}
use Rattle.zmtp_peer.specs.PeerStream.{Talk}
use Rattle.cluster_defs.proofs.Options.{some_inj}
use Rattle.tape_drive.specs.Links.{Link, link_on, heard, heard_on, given, given_on}
use Rattle.tape_drive.specs.Places.{place_from}

-- the link at a place, where the first one has the place `at`
pub record Found (at conn : ℕ) (octets : List ℕ) (links : List Link) (d : Link) (p : ℕ) : Type 0 where
  pub k : ℕ
  pub is : p ≡ at + k
  pub within : k < length links
  pub link : link_on links conn ≡ Some (get_or links k d)
  pub heard_at : (y : Link) → y ≡ heard octets (get_or links k d) → set links k y ≡ heard_on conn octets links

pub none_found : (at conn : ℕ) (octets : List ℕ) (links : List Link) → place_from at conn links ≡ None → (link_on links conn ≡ None) × (heard_on conn octets links ≡ links)
none_found at conn octets [] is = (refl, refl)
none_found at conn octets (l ∷ links) is =
    (elim (l.conn == conn) as (λ b. cond b (Some at) (place_from (at + 1) conn links) ≡ None
    → (cond b (Some l) (link_on links conn) ≡ None) × (cond b (heard octets l ∷ links) (l ∷ heard_on conn octets links) ≡ l ∷ links)) [
      | true ↦ λ e. absurd (true≢false (ap is_some e))
      | false ↦ λ e. let rest = none_found (at + 1) conn octets links e in (rest.0, ap (λ ls. l ∷ ls) rest.1)
    ]) is

pub found : (at conn : ℕ) (octets : List ℕ) (links : List Link) (d : Link) (p : ℕ) → place_from at conn links ≡ Some p → Found at conn octets links d p
found at conn octets [] d p e = absurd (true≢false (ap is_some (sym e)))
found at conn octets (l ∷ links) d p e =
    (elim (l.conn == conn) as (λ b. (l.conn == conn) ≡ b → cond b (Some at) (place_from (at + 1) conn links) ≡ Some p → Found at conn octets (l ∷ links) d p) [
      | true ↦ λ yes q. record {
        k = 0;
        is = let same = some_inj q in omega (arith, same);
        within = omega arith;
        link = rw yes refl;
        heard_at = λ y made. rw (made, yes) refl;
      }
      | false ↦ λ no_match q. let rest = found (at + 1) conn octets links d p q in record {
        k = suc rest.k;
        is = let r = rest.is in omega (arith, r);
        within = let r = rest.within in omega (arith, r);
        link = rw no_match rest.link;
        heard_at = λ y made. rw no_match (ap (λ ls. l ∷ ls) (rest.heard_at y made));
      }
    ]) refl e

-- the same, counted from the first link
pub record FoundAt (conn : ℕ) (octets : List ℕ) (links : List Link) (d : Link) (p : ℕ) : Type 0 where
  pub within : p < length links
  pub link : link_on links conn ≡ Some (get_or links p d)
  pub heard_at : (y : Link) → y ≡ heard octets (get_or links p d) → set links p y ≡ heard_on conn octets links

pub found_at : (conn : ℕ) (octets : List ℕ) (links : List Link) (d : Link) (p : ℕ) → place_from 0 conn links ≡ Some p → FoundAt conn octets links d p
found_at conn octets links d p e =
    let f = found 0 conn octets links d p e in
    let same : p ≡ f.k = let r = f.is in omega (arith, r) in
    rw same (record { within = f.within; link = f.link; heard_at = f.heard_at })

-- what octets on the link at a place give
given_by : (channel : Channel) (octets : List ℕ) (talk : Option Talk)
    → option_map {U = Channel × PeerFed} (λ t. (channel, given t octets)) talk ≡ option_map {U = Channel × PeerFed} (λ f. (channel, f)) (option_map (λ t. given t octets) talk)
given_by channel octets None = refl
given_by channel octets (Some t) = refl

pub given_at : (octets : List ℕ) (link : Option Link) (l : Link) (channel : Channel) (fed : Option PeerFed) → link ≡ Some l → channel ≡ l.channel
    → fed ≡ option_map (λ t. given t octets) l.talk → option_map {U = Channel × PeerFed} (λ f. (channel, f)) fed ≡ given_on octets link
given_at octets link l channel fed is same from = rw (is, same, from) (sym (given_by l.channel octets l.talk))
