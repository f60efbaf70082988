-- What pieces tell on a link is what all their octets tell.
use Rattle.std.proofs.Common.{◌≡◌, ℕ, List, [], ◌∷◌, Some, false, refl, sym, ap, ◌∙◌}
use Rattle.std.specs.List.{flat_map}
use Rattle.cluster_types.specs.declared.config.Channel.{Channel}
use Rattle.tape_drive.specs.Links.{new_link}
use Rattle.zmtp_peer.specs.PeerStream.{Talk, begins, talked}
use Rattle.zmtp_peer.proofs.Pieces.{talked_append}
use Rattle.tape_drive.specs.Agreement.{heard_all}

heard_on : (conn : ℕ) (channel : Channel) (t : Talk) (pieces : List (List ℕ)) →
    (heard_all pieces (record { conn = conn; channel = channel; talk = Some t })).talk ≡ Some (talked t (flat_map (λ piece. piece) pieces))
heard_on conn channel t [] = refl
heard_on conn channel t (piece ∷ pieces) =
    heard_on conn channel (talked t piece) pieces ∙ ap Some (sym (talked_append t piece (flat_map (λ (piece : List ℕ). piece) pieces)))

pub talk_is_stream : (conn : ℕ) (channel : Channel) (pieces : List (List ℕ)) → (heard_all pieces (new_link conn channel false)).talk ≡ Some (talked begins (flat_map (λ piece. piece) pieces))
talk_is_stream conn channel pieces = heard_on conn channel begins pieces
