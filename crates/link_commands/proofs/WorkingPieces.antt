-- Messages that are heard one after another, and pieces of a stream.
use Rattle.std.proofs.Common.{◌≡◌, ℕ, List, [], ◌∷◌, ◌++◌, Option, Some, None, refl, sym, ap, subst, ◌∙◌, append_assoc, arith, suc, ◌+◌, ◌<◌, ◌≤◌, length, take, drop, get_or}
use Rattle.std.proofs.lemmas.List.{append-nil, take-append-drop}
use Rattle.std.proofs.Math.Seq.{take-suc}
use Rattle.cluster_types.specs.Limits.{last_moment}
use Rattle.edges.specs.Streams.{Added, AddedFront}
use Rattle.engine_core.specs.Answer.{registration}
use Rattle.engine_core.specs.State.{Standing}
use Rattle.zmtp_frames.specs.Greeting.{own_greeting}
use Rattle.zmtp_peer.specs.PeerStream.{Talk, begins, talked, sent, identity, messages}
use Rattle.zmtp_peer.proofs.Pieces.{sent_append, identity_append}
use Rattle.link_messages.proofs.Fronts.{front_behind, front_of_more, front_whole, front_none}
use Rattle.link_commands.specs.Working.{octets_of, Hears, HearAll, IsJoin, Opens, Writes, WroteAll, WroteSome, WrotePiece, WroteOfPiece}
use Rattle.zmtp_peer.proofs.Order.{quiet_gives, with_identity, without_identity}
use Rattle.edges.proofs.Additions.{added_both}

pub hear_append : (key : List ℕ) (before mid after : Standing) (xs ys : List (List (List ℕ))) (o p : List ℕ) → HearAll key before xs o mid → HearAll key mid ys p after → HearAll key before (xs ++ ys) (o ++ p) after
hear_append key before mid after [] ys o p h k = rw h.0 (subst (λ (s : Standing). HearAll key s ys p after) h.1 k)
hear_append key before mid after (x ∷ xs) ys o p h k =
    (h.0, h.1, h.2 ++ p, h.3, hear_append key h.0 mid after xs ys h.2 p h.4 k, ap (λ (z : List ℕ). z ++ p) h.5 ∙ append_assoc h.1 h.2 p)

pub hear_one : (key : List ℕ) (before mid after : Standing) (xs : List (List (List ℕ))) (x : List (List ℕ)) (o p : List ℕ) → HearAll key before xs o mid → Hears key mid x p after → HearAll key before (xs ++ x ∷ []) (o ++ p) after
hear_one key before mid after xs x o p h k =
    hear_append key before mid after xs (x ∷ []) o p h (after, p, [], k, (refl, refl), sym (append-nil p))

-- PIECES

-- what is written for octets that gave an identity, and then for a piece
identified : (key : List ℕ) (before mid after : Standing) (octets piece i : List ℕ) (written opening answers : List ℕ) (heard : List (List (List ℕ))) →
    Writes key before octets (messages begins octets) written mid → Opens key mid.uuid (identity (talked begins octets) piece) opening → HearAll key mid heard answers after →
    identity begins octets ≡ Some i → Writes key before (octets ++ piece) (messages begins octets ++ heard) (written ++ sent (talked begins octets) piece ++ opening ++ answers) after
identified key before mid after octets piece i written opening answers heard w opens hears is =
    let quiet = quiet_gives (talked begins octets) piece (with_identity octets i is) in
    let none : opening ≡ [] = subst (λ (o : Option (List ℕ)). Opens key mid.uuid o opening) quiet.1 opens in
    let same : identity begins (octets ++ piece) ≡ identity begins octets = identity_append begins octets piece ∙ rw is refl ∙ sym is in
    record {
      opening = w.opening;
      answers = w.answers ++ answers;
      opens = subst (λ (o : Option (List ℕ)). Opens key before.uuid o w.opening) (sym same) w.opens;
      hears = hear_append key before mid after (messages begins octets) heard w.answers answers w.hears hears;
      is = rw (sent_append begins octets piece, quiet.0, none, w.is) (regroup own_greeting (sent begins octets) w.opening w.answers answers);
    }
  where
    regroup : (greeting send opening answers more : List ℕ) → ((greeting ++ send) ++ opening ++ answers) ++ [] ++ [] ++ more ≡ (greeting ++ (send ++ [])) ++ opening ++ (answers ++ more)
    regroup greeting send opening answers more =
        rw (append-nil ((greeting ++ send) ++ opening ++ answers), append-nil ((greeting ++ send) ++ opening ++ answers), append-nil send) (append_assoc ((greeting ++ send) ++ opening) answers more)

-- what is written for octets that gave none
unidentified : (key : List ℕ) (before mid after : Standing) (octets piece : List ℕ) (written opening answers : List ℕ) (heard : List (List (List ℕ))) →
    Writes key before octets (messages begins octets) written mid → Opens key mid.uuid (identity (talked begins octets) piece) opening → HearAll key mid heard answers after →
    identity begins octets ≡ None → Writes key before (octets ++ piece) (messages begins octets ++ heard) (written ++ sent (talked begins octets) piece ++ opening ++ answers) after
unidentified key before mid after octets piece written opening answers heard w opens hears is =
    let silent : messages begins octets ≡ [] = without_identity octets is in
    let none : HearAll key before [] w.answers mid = subst (λ (ms : List (List (List ℕ))). HearAll key before ms w.answers mid) silent w.hears in
    let unopened : w.opening ≡ [] = subst (λ (o : Option (List ℕ)). Opens key before.uuid o w.opening) is w.opens in
    let next : identity begins (octets ++ piece) ≡ identity (talked begins octets) piece = identity_append begins octets piece ∙ rw is refl in
    record {
      opening = opening;
      answers = answers;
      opens = subst (λ (o : Option (List ℕ)). Opens key before.uuid o opening) (sym next) (subst (λ (s : Standing). Opens key s.uuid (identity (talked begins octets) piece) opening) none.1 opens);
      hears = subst (λ (ms : List (List (List ℕ))). HearAll key before (ms ++ heard) answers after) (sym silent) (subst (λ (s : Standing). HearAll key s heard answers after) none.1 hears);
      is = rw (sent_append begins octets piece, w.is, unopened, none.0) (regroup own_greeting (sent begins octets) (sent (talked begins octets) piece) opening answers);
    }
  where
    regroup : (greeting send more opening answers : List ℕ) → ((greeting ++ send) ++ [] ++ []) ++ more ++ opening ++ answers ≡ (greeting ++ (send ++ more)) ++ opening ++ answers
    regroup greeting send more opening answers =
        rw (append-nil (greeting ++ send), append-nil (greeting ++ send)) (ap (λ (z : List ℕ). z ++ opening ++ answers) (append_assoc greeting send more))

-- what is written for octets, and then for a piece
pub with_piece : (key : List ℕ) (before mid after : Standing) (octets piece written opening answers : List ℕ) (heard : List (List (List ℕ))) →
    Writes key before octets (messages begins octets) written mid → Opens key mid.uuid (identity (talked begins octets) piece) opening → HearAll key mid heard answers after →
    Writes key before (octets ++ piece) (messages begins octets ++ heard) (written ++ sent (talked begins octets) piece ++ opening ++ answers) after
with_piece key before mid after octets piece written opening answers heard w opens hears = by_identity (identity begins octets) refl
  where
    by_identity : (o : Option (List ℕ)) → identity begins octets ≡ o → Writes key before (octets ++ piece) (messages begins octets ++ heard) (written ++ sent (talked begins octets) piece ++ opening ++ answers) after
    by_identity (Some i) is = identified key before mid after octets piece i written opening answers heard w opens hears is
    by_identity None is = unidentified key before mid after octets piece written opening answers heard w opens hears is

-- PARTS OF WHAT IS DUE FOR A PIECE

-- there is always an opening
some_opening : (key uuid : List ℕ) (ready : Option (List ℕ)) → (opening : List ℕ) × Opens key uuid ready opening
some_opening key uuid None = ([], refl)
some_opening key uuid (Some i) = (octets_of key (registration uuid 0), (0, omega arith, refl))

-- of the octets of a piece some were written
pub send_of_piece : (key : List ℕ) (before : Standing) (t : Talk) (piece : List ℕ) (x y : Option (List ℕ)) → AddedFront (sent t piece) x y → WroteOfPiece key before t piece x y
send_of_piece key before t piece x y f =
    let o = some_opening key before.uuid (identity t piece) in
    record {
      opening = o.0;
      heard = [];
      unheard = messages t piece;
      answers = [];
      after = before;
      opens = o.1;
      parts = refl;
      hears = (refl, refl);
      added = front_of_more (sent t piece ++ o.0) [] x y (front_of_more (sent t piece) o.0 x y f);
    }

pub opening_of_piece : (key : List ℕ) (before : Standing) (t : Talk) (piece opening : List ℕ) (x y z : Option (List ℕ)) → Added (sent t piece) x y → Opens key before.uuid (identity t piece) opening → AddedFront opening y z → WroteOfPiece key before t piece x z
opening_of_piece key before t piece opening x y z added opens f = record {
  opening = opening;
  heard = [];
  unheard = messages t piece;
  answers = [];
  after = before;
  opens = opens;
  parts = refl;
  hears = (refl, refl);
  added = front_of_more (sent t piece ++ opening) [] x z (front_behind (sent t piece) opening x y z added f);
}

pub answers_of_piece : (key : List ℕ) (before : Standing) (t : Talk) (piece opening : List ℕ) (x y u v : Option (List ℕ)) → Added (sent t piece) x y → Opens key before.uuid (identity t piece) opening → Added opening y u → WroteSome key before (messages t piece) u v → WroteOfPiece key before t piece x v
answers_of_piece key before t piece opening x y u v added opens more some = record {
  opening = opening;
  heard = some.heard;
  unheard = some.unheard;
  answers = some.octets;
  after = some.after;
  opens = opens;
  parts = some.parts;
  hears = some.hears;
  added = front_behind (sent t piece ++ opening) some.octets x u v (added_both (sent t piece) opening x y u added more) some.added;
}

pub piece_is_done : (key : List ℕ) (before after : Standing) (t : Talk) (piece opening answers : List ℕ) (x y u v : Option (List ℕ)) → Added (sent t piece) x y → Opens key before.uuid (identity t piece) opening → Added opening y u → HearAll key before (messages t piece) answers after → Added answers u v → WrotePiece key before t piece x v after
piece_is_done key before after t piece opening answers x y u v added opens more hears last = record {
  opening = opening;
  answers = answers;
  opens = opens;
  hears = hears;
  added = added_both (sent t piece ++ opening) answers x u v (added_both (sent t piece) opening x y u added more) last;
}

-- MESSAGES OF A LIST, ONE MORE

take_more : (xs : List (List (List ℕ))) (i : ℕ) (x : List (List ℕ)) → i < length xs → x ≡ get_or xs i x → take (i + 1) xs ≡ take i xs ++ x ∷ []
take_more xs i x lt at =
    let step : suc i ≡ i + 1 = omega arith in
    subst (λ (n : ℕ). take n xs ≡ take i xs ++ x ∷ []) step (take-suc xs i x lt ∙ ap (λ (y : List (List ℕ)). take i xs ++ y ∷ []) (sym at))

pub some_here : (key : List ℕ) (before after : Standing) (messages : List (List (List ℕ))) (i : ℕ) (x y : Option (List ℕ)) → WroteAll key before (take i messages) x y after → WroteSome key before messages x y
some_here key before after messages i x y w = record {
  heard = take i messages;
  unheard = drop i messages;
  octets = w.0;
  after = after;
  parts = sym (take-append-drop i messages);
  hears = w.1;
  added = front_whole w.0 x y w.2;
}

pub some_next : (key : List ℕ) (before mid after : Standing) (messages : List (List (List ℕ))) (i : ℕ) (frames : List (List ℕ)) (p : List ℕ) (x y z : Option (List ℕ)) →
    i < length messages → frames ≡ get_or messages i frames → WroteAll key before (take i messages) x y mid → Hears key mid frames p after → AddedFront p y z → WroteSome key before messages x z
some_next key before mid after messages i frames p x y z lt at w h f = record {
  heard = take (i + 1) messages;
  unheard = drop (i + 1) messages;
  octets = w.0 ++ p;
  after = after;
  parts = sym (take-append-drop (i + 1) messages);
  hears = subst (λ (ms : List (List (List ℕ))). HearAll key before ms (w.0 ++ p) after) (sym (take_more messages i frames lt at)) (hear_one key before mid after (take i messages) frames w.0 p w.1 h);
  added = front_behind w.0 p x y z w.2 f;
}

pub all_next : (key : List ℕ) (before mid after : Standing) (messages : List (List (List ℕ))) (i : ℕ) (frames : List (List ℕ)) (p : List ℕ) (x y z : Option (List ℕ)) →
    i < length messages → frames ≡ get_or messages i frames → WroteAll key before (take i messages) x y mid → Hears key mid frames p after → Added p y z → WroteAll key before (take (i + 1) messages) x z after
all_next key before mid after messages i frames p x y z lt at w h added = (
  w.0 ++ p,
  subst (λ (ms : List (List (List ℕ))). HearAll key before ms (w.0 ++ p) after) (sym (take_more messages i frames lt at)) (hear_one key before mid after (take i messages) frames w.0 p w.1 h),
  added_both w.0 p x y z w.2 added,
)

pub unjoined : (key uuid : List ℕ) (moment : ℕ) (x : Option (List ℕ)) → moment ≤ last_moment → (octets : List ℕ) × IsJoin key uuid octets × AddedFront octets x x
unjoined key uuid moment x le =
    (octets_of key (registration uuid moment), (moment, le, refl), front_none (octets_of key (registration uuid moment)) x)
