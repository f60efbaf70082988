-- Octets that are written piece by piece.
use Rattle.std.proofs.Common.{◌≡◌, ℕ, suc, ◌+◌, ◌<◌, Result, Ok, Err, List, [], ◌∷◌, ◌++◌, length, get_or, take, drop, Option, Some, None, refl, sym, ap, subst, ◌∙◌, append_assoc, arith}
use Rattle.std.specs.Prelude.{OnErr, OnOk}
use Rattle.std.proofs.lemmas.List.{append-nil, take-append-drop}
use Rattle.std.proofs.Math.Seq.{drop-cons}
use Rattle.cluster_types.specs.declared.entry.Entry.{Entry}
use Rattle.edges.specs.Streams.{Added}
use Rattle.record_codec.specs.Spelling.{spelling}
use Rattle.record_codec.specs.Records.{spellings}
use Rattle.std.specs.List.{flat_map}
use Rattle.task_journal.specs.Journal.{head}
use Rattle.database_text.specs.Compact.{open_batch, batches, closing, compacted}
use Rattle.database_text.specs.Sent.{Sent, SentSome}
use Rattle.edges.proofs.Additions.{added_none, added_both}

-- nothing is written yet
pub sent_none : (whole : List ℕ) (w : Option (List ℕ)) → Sent whole w w whole
sent_none whole w = record { front = []; parts = refl; added = added_none w }

pub some_none : (whole : List ℕ) (w : Option (List ℕ)) → SentSome whole w w
some_none whole w = (whole, sent_none whole w)

pub sent_take : (whole : List ℕ) (n : ℕ) (u v : Option (List ℕ)) → Added (take n whole) u v → SentSome whole u v
sent_take whole n u v p = (drop n whole, record { front = take n whole; parts = sym (take-append-drop n whole); added = p })

-- all is written
pub sent_all : (whole : List ℕ) (u v : Option (List ℕ)) → Added whole u v → Sent whole u v []
sent_all whole u v p = record { front = whole; parts = sym (append-nil whole); added = p }

-- of the rest a piece more, and then more behind it
pub sent_more : {whole : List ℕ} {u v : Option (List ℕ)} {rest : List ℕ} → Sent whole u v rest → (piece left more : List ℕ) (w : Option (List ℕ)) → rest ≡ piece ++ more → Sent piece v w left → Sent whole u w (left ++ more)
sent_more {u = u} {v = v} s piece left more w is p =
    record {
      front = s.front ++ p.front;
      parts = s.parts ∙ ap (λ (xs : List ℕ). s.front ++ xs) (is ∙ ap (λ (xs : List ℕ). xs ++ more) p.parts ∙ append_assoc p.front left more) ∙ sym (append_assoc s.front p.front (left ++ more));
      added = added_both s.front p.front u v w s.added p.added;
    }

pub sent_some : {whole : List ℕ} {u v : Option (List ℕ)} {rest : List ℕ} → Sent whole u v rest → (piece more : List ℕ) (w : Option (List ℕ)) → rest ≡ piece ++ more → SentSome piece v w → SentSome whole u w
sent_some s piece more w is p = (p.0 ++ more, sent_more s piece p.0 more w is p.1)

-- the pending octets with the record of the next entry behind them
pub record_off : (list : List Entry) (i : ℕ) (entry : Entry) (pending more : List ℕ) → i < length list → entry ≡ get_or list i entry → more ≡ pending ++ spelling entry
    → pending ++ spellings (drop i list) ≡ more ++ spellings (drop (i + 1) list)
record_off list i entry pending more lt at is =
    let step : suc i ≡ i + 1 = omega arith in
    let next : drop i list ≡ entry ∷ drop (i + 1) list = drop-cons list i entry lt ∙ ap (λ (e : Entry). e ∷ drop (suc i) list) (sym at) ∙ ap (λ (n : ℕ). entry ∷ drop n list) step in
    rw (next, is) (sym (append_assoc pending (spelling entry) (spellings (drop (i + 1) list))))

-- the rest is written
pub sent_done : {whole : List ℕ} {u v : Option (List ℕ)} {rest : List ℕ} → Sent whole u v rest → (w : Option (List ℕ)) → Added rest v w → Added whole u w
sent_done {u = u} {v = v} {rest = rest} s w p = subst (λ (xs : List ℕ). Added xs u w) (sym s.parts) (added_both s.front rest u v w s.added p)

-- a journal is its head and its batches, and what closes it
pub whole_is : (list : List Entry) (begun : List ℕ) → begun ≡ head → compacted list ≡ (begun ++ flat_map open_batch (batches list)) ++ closing list
unfolding compacted
whole_is list begun is = ap (λ (z : List ℕ). (z ++ flat_map open_batch (batches list)) ++ closing list) (sym is)
