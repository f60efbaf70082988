-- Where a record stands, and where none does.
use Rattle.std.proofs.Common.{◌≡◌, ℕ, ◌+◌, ◌-◌, ◌≤◌, List, ◌++◌, length, take, drop, Ok, Err, sym, ap, ◌∙◌, append_assoc, arith, length-append, length-drop}
use Rattle.std.proofs.lemmas.List.{take-append-drop, length-take, drop_at, get_or-drop}
use Rattle.cluster_types.specs.declared.entry.Entry.{Entry}
use Rattle.edges.specs.declared.stop.Stop.{Stop}
use Rattle.edges.proofs.Takes.{IsBytes, IsBytes-drop}
use Rattle.record_codec.specs.Spelling.{spelling, RecordStands}
use Rattle.record_codec.specs.Reading.{entry_at}
use Rattle.record_codec.proofs.Again.{entry_again}
use Rattle.record_codec.proofs.Takes.{entry_takes}

pub stands : (octets : List ℕ) (at : ℕ) (e : Entry) (rest : List ℕ) → IsBytes octets → at ≤ length octets → entry_at (drop at octets) ≡ Ok (e, rest) → RecordStands octets at e (length octets - length rest)
stands octets at e rest bytes le read =
    let t = entry_takes (drop at octets) e rest (IsBytes-drop at octets bytes) read in
    let back : drop at octets ≡ spelling e ++ rest = t.1 ∙ ap (λ (z : List ℕ). z ++ rest) t.2.0 in
    let parts : octets ≡ take at octets ++ spelling e ++ rest = sym (take-append-drop at octets) ∙ ap (λ (z : List ℕ). take at octets ++ z) back ∙ sym (append_assoc (take at octets) (spelling e) rest) in
    record {
      front = take at octets;
      rest = rest;
      parts = parts;
      begins = omega (arith, length-take at octets);
      ends = omega (arith, length-drop at octets, ap length back, length-append (spelling e) rest);
      has = t.2.1;
    }

pub rest_fits : (octets : List ℕ) (at : ℕ) (e : Entry) (rest : List ℕ) → IsBytes octets → entry_at (drop at octets) ≡ Ok (e, rest) → length rest ≤ length octets
rest_fits octets at e rest bytes read =
    let t = entry_takes (drop at octets) e rest (IsBytes-drop at octets bytes) read in
    omega (arith, length-drop at octets, ap length t.1, length-append t.0 rest)

pub none_stands : (octets : List ℕ) (at : ℕ) (s : Stop) (e : Entry) (next : ℕ) → entry_at (drop at octets) ≡ Err s → RecordStands octets at e next → ⊥
none_stands octets at s e next read it =
    let back : drop at octets ≡ spelling e ++ it.rest =
    ap (drop at) (it.parts ∙ append_assoc it.front (spelling e) it.rest) ∙ drop_at it.front (spelling e ++ it.rest) at it.begins in
    let one : entry_at (drop at octets) ≡ Ok (e, it.rest) = ap entry_at back ∙ entry_again e it.rest it.has in
    absurd (let both = sym read ∙ one in cc)
