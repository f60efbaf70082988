-- Properties that are written are read again, and those that are read stand written.
use Rattle.std.proofs.Common.{◌≡◌, ℕ, zero, suc, ◌<◌, ◌≤◌, ◌^◌, Bool, true, false, List, [], ◌∷◌, ◌++◌, length, Option, Some, None, Ok, Err, refl, sym, ap, subst, ◌∙◌, append_assoc, arith, ◌||◌}
use Rattle.std.specs.Prelude.{◌==◌, if◌then◌else◌}
use Rattle.std.specs.List.{list_any}
use Rattle.std.specs.Option.{option_and_then, option_map}
use Rattle.std.proofs.lemmas.Bool.Decides.{nat_tests}
use Rattle.std.proofs.lemmas.List.{append-nil, length-append}
use Rattle.std.proofs.lemmas.Option.{none-some}
use Rattle.edges.specs.Reading.{Read, str8_at, blob_at}
use Rattle.edges.specs.Spelling.{str8, blob}
use Rattle.edges.proofs.Again.{str8_again, blob_again}
use Rattle.edges.proofs.Extends.{then_read, give}
use Rattle.edges.proofs.Takes.{IsBytes, Takes, Joined, Str8, Blob, str8_takes, blob_takes, takes_in_turn, takes_give}
use Rattle.zmtp_frames.specs.declared.metadata.Property.{Property}
use Rattle.zmtp_frames.specs.Written.{written_property, written_properties}
use Rattle.zmtp_frames.specs.Command.{property_at, read_off, same_name, with_property, metadata_step, metadata_from, metadata, MayStand}
use Rattle.cluster_types.proofs.Numbers.{not_zero, above_zero}

abbrev named_value : List ℕ → List ℕ → Property
named_value name value = record { name = name; value = value }

abbrev paired : List ℕ → List Property → List Property × List ℕ
paired rest more = (more, rest)

abbrev step_with : List Property → Property × List ℕ → Option (List Property × List ℕ)
step_with before q = option_map (paired q.1) (with_property before q.0)

-- ---- written, and read again

property_again : (p : Property) (rest : List ℕ) → length p.value < 2 ^ 32 → property_at (written_property p.name p.value ++ rest) ≡ Ok (p, rest)
unfolding property_at
property_again p rest lt = rw (append_assoc (str8 p.name) (blob p.value) rest, str8_again p.name (blob p.value ++ rest), blob_again p.value rest lt) refl

one_more : (before : List Property) (p : Property) → 0 < length p.name → list_any (λ q. same_name p.name q.name) before ≡ false → with_property before p ≡ Some (before ++ p ∷ [])
one_more before p some fresh = rw (not_zero (length p.name) some, fresh) refl

step_again : (before : List Property) (p : Property) (rest : List ℕ) → 0 < length p.name → length p.value < 2 ^ 32 → list_any (λ q. same_name p.name q.name) before ≡ false
    → metadata_step before (written_property p.name p.value ++ rest) ≡ Some (before ++ p ∷ [], rest)
step_again before p rest some lt fresh =
    ap (λ (r : Read Property). option_and_then (λ (q : Property × List ℕ). option_map (λ (more : List Property). (more, q.1)) (with_property before q.0)) (read_off r)) (property_again p rest lt)
    ∙ ap (λ (o : Option (List Property)). option_map (λ (more : List Property). (more, rest)) o) (one_more before p some fresh)

again : (n : ℕ) (before list : List Property) → MayStand before list → length list ≤ n → metadata_from n before (written_properties list) ≡ Some (before ++ list)
again n before [] may le = ap Some (sym (append-nil before))
again zero before (p ∷ list) may le = absurd (omega (arith, le))
again (suc n) before (p ∷ list) (some, short, lt, fresh, later) le =
    ap (λ (o : Option (List Property × List ℕ)). option_and_then (λ (s : List Property × List ℕ). metadata_from n s.0 s.1) o) (step_again before p (written_properties list) some lt fresh)
    ∙ again n (before ++ p ∷ []) list later (omega (arith, le)) ∙ ap Some (append_assoc before (p ∷ []) list)

long_enough : (list : List Property) → length list ≤ length (written_properties list)
long_enough [] = omega arith
long_enough (p ∷ list) =
    omega (arith, length-append (written_property p.name p.value) (written_properties list), length-append (str8 p.name) (blob p.value), long_enough list)

pub read_again : (list : List Property) → MayStand [] list → metadata (written_properties list) ≡ Some list
read_again list may = again (length (written_properties list)) [] list may (long_enough list)

-- ---- read, and so written

abbrev Made : List ℕ → List ℕ → Property → List ℕ → Type 0
Made name value p text = (p ≡ named_value name value) × (text ≡ [])

property_takes : Takes property_at (Joined Str8 (λ name. Joined Blob (λ value. Made name value)))
unfolding property_at
property_takes =
    takes_in_turn str8_at (λ name. then_read blob_at (λ value. give (named_value name value))) Str8 (λ name. Joined Blob (λ value. Made name value)) str8_takes
    (λ name. takes_in_turn blob_at (λ value. give (named_value name value)) Blob (λ value. Made name value) blob_takes (λ value. takes_give (named_value name value)))

-- what a property that was read says of the octets
pub record IsFirst (octets : List ℕ) (p : Property) (rest : List ℕ) : Type 0 where
  pub octets-are : octets ≡ written_property p.name p.value ++ rest
  pub name : length p.name < 256
  pub value : length p.value < 2 ^ 32
  pub bytes : IsBytes rest

first_property : (octets : List ℕ) (p : Property) (rest : List ℕ) → IsBytes octets → property_at octets ≡ Ok (p, rest) → IsFirst octets p rest
first_property octets p rest bytes is =
    let t = property_takes octets p rest bytes is in
    let j = t.2 in
    let k = j.5 in
    let same : p ≡ named_value j.0 k.0 = k.5.0 in
    let second : j.2 ≡ blob k.0 = k.3 ∙ ap (λ (z : List ℕ). k.1 ++ z) k.5.1 ∙ append-nil k.1 ∙ k.4.0 in
    let text : t.0 ≡ written_property j.0 k.0 = j.3 ∙ ap (λ (z : List ℕ). z ++ j.2) j.4.0 ∙ ap (λ (z : List ℕ). str8 j.0 ++ z) second in
    subst (λ (q : Property). IsFirst octets q rest) (sym same) (record { octets-are = t.1 ∙ ap (λ (z : List ℕ). z ++ rest) text; name = j.4.1; value = k.4.1; bytes = t.3 })

-- a step that was made
pub record IsStep (before : List Property) (octets : List ℕ) (after : List Property) (rest : List ℕ) : Type 0 where
  pub p : Property
  pub after-is : after ≡ before ++ p ∷ []
  pub first : IsFirst octets p rest
  pub some : 0 < length p.name
  pub fresh : list_any (λ q. same_name p.name q.name) before ≡ false

some_name : (b c : Bool) (o : List Property) (after : List Property) → (if b || c then None else Some o) ≡ Some after → (b ≡ false) × (c ≡ false) × (after ≡ o)
some_name true c o after e = absurd (none-some after e)
some_name false true o after e = absurd (none-some after e)
some_name false false o after e = (refl, refl, grind (arith, e))

made_step : (before : List Property) (octets : List ℕ) (p : Property) (o : Option (List Property)) (after : List Property) (now rest : List ℕ) → IsBytes octets → property_at octets ≡ Ok (p, now) → with_property before p ≡ o
    → option_map (paired now) o ≡ Some (after, rest) → IsStep before octets after rest
made_step before octets p None after now rest bytes is with-is e = absurd (none-some (after, rest) e)
made_step before octets p (Some more) after now rest bytes is with-is e =
    let s = some_name (length p.name == 0) (list_any (λ q. same_name p.name q.name) before) (before ++ p ∷ []) more with-is in
    let same : (more, now) ≡ (after, rest) = grind (arith, e) in
    let after-is : after ≡ more = ap (λ (x : List Property × List ℕ). x.0) (sym same) in
    let rest-is : now ≡ rest = ap (λ (x : List Property × List ℕ). x.1) same in
    record {
      p = p;
      after-is = after-is ∙ s.2;
      first = subst (λ (r : List ℕ). IsFirst octets p r) rest-is (first_property octets p now bytes is);
      some = above_zero (length p.name) s.0;
      fresh = s.1;
    }

step_read : (before : List Property) (octets : List ℕ) (r : Read Property) (after : List Property) (rest : List ℕ) → IsBytes octets → property_at octets ≡ r
    → option_and_then (step_with before) (read_off r) ≡ Some (after, rest) → IsStep before octets after rest
step_read before octets (Ok (p, now)) after rest bytes is e = made_step before octets p (with_property before p) after now rest bytes is refl e
step_read before octets (Err stop) after rest bytes is e = absurd (none-some (after, rest) e)

abbrev Stand : List Property → List ℕ → List Property → Type 0
Stand before octets list = (more : List Property) × (list ≡ before ++ more) × (octets ≡ written_properties more) × MayStand before more

stands_by : (before : List Property) (octets : List ℕ) (list : List Property) (n : ℕ) (o : Option (List Property × List ℕ)) → IsBytes octets → metadata_step before octets ≡ o
    → option_and_then (λ (s : List Property × List ℕ). metadata_from n s.0 s.1) o ≡ Some list
    → ((after : List Property) (rest : List ℕ) → IsBytes rest → metadata_from n after rest ≡ Some list → Stand after rest list) → Stand before octets list
stands_by before octets list n None bytes is e later = absurd (none-some list e)
stands_by before octets list n (Some (after, rest)) bytes is e later =
    let s = step_read before octets (property_at octets) after rest bytes refl is in
    let k = later after rest s.first.bytes e in (
      s.p ∷ k.0,
      k.1 ∙ ap (λ (l : List Property). l ++ k.0) s.after-is ∙ append_assoc before (s.p ∷ []) k.0,
      s.first.octets-are ∙ ap (λ (z : List ℕ). written_property s.p.name s.p.value ++ z) k.2,
      (s.some, s.first.name, s.first.value, s.fresh, subst (λ (l : List Property). MayStand l k.0) s.after-is k.3),
    )

stands : (n : ℕ) (before : List Property) (octets : List ℕ) (list : List Property) → IsBytes octets → metadata_from n before octets ≡ Some list → Stand before octets list
stands n before [] list bytes e =
    let same : before ≡ list = grind (arith, e) in
    ([], sym same ∙ sym (append-nil before), refl, tt)
stands zero before (x ∷ xs) list bytes e = absurd (none-some list e)
stands (suc n) before (x ∷ xs) list bytes e = stands_by before (x ∷ xs) list n (metadata_step before (x ∷ xs)) bytes refl e (λ after rest b f. stands n after rest list b f)

pub read_stands : (octets : List ℕ) (list : List Property) → IsBytes octets → metadata octets ≡ Some list → (octets ≡ written_properties list) × MayStand [] list
read_stands octets list bytes e =
    let s = stands (length octets) [] octets list bytes e in
    subst (λ (l : List Property). (octets ≡ written_properties l) × MayStand [] l) (sym s.1) (s.2, s.3)
