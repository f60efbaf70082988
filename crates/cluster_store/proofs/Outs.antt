-- The outs to a connection are those that a life may send to it.
use Rattle.std.proofs.Common.{◌≡◌, ℕ, List, [], ◌∷◌, ◌++◌, map, refl, ap, ◌∙◌}
use Rattle.std.proofs.lemmas.List.{map-append}
use Rattle.cluster_types.specs.declared.entry.Input.TheVariants.{Open, Up, Down, In, Beat, Time}
use Rattle.cluster_types.specs.declared.entry.Entry.{Entry}
use Rattle.cluster_types.specs.declared.entry.Entry.TheVariants.{Input, Hand, Settle, Lose}
use Rattle.cluster_types.specs.declared.out.Out.{Out}
use Rattle.cluster_defs.specs.Histories.{History}
use Rattle.cluster_defs.specs.Lives.{Sending, sendings, sendings_to}
use Rattle.cluster_defs.specs.Outs.{outs, outs_on, outs_to}

abbrev pub firsts : List Sending → List Out
firsts sent = map (λ s. s.1) sent

firsts_of : (h : History) (os : List Out) → firsts (sendings h os) ≡ os
firsts_of h [] = refl
firsts_of h (o ∷ os) = ap (λ (xs : List Out). o ∷ xs) (firsts_of h os)

one_entry : (e : Entry) (older : History) (conn : ℕ) → firsts (sendings_to older conn) ≡ outs_to older conn →
    firsts (sendings_to older conn ++ sendings (e ∷ older) (outs_on conn (outs (e ∷ older)))) ≡ outs_to older conn ++ outs_on conn (outs (e ∷ older))
one_entry e older conn before =
    map-append (λ (s : Sending). s.1) (sendings_to older conn) (sendings (e ∷ older) (outs_on conn (outs (e ∷ older))))
    ∙ ap (λ (xs : List Out). xs ++ firsts (sendings (e ∷ older) (outs_on conn (outs (e ∷ older))))) before
    ∙ ap (λ (xs : List Out). outs_to older conn ++ xs) (firsts_of (e ∷ older) (outs_on conn (outs (e ∷ older))))

pub outs_are : (history : History) (conn : ℕ) → firsts (sendings_to history conn) ≡ outs_to history conn
outs_are [] conn = refl
outs_are (Input (Open moment scheme hwm misses) ∷ older) conn = refl
outs_are (Input (Up c channel moment word identity) ∷ older) conn = one_entry (Input (Up c channel moment word identity)) older conn (outs_are older conn)
outs_are (Input (Down c moment word) ∷ older) conn = one_entry (Input (Down c moment word)) older conn (outs_are older conn)
outs_are (Input (In c moment word m) ∷ older) conn = one_entry (Input (In c moment word m)) older conn (outs_are older conn)
outs_are (Input (Beat moment word) ∷ older) conn = one_entry (Input (Beat moment word)) older conn (outs_are older conn)
outs_are (Input (Time moment word) ∷ older) conn = one_entry (Input (Time moment word)) older conn (outs_are older conn)
outs_are (Hand id n ∷ older) conn = one_entry (Hand id n) older conn (outs_are older conn)
outs_are (Settle id v c ∷ older) conn = one_entry (Settle id v c) older conn (outs_are older conn)
outs_are (Lose n ∷ older) conn = one_entry (Lose n) older conn (outs_are older conn)
