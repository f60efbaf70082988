-- The mark of an engine is the greatest of the beats that it is credited with.
use Rattle.std.proofs.Common.{◌≡◌, ℕ, ◌+◌, ◌<◌, ◌≤◌, List, [], ◌∷◌, ◌++◌, map, Bool, true, false, cond, not, ◌&&◌, ◌||◌, Option, Some, None, refl, sym, ap, ◌∙◌, subst, arith}
use Rattle.std.specs.Prelude.{◌==◌, nat_le, nat_lt, filter}
use Rattle.std.specs.List.{list_any, AllByRecursion as Each}
use Rattle.std.proofs.lemmas.Bool.{or_left, eq-eqb, ltb-true, ltb-false, or_right}
use Rattle.std.proofs.lemmas.Bool.Decides.{nat_tests}
use Rattle.cluster_types.specs.declared.message.Message.{Message}
use Rattle.cluster_types.specs.declared.event.Event.{Event}
use Rattle.cluster_types.specs.declared.event.Event.TheVariants.{Submit, Direct, Reply, Join, Leave, Pong, Purge, Resubmit, Abort, Ask}
use Rattle.cluster_types.specs.declared.entry.Input.TheVariants.{Open, Up, Down, In, Beat, Time}
use Rattle.cluster_types.specs.declared.entry.Entry.{Entry}
use Rattle.cluster_types.specs.declared.entry.Entry.TheVariants.{Input, Hand, Settle, Lose}
use Rattle.cluster_defs.specs.declared.engine.Engine.{Engine}
use Rattle.cluster_defs.specs.Engines.{Engines, is_joined, joining, joined, with_engine, left_engine, without_left, raises, marked, with_mark}
use Rattle.cluster_defs.specs.Facts.{event_in}
use Rattle.cluster_defs.specs.Steps.{engines_in, engine_end}
use Rattle.cluster_defs.specs.Histories.{History, facts}
use Rattle.cluster_defs.specs.Uses.{joins_as}
use Rattle.cluster_laws.specs.Counts.{IsGreatest, is_join, echo_on, credited}
use Rattle.cluster_types.proofs.Numbers.{apart}

-- an engine with its mark, below the next number
record Good (h : History) (next : ℕ) (d : Engine) : Type 0 where
  pub below : d.number < next
  pub mark : IsGreatest d.mark (credited d.number d.conn h)

abbrev AllGood : History → ℕ → List Engine → Type 0
AllGood h next live = Each (Good h next) live

-- AN ENTRY THAT LEAVES AN ENGINE AS IT WAS

same_credit : (older : History) (e : Entry) (number conn : ℕ) → is_join number (facts older) e (event_in (facts older) e) ≡ false → echo_on conn (facts older) e (event_in (facts older) e) ≡ [] →
    credited number conn (e ∷ older) ≡ credited number conn older
same_credit older e number conn no_join silent =
    ap (λ b. cond b ((facts older).beats ∷ []) (echo_on conn (facts older) e (event_in (facts older) e) ++ credited number conn older)) no_join
    ∙ ap (λ (xs : List ℕ). xs ++ credited number conn older) silent

good_stays : (older : History) (e : Entry) (next more : ℕ) (d : Engine) → next ≤ more → is_join d.number (facts older) e (event_in (facts older) e) ≡ false → echo_on d.conn (facts older) e (event_in (facts older) e) ≡ [] →
    Good older next d → Good (e ∷ older) more d
good_stays older e next more d le no_join silent g = record {
  below = let lt = g.below in omega (arith, le, lt);
  mark = subst (IsGreatest d.mark) (sym (same_credit older e d.number d.conn no_join silent)) g.mark;
}

-- an entry that is neither a Join nor an echo
abbrev Quiet : History → Entry → Type 0
Quiet older e = ((number : ℕ) → is_join number (facts older) e (event_in (facts older) e) ≡ false) × ((conn : ℕ) → echo_on conn (facts older) e (event_in (facts older) e) ≡ [])

all_stay : (older : History) (e : Entry) (next : ℕ) (live : List Engine) → Quiet older e → AllGood older next live → AllGood (e ∷ older) next live
all_stay older e next [] quiet good = tt
all_stay older e next (d ∷ live) quiet good = (good_stays older e next next d (omega arith) (quiet.0 d.number) (quiet.1 d.conn) good.0, all_stay older e next live quiet good.1)

some_stay : (h : History) (next : ℕ) (p : Engine → Bool) (live : List Engine) → AllGood h next live → AllGood h next (filter p live)
some_stay h next p [] good = tt
some_stay h next p (d ∷ live) good =
    elim (p d) as (λ b. AllGood h next (cond b (d ∷ filter p live) (filter p live))) [
      | true ↦ (good.0, some_stay h next p live good.1)
      | false ↦ some_stay h next p live good.1
    ]

left_stay : (older : History) (e : Entry) (end : Option ℕ) (engines : Engines) → Quiet older e → AllGood older engines.next engines.live → AllGood (e ∷ older) (without_left end engines).next (without_left end engines).live
left_stay older e None engines quiet good = all_stay older e engines.next engines.live quiet good
left_stay older e (Some n) engines quiet good = some_stay (e ∷ older) engines.next (λ d. not (d.number == n)) engines.live (all_stay older e engines.next engines.live quiet good)

-- A JOIN

one_more : (h : History) (next : ℕ) (live : List Engine) (d : Engine) → AllGood h next live → Good h next d → AllGood h next (live ++ d ∷ [])
one_more h next [] d good g = (g, tt)
one_more h next (x ∷ live) d good g = (good.0, one_more h next live d good.1 g)

-- the entry is a message that means this
abbrev Means : History → ℕ → ℕ → ℕ → Message → Option Event → Type 0
Means older conn moment word m event = event_in (facts older) (Input (In conn moment word m)) ≡ event

join_others : (older : History) (conn moment word : ℕ) (m : Message) (uuid : List ℕ) (next : ℕ) (live : List Engine) → Means older conn moment word m (Some (Join uuid)) →
    joined (facts older).engines conn (Some (Join uuid)) ≡ Some uuid → next ≡ (facts older).engines.next → AllGood older next live → AllGood (Input (In conn moment word m) ∷ older) (next + 1) live
join_others older conn moment word m uuid next [] means is at good = tt
join_others older conn moment word m uuid next (d ∷ live) means is at good = (
  good_stays older (Input (In conn moment word m)) next (next + 1) d (omega arith)
      (ap (λ o. joins_as (facts older).engines.next (joined (facts older).engines conn o) d.number) means ∙ ap (λ o. joins_as (facts older).engines.next o d.number) is
      ∙ ap (λ n. n == d.number) (sym at) ∙ apart d.number next good.0.below)
      (ap (λ o. echo_on d.conn (facts older) (Input (In conn moment word m)) o) means) good.0,
  join_others older conn moment word m uuid next live means is at good.1,
)

join_new : (older : History) (conn moment word : ℕ) (m : Message) (uuid : List ℕ) → Means older conn moment word m (Some (Join uuid)) → joined (facts older).engines conn (Some (Join uuid)) ≡ Some uuid →
    IsGreatest (facts older).beats (credited (facts older).engines.next conn (Input (In conn moment word m) ∷ older))
join_new older conn moment word m uuid means is =
    let next = (facts older).engines.next in
    let on : is_join next (facts older) (Input (In conn moment word m)) (event_in (facts older) (Input (In conn moment word m))) ≡ true =
    ap (λ o. joins_as next (joined (facts older).engines conn o) next) means ∙ ap (λ o. joins_as next o next) is ∙ eq-eqb next next refl in
    subst (IsGreatest (facts older).beats) (sym (ap (λ b. cond b ((facts older).beats ∷ []) (echo_on conn (facts older) (Input (In conn moment word m)) (event_in (facts older) (Input (In conn moment word m))) ++ credited next conn older)) on))
    (record { none_greater = (omega arith, tt); is_one = or_left ((facts older).beats == (facts older).beats) false (eq-eqb (facts older).beats (facts older).beats refl) })

-- AN ECHO

echo_is : (older : History) (conn moment word : ℕ) (m : Message) (beat : ℕ) (d : Engine) (b : Bool) → Means older conn moment word m (Some (Pong beat)) → (d.conn == conn && nat_le beat (facts older).beats) ≡ b →
    credited d.number d.conn (Input (In conn moment word m) ∷ older) ≡ cond b (beat ∷ []) [] ++ credited d.number d.conn older
echo_is older conn moment word m beat d b means is =
    ap (λ o. cond (joins_as (facts older).engines.next (joined (facts older).engines conn o) d.number) ((facts older).beats ∷ []) (echo_on d.conn (facts older) (Input (In conn moment word m)) o ++ credited d.number d.conn older)) means
    ∙ ap (λ c. cond c (beat ∷ []) [] ++ credited d.number d.conn older) is

none_more : (a b : ℕ) (numbers : List ℕ) → a ≤ b → Each (λ m. m ≤ a) numbers → Each (λ m. m ≤ b) numbers
none_more a b [] le all = tt
none_more a b (n ∷ numbers) le all = (let first = all.0 in omega (arith, le, first), none_more a b numbers le all.1)

-- an engine on whose connection a beat that was made is echoed: its mark rises, or is no less already
echo_marks : (older : History) (conn moment word : ℕ) (m : Message) (beat next : ℕ) (d : Engine) → Means older conn moment word m (Some (Pong beat)) → nat_le beat (facts older).beats ≡ true → Good older next d →
    Good (Input (In conn moment word m) ∷ older) next (marked conn beat d)
echo_marks older conn moment word m beat next d means made g = by (d.conn == conn) refl (nat_lt d.mark beat) refl
  where
    e : Entry
    e = Input (In conn moment word m)

    here : (b : Bool) → (d.conn == conn) ≡ b → credited d.number d.conn (Input (In conn moment word m) ∷ older) ≡ cond b (beat ∷ []) [] ++ credited d.number d.conn older
    here b is = echo_is older conn moment word m beat d b means (ap (λ c. c && nat_le beat (facts older).beats) is ∙ ap (λ c. b && c) made ∙ both b)
      where
        both : (b : Bool) → (b && true) ≡ b
        both true = refl
        both false = refl

    kept : IsGreatest d.mark (credited d.number d.conn (Input (In conn moment word m) ∷ older)) → (raises conn beat d) ≡ false → Good (Input (In conn moment word m) ∷ older) next (marked conn beat d)
    kept mark off = subst (Good (e ∷ older) next) (sym (ap (λ b. cond b (record d { mark = beat }) d) off)) (record { below = g.below; mark = mark })

    raised : IsGreatest beat (credited d.number d.conn (Input (In conn moment word m) ∷ older)) → (raises conn beat d) ≡ true → Good (Input (In conn moment word m) ∷ older) next (marked conn beat d)
    raised mark on = subst (Good (e ∷ older) next) (sym (ap (λ b. cond b (record d { mark = beat }) d) on)) (record { below = g.below; mark = mark })

    by : (b : Bool) → (d.conn == conn) ≡ b → (c : Bool) → nat_lt d.mark beat ≡ c → Good (Input (In conn moment word m) ∷ older) next (marked conn beat d)
    by false off c lt = kept (subst (IsGreatest d.mark) (sym (here false off)) g.mark) (ap (λ b. b && nat_lt d.mark beat) off)
    by true on true lt =
        let less = ltb-true d.mark beat lt in
        raised (subst (IsGreatest beat) (sym (here true on)) (record {
          none_greater = (omega arith, none_more d.mark beat (credited d.number d.conn older) (omega (arith, less)) g.mark.none_greater);
          is_one = or_left (beat == beat) (list_any (λ n. n == beat) (credited d.number d.conn older)) (eq-eqb beat beat refl);
        })) (ap (λ b. b && nat_lt d.mark beat) on ∙ lt)
    by true on false lt =
        let more = ltb-false d.mark beat lt in
        kept (subst (IsGreatest d.mark) (sym (here true on)) (record {
          none_greater = (omega (arith, more), g.mark.none_greater);
          is_one = or_right (beat == d.mark) (list_any (λ n. n == d.mark) (credited d.number d.conn older)) g.mark.is_one;
        })) (ap (λ b. b && nat_lt d.mark beat) on ∙ lt)

all_marked : (older : History) (conn moment word : ℕ) (m : Message) (beat next : ℕ) (live : List Engine) → Means older conn moment word m (Some (Pong beat)) → nat_le beat (facts older).beats ≡ true → AllGood older next live →
    AllGood (Input (In conn moment word m) ∷ older) next (map (marked conn beat) live)
all_marked older conn moment word m beat next [] means made good = tt
all_marked older conn moment word m beat next (d ∷ live) means made good =
    (echo_marks older conn moment word m beat next d means made good.0, all_marked older conn moment word m beat next live means made good.1)

none_raised : (conn beat : ℕ) (live : List Engine) → list_any (raises conn beat) live ≡ false → map (marked conn beat) live ≡ live
none_raised conn beat [] none = refl
none_raised conn beat (d ∷ live) none = by (raises conn beat d) refl (none_raised conn beat live) none
  where
    by : (b : Bool) → raises conn beat d ≡ b → (list_any (raises conn beat) live ≡ false → map (marked conn beat) live ≡ live) → (b || list_any (raises conn beat) live) ≡ false → map (marked conn beat) (d ∷ live) ≡ d ∷ live
    by true is rest none = cc
    by false is rest none = ap (λ b. cond b (record d { mark = beat }) d ∷ map (marked conn beat) live) is ∙ ap (λ (ds : List Engine). d ∷ ds) (rest none)

-- an echo of a beat that wasn't made
not_made : (older : History) (conn moment word : ℕ) (m : Message) (beat : ℕ) → Means older conn moment word m (Some (Pong beat)) → nat_le beat (facts older).beats ≡ false → Quiet older (Input (In conn moment word m))
not_made older conn moment word m beat means off = (
  λ number. ap (λ o. joins_as (facts older).engines.next (joined (facts older).engines conn o) number) means,
  λ on. ap (echo_on on (facts older) (Input (In conn moment word m))) means ∙ ap (λ b. cond ((on == conn) && b) (beat ∷ []) []) off ∙ ap (λ b. cond b (beat ∷ []) []) (never (on == conn)),
)
  where
    never : (b : Bool) → (b && false) ≡ false
    never true = refl
    never false = refl

-- A MESSAGE

quiet_in : (older : History) (conn moment word : ℕ) (m : Message) (event : Option Event) → Means older conn moment word m event → ((number : ℕ) → joins_as (facts older).engines.next (joined (facts older).engines conn event) number ≡ false) →
    ((on : ℕ) → echo_on on (facts older) (Input (In conn moment word m)) event ≡ []) → Quiet older (Input (In conn moment word m))
quiet_in older conn moment word m event means joins echoes = (
  λ number. ap (λ o. joins_as (facts older).engines.next (joined (facts older).engines conn o) number) means ∙ joins number,
  λ on. ap (echo_on on (facts older) (Input (In conn moment word m))) means ∙ echoes on,
)

-- the engines behind a message
abbrev Behind : History → ℕ → ℕ → ℕ → Message → Option Event → Type 0
Behind older conn moment word m event = AllGood (Input (In conn moment word m) ∷ older) (engines_in (facts older) conn event).next (engines_in (facts older) conn event).live

unmoved : (older : History) (conn moment word : ℕ) (m : Message) (event : Option Event) → Means older conn moment word m event → ((number : ℕ) → joins_as (facts older).engines.next (joined (facts older).engines conn event) number ≡ false) →
    ((on : ℕ) → echo_on on (facts older) (Input (In conn moment word m)) event ≡ []) → engines_in (facts older) conn event ≡ (facts older).engines → AllGood older (facts older).engines.next (facts older).engines.live → Behind older conn moment word m event
unmoved older conn moment word m event means joins echoes same good =
    subst (λ (es : Engines). AllGood (Input (In conn moment word m) ∷ older) es.next es.live) (sym same)
    (all_stay older (Input (In conn moment word m)) (facts older).engines.next (facts older).engines.live (quiet_in older conn moment word m event means joins echoes) good)

join_behind : (older : History) (conn moment word : ℕ) (m : Message) (uuid : List ℕ) (o : Option (List ℕ)) → Means older conn moment word m (Some (Join uuid)) → joined (facts older).engines conn (Some (Join uuid)) ≡ o →
    AllGood older (facts older).engines.next (facts older).engines.live → AllGood (Input (In conn moment word m) ∷ older) (with_engine conn (facts older).beats o (facts older).engines).next (with_engine conn (facts older).beats o (facts older).engines).live
join_behind older conn moment word m uuid None means is good =
    all_stay older (Input (In conn moment word m)) (facts older).engines.next (facts older).engines.live
    (quiet_in older conn moment word m (Some (Join uuid)) means (λ number. ap (λ o. joins_as (facts older).engines.next o number) is) (λ on. refl)) good
join_behind older conn moment word m uuid (Some named) means is good =
    let next = (facts older).engines.next in
    let same : joined (facts older).engines conn (Some (Join uuid)) ≡ Some uuid = as_named (facts older).engines conn uuid named is in
    one_more (Input (In conn moment word m) ∷ older) (next + 1) (facts older).engines.live (record { number = next; conn = conn; uuid = named; mark = (facts older).beats })
    (join_others older conn moment word m uuid next (facts older).engines.live means same refl good)
    (record { below = omega arith; mark = join_new older conn moment word m uuid means same })
  where
    as_named : (engines : Engines) (conn : ℕ) (uuid named : List ℕ) → joined engines conn (Some (Join uuid)) ≡ Some named → joined engines conn (Some (Join uuid)) ≡ Some uuid
    as_named engines conn uuid named =
        elim (is_joined (joining engines conn uuid)) as (λ b. cond b (Some uuid) None ≡ Some named → cond b (Some uuid) None ≡ Some uuid) [
          | true ↦ λ is. refl
          | false ↦ λ is. cc
        ]

pong_behind : (older : History) (conn moment word : ℕ) (m : Message) (beat : ℕ) → Means older conn moment word m (Some (Pong beat)) → AllGood older (facts older).engines.next (facts older).engines.live → Behind older conn moment word m (Some (Pong beat))
pong_behind older conn moment word m beat means good = by (nat_le beat (facts older).beats) refl
  where
    engines : Engines
    engines = (facts older).engines

    e : Entry
    e = Input (In conn moment word m)

    left : Bool → Engines
    left b = with_mark conn (cond b (Some beat) None) (facts older).engines

    raised : (b : Bool) → list_any (raises conn beat) (facts older).engines.live ≡ b → nat_le beat (facts older).beats ≡ true → AllGood (Input (In conn moment word m) ∷ older) (left b).next (left b).live
    raised true any made = all_marked older conn moment word m beat engines.next engines.live means made good
    raised false any made =
        subst (AllGood (e ∷ older) engines.next) (none_raised conn beat engines.live any) (all_marked older conn moment word m beat engines.next engines.live means made good)

    by : (b : Bool) → nat_le beat (facts older).beats ≡ b → Behind older conn moment word m (Some (Pong beat))
    by true made =
        subst (λ b. AllGood (e ∷ older) (left b).next (left b).live) (sym (ap (λ b. b && list_any (raises conn beat) engines.live) made)) (raised (list_any (raises conn beat) engines.live) refl made)
    by false made =
        subst (λ b. AllGood (e ∷ older) (left b).next (left b).live) (sym (ap (λ b. b && list_any (raises conn beat) engines.live) made)) (all_stay older e engines.next engines.live (not_made older conn moment word m beat means made) good)

in_good : (older : History) (conn moment word : ℕ) (m : Message) (event : Option Event) → Means older conn moment word m event → AllGood older (facts older).engines.next (facts older).engines.live → Behind older conn moment word m event
in_good older conn moment word m None means good = unmoved older conn moment word m None means (λ n. refl) (λ on. refl) refl good
in_good older conn moment word m (Some (Submit s)) means good = unmoved older conn moment word m (Some (Submit s)) means (λ n. refl) (λ on. refl) refl good
in_good older conn moment word m (Some (Direct s)) means good = unmoved older conn moment word m (Some (Direct s)) means (λ n. refl) (λ on. refl) refl good
in_good older conn moment word m (Some (Reply name header ok declined)) means good = unmoved older conn moment word m (Some (Reply name header ok declined)) means (λ n. refl) (λ on. refl) refl good
in_good older conn moment word m (Some (Join uuid)) means good = join_behind older conn moment word m uuid (joined (facts older).engines conn (Some (Join uuid))) means refl good
in_good older conn moment word m (Some Leave) means good =
    left_stay older (Input (In conn moment word m)) (left_engine (facts older).engines.live conn (Some Leave)) (facts older).engines (quiet_in older conn moment word m (Some Leave) means (λ n. refl) (λ on. refl)) good
in_good older conn moment word m (Some (Pong beat)) means good = pong_behind older conn moment word m beat means good
in_good older conn moment word m (Some (Purge all ids)) means good = unmoved older conn moment word m (Some (Purge all ids)) means (λ n. refl) (λ on. refl) refl good
in_good older conn moment word m (Some (Resubmit ids)) means good = unmoved older conn moment word m (Some (Resubmit ids)) means (λ n. refl) (λ on. refl) refl good
in_good older conn moment word m (Some (Abort ids)) means good = unmoved older conn moment word m (Some (Abort ids)) means (λ n. refl) (λ on. refl) refl good
in_good older conn moment word m (Some (Ask query)) means good = unmoved older conn moment word m (Some (Ask query)) means (λ n. refl) (λ on. refl) refl good

-- A LIST

all_good : (history : History) → AllGood history (facts history).engines.next (facts history).engines.live
all_good [] = tt
all_good (Input (Open moment scheme hwm misses) ∷ older) = tt
all_good (Input (Up conn channel moment word identity) ∷ older) = left_stay older (Input (Up conn channel moment word identity)) None (facts older).engines ((λ n. refl), (λ on. refl)) (all_good older)
all_good (Input (Down conn moment word) ∷ older) =
    left_stay older (Input (Down conn moment word)) (engine_end (facts older).engines.live (Input (Down conn moment word)) None) (facts older).engines ((λ n. refl), (λ on. refl)) (all_good older)
all_good (Input (In conn moment word m) ∷ older) = in_good older conn moment word m (event_in (facts older) (Input (In conn moment word m))) refl (all_good older)
all_good (Input (Beat moment word) ∷ older) = left_stay older (Input (Beat moment word)) None (facts older).engines ((λ n. refl), (λ on. refl)) (all_good older)
all_good (Input (Time moment word) ∷ older) = left_stay older (Input (Time moment word)) None (facts older).engines ((λ n. refl), (λ on. refl)) (all_good older)
all_good (Hand id n ∷ older) = left_stay older (Hand id n) None (facts older).engines ((λ n. refl), (λ on. refl)) (all_good older)
all_good (Settle id v c ∷ older) = left_stay older (Settle id v c) None (facts older).engines ((λ n. refl), (λ on. refl)) (all_good older)
all_good (Lose n ∷ older) = left_stay older (Lose n) (Some n) (facts older).engines ((λ n. refl), (λ on. refl)) (all_good older)

marks_of : (history : History) (next : ℕ) (live : List Engine) → AllGood history next live → Each (λ e. IsGreatest e.mark (credited e.number e.conn history)) live
marks_of history next [] good = tt
marks_of history next (d ∷ live) good = (good.0.mark, marks_of history next live good.1)

pub mark_is_greatest : (history : History) → Each (λ e. IsGreatest e.mark (credited e.number e.conn history)) (facts history).engines.live
mark_is_greatest history = marks_of history (facts history).engines.next (facts history).engines.live (all_good history)
