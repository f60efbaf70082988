-- Values to choose from that are looked up in the place of a walk through them.
use Rattle.std.specs.Prelude.{◌≡◌, ℕ, List, Bool, ◌||◌, Option, Some, None, is_some}
use Rattle.std.specs.BTreeMap.{get_by}
use Rattle.std.specs.BTreeSet.{contains}
use Rattle.std.specs.Cmp.Lexicographic.{slice_cmp}
use Rattle.std.specs.List.{list_any}
use Rattle.std.specs.Option.{option_and_then}
use Rattle.std.specs.Ordering.{nat_cmp}
use Rattle.cluster_defs.specs.Filter.{is_same}
use Rattle.cluster_defs.specs.declared.filter.Scalar.{Scalar}
use Rattle.cluster_defs.specs.declared.filter.Scalar.TheVariants.{Null, Text, Number}
use Rattle.cluster_defs.specs.declared.filter.Test.{Test}
use Rattle.cluster_defs.specs.declared.filter.Test.TheVariants.{Is, Meets}
use Rattle.cluster_defs.specs.declared.filter.Tests.{Tests}
use Rattle.db_query.specs.declared.choices.Choices.{Choices}
use Rattle.db_query.specs.declared.choices.Lookups.{Lookups}

-- whether a value is there
abbrev pub has : Choices → Scalar → Bool
has c Null = c.null
has c (Text text) = is_some (get_by (λ k. slice_cmp nat_cmp text k.now) c.texts)
has c (Number number) = contains nat_cmp c.numbers number

-- one value more is there
abbrev pub Gains : Choices → Scalar → Choices → Type 0
Gains old scalar new = (value : Scalar) → has new value ≡ (has old value || is_same scalar value)

-- a value is there where it is one of these
abbrev pub AreLaid : List Scalar → Choices → Type 0
AreLaid scalars c = (value : Scalar) → has c value ≡ list_any (λ choice. is_same choice value) scalars

-- what is laid out of the values to choose from, where there are such
abbrev pub AreChoices : Option (List Scalar) → Option Choices → Type 0
AreChoices None choices = choices ≡ None
AreChoices (Some scalars) None = ⊥
AreChoices (Some scalars) (Some c) = AreLaid scalars c

-- the values to choose from of a test
abbrev pub among_in : Test → Option (List Scalar)
among_in (Is scalar) = None
among_in (Meets conditions) = conditions.among

pub record AreLookups (t : Tests) (l : Lookups) : Type 0 where
  pub msg_id : AreChoices (option_and_then among_in t.msg_id) l.msg_id
  pub number : AreChoices (option_and_then among_in t.number) l.number
  pub kind : AreChoices (option_and_then among_in t.kind) l.kind
  pub engine : AreChoices (option_and_then among_in t.engine) l.engine
  pub state : AreChoices (option_and_then among_in t.state) l.state
  pub cause : AreChoices (option_and_then among_in t.cause) l.cause
