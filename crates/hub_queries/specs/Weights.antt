-- What the outcomes of a result reply weigh at least, told by lengths alone.
use Rattle.std.specs.Prelude.{ℕ, ◌+◌, nat_lt, List, [], ◌∷◌, length, map, sum, Bool, ◌||◌}
use Rattle.cluster_types.specs.declared.message.Message.{Message}
use Rattle.cluster_types.specs.Limits.{body_limit, most_buffers}
use Rattle.cluster_defs.specs.Texts.{Settled}
use Rattle.cluster_defs.specs.Queries.{answer_limit}
use Rattle.hub_queries.specs.declared.weights.Measure.{Measure}
use Rattle.hub_queries.specs.declared.weights.Measure.TheVariants.{Text, BufferCount, BufferOctets}

-- the octets that an outcome has in the content, the number of its buffers, and the octets of its buffers
abbrev pub measure : Measure → Message → ℕ
measure Text m = length m.header + length m.metadata + length m.content
measure BufferCount m = length m.buffers
measure BufferOctets m = sum (map length m.buffers)

abbrev pub weight : Measure → List Settled → ℕ
weight by [] = 0
weight by (r ∷ rs) = measure by r.outcome + weight by rs

-- past a limit by the outcomes alone
abbrev pub is_heavy : List Settled → Bool
is_heavy rs = nat_lt body_limit (weight Text rs) || nat_lt answer_limit (weight BufferOctets rs) || nat_lt most_buffers (weight BufferCount rs)
