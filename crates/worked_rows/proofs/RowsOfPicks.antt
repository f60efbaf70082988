-- Worked rows on picks, words, dates, numbers and limits, computed. Nothing rests on them.
use Rattle.std.proofs.Common.{◌≡◌, ℕ, List, [], ◌∷◌, Some, refl}
use Rattle.std.specs.Prelude.{codes, replicate}
use Rattle.cluster_types.specs.declared.config.Scheme.TheVariants.{Lru, LeastLoad, PlainRandom, TwoBin}
use Rattle.cluster_types.specs.declared.config.Channel.TheVariants.{Hub, Task}
use Rattle.edges.specs.Date.{date_of, day_text, time_text, digits, civil_date, from_year, from_month}
use Rattle.cluster_defs.specs.declared.answer.Answer.{Answer}
use Rattle.cluster_defs.specs.declared.engine.Joining.TheVariants.{UsedUp, Accepted}
use Rattle.cluster_defs.specs.Words.{once}
use Rattle.cluster_defs.specs.Engines.{joining}
use Rattle.cluster_defs.specs.Queries.{refusal, limited}
use Rattle.cluster_defs.specs.Connections.{highest}
use Rattle.cluster_defs.specs.Scheduling.{pick}
use Rattle.cluster_types.specs.Chance.{next_word}

abbrev loads : List ℕ
loads = 2 ∷ 1 ∷ 1 ∷ []

-- the places over loads 2, 1, 1
pub least_loaded : pick LeastLoad loads 0 ≡ 1
least_loaded = refl

pub least_recent : pick Lru loads 0 ≡ 0
least_recent = refl

pub random : pick PlainRandom loads 7 ≡ 1
random = refl

-- 1 and 2 in the halves of the word
pub two_bins : pick TwoBin loads 8589934593 ≡ 1
two_bins = refl

pub word_after_7 : next_word 7 ≡ 9098160460397411210
unfolding next_word
word_after_7 = refl

pub moment_text : date_of 1700000000000 ≡ codes "2023-11-14T22:13:20.000Z"
unfolding date_of day_text time_text digits civil_date from_year from_month
moment_text = refl

pub each_once : once (codes "a" ∷ codes "b" ∷ codes "a" ∷ codes "c" ∷ codes "b" ∷ []) ≡ codes "a" ∷ codes "b" ∷ codes "c" ∷ []
each_once = refl

pub highest_of : highest (3 ∷ 9 ∷ 4 ∷ []) ≡ Some 9
highest_of = refl

-- no engine is live, and the last number was given
pub numbers_used_up : joining (record { live = []; next = 4294967295 }) 1 (codes "e0") ≡ UsedUp
numbers_used_up = refl

pub number_left : joining (record { live = []; next = 4294967294 }) 1 (codes "e0") ≡ Accepted
number_left = refl

abbrev with_buffers : ℕ → Answer
with_buffers n = record { content = codes "{}"; buffers = replicate n [] }

-- 58 buffers are within the limit
pub buffers_within : limited Hub (with_buffers 58) ≡ with_buffers 58
buffers_within = refl

pub buffers_past : limited Hub (with_buffers 59) ≡ refusal (codes "ReplyTooLong") [] []
buffers_past = refl

pub buffers_elsewhere : limited Task (with_buffers 59) ≡ with_buffers 59
buffers_elsewhere = refl
