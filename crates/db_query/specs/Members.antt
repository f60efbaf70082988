-- The keys of an object as it is written, where a key may stand twice.
use Rattle.std.specs.Prelude.{Bool, true, false, ◌&&◌}
use Rattle.json.specs.Json as json
use Rattle.cluster_defs.specs.FilterWords.{is_word}
use Rattle.cluster_defs.specs.declared.filter.Vocabulary.{Vocabulary}

-- whether the name of each member is one of some words
abbrev pub each_name : Vocabulary → json.Members → Bool
each_name words json.no_members = true
each_name words (json.member key value members) = is_word words key && each_name words members

-- whether a value is an object with such names alone
abbrev pub only_names : Vocabulary → json.Json → Bool
only_names words json.null = false
only_names words (json.boolean b) = false
only_names words (json.number s) = false
only_names words (json.string s) = false
only_names words (json.array js) = false
only_names words (json.object ms) = each_name words ms
