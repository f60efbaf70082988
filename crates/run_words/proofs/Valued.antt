-- Values of words, one after another.
use Rattle.std.proofs.Common.{◌≡◌, ℕ, ℤ, ◌+◌, ◌<◌, List, [], ◌∷◌, ◌++◌, length, take, get_or, Option, sym, ap, ap₂, ◌∙◌}
use Rattle.std.specs.List.{cons_option, filter_map}
use Rattle.std.proofs.lemmas.List.{take_more}
use Rattle.std.proofs.lemmas.List.Elements.{filter_map-append}
use Rattle.run_words.specs.Reading.{value_from}

pub values_more : (words : List (List ℕ)) (place : ℕ) (word : List ℕ) (values more : List ℤ) (o : Option ℤ) → place < length words → get_or words place word ≡ word → o ≡ value_from word →
    values ≡ filter_map value_from (take place words) → more ≡ values ++ cons_option o [] → more ≡ filter_map value_from (take (place + 1) words)
values_more words place word values more o lt is valued before added =
    let one : take (place + 1) words ≡ take place words ++ word ∷ [] = take_more words place word lt ∙ ap (λ x. take place words ++ x ∷ []) is in
    added
    ∙ ap₂ (λ f x. f ++ cons_option x []) before valued
    ∙ sym (ap (filter_map value_from) one ∙ filter_map-append value_from (take place words) (word ∷ []))
