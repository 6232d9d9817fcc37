-- The record of 63 challenges: the sampled ones, and four that are derived from them and from the claim.
use Rattle.std.specs.Prelude.{Bool, not, ◌&&◌, List, [], ◌∷◌, ◌++◌, map, ℕ, ◌*◌, eqb, length, Result}
use Rattle.field_base.specs.Words.{all_below}
use Rattle.field.specs.Element.{element_at, words_of, lift}
use Rattle.field.specs.declared.XFieldElement.{XFieldElement}
use Rattle.refusal.specs.Tests.{on_done, is_long, Tests, ◌unless◌, first}
use Rattle.refusal.specs.declared.Refusal.TheVariants.{SliceLength, WordNotBelowP}
use Rattle.air.specs.ChallengeId.{COMPRESS-PROGRAM-DIGEST-INDETERMINATE, STANDARD-INPUT-INDETERMINATE, STANDARD-OUTPUT-INDETERMINATE, LOOKUP-TABLE-PUBLIC-INDETERMINATE, RECORD-WORDS, SAMPLED-WORDS, DIGEST-WORDS}
use Rattle.cross_table_argument.specs.CrossTable.{evaluation_argument}
use Rattle.tip5.specs.LookupTable.{lookup_table}
use Rattle.refusal.specs.declared.Refusal.{Refusal}

-- the challenge at a place of the record
abbrev pub challenge_at : List ℕ → ℕ → XFieldElement
challenge_at words i = element_at words (i * 3)

-- the terminal of a list of words under a sampled challenge
unfoldable pub terminal : List ℕ → ℕ → List ℕ → XFieldElement
terminal sampled id words = evaluation_argument (challenge_at sampled id) (map lift words)

-- elements 59 (input), 60 (output), 61 (byte table) and 62 (digest) behind the sampled ones
unfoldable pub derived_record : List ℕ → List ℕ → List ℕ → List ℕ → List ℕ
unfolding terminal lookup_table
derived_record sampled digest input output =
    sampled
    ++ words_of (terminal sampled STANDARD-INPUT-INDETERMINATE input)
    ++ words_of (terminal sampled STANDARD-OUTPUT-INDETERMINATE output)
    ++ words_of (terminal sampled LOOKUP-TABLE-PUBLIC-INDETERMINATE lookup_table)
    ++ words_of (terminal sampled COMPRESS-PROGRAM-DIGEST-INDETERMINATE digest)

-- "1 unless 177 sampled words, 5 digest words, input and output not long, 189 words to write; 2."
abbrev pub right_lengths : List ℕ → List ℕ → List ℕ → List ℕ → List ℕ → Bool
right_lengths sampled digest input output lent =
    eqb (length sampled) SAMPLED-WORDS && (eqb (length digest) DIGEST-WORDS && (not (is_long (length input)) && (not (is_long (length output)) && eqb (length lent) RECORD-WORDS)))

abbrev pub all_words_below : List ℕ → List ℕ → List ℕ → List ℕ → Bool
all_words_below sampled digest input output = all_below sampled && (all_below digest && (all_below input && all_below output))

abbrev pub challenges_tests : List ℕ → List ℕ → List ℕ → List ℕ → List ℕ → Tests
challenges_tests sampled digest input output lent =
    (SliceLength unless right_lengths sampled digest input output lent) ∷ (WordNotBelowP unless all_words_below sampled digest input output) ∷ []

unfoldable pub challenges_answer : List ℕ → List ℕ → List ℕ → List ℕ → List ℕ → Result (Unit {0}) Refusal
challenges_answer sampled digest input output lent = first (challenges_tests sampled digest input output lent)

-- what the record that was lent holds then
unfoldable pub challenges_record : List ℕ → List ℕ → List ℕ → List ℕ → List ℕ → List ℕ
unfolding challenges_answer derived_record
challenges_record sampled digest input output lent =
    on_done (challenges_answer sampled digest input output lent) (derived_record sampled digest input output) lent
