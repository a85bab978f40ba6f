-- The parser of command lines takes each list of words that asks for something, and finds in it what
-- it asks for.
use Rattle.std.proofs.Common.{◌≡◌, ℕ, zero, suc, ◌+◌, ◌-◌, ◌<◌, Bool, true, false, true≢false, List, [], ◌∷◌, codes, Option, Some, None, is_some, refl, sym, subst, arith}
use Rattle.std.specs.Prelude.{if◌then◌else◌}
use Rattle.std.specs.Option.{option_map}
use Rattle.std.specs.Str.{bytes_eq}
use Rattle.std.proofs.lemmas.Slice.Eq.{bytes_eq-Decides}
use Rattle.clap.specs.Words.{is_simple, subcommand_of, takes}
use Rattle.clap.proofs.OnLiterals.{clap_on_literals}
use Rattle.command_words.specs.Matches.{program, task_matched}
use Rattle.command_words.specs.Words.{count_of, task_of, task_of_word}
use Rattle.command_words.specs.declared.words.Task.{Task}
use Rattle.command_words.specs.declared.words.Task.TheVariants as task
use Rattle.command_words.proofs.Counts.{begins, spelled}

-- the parser takes the words, and finds in them what they ask for
abbrev pub IsParsed : List (List ℕ) → Type 0
IsParsed words = (takes program words ≡ true) × (task_matched (subcommand_of program words) ≡ task_of words)

pub program-simple : is_simple program ≡ true
program-simple = refl

-- ---- one word

-- what holds of the five words holds of each one that asks for something
pub one-word : (P : List ℕ → Type 0) → P (codes "replay") → P (codes "audit") → P (codes "ship") → P (codes "store") → P (codes "recover")
    → (word : List ℕ) → is_some (task_of_word word) ≡ true → P word
one-word P replay audit ship store recover word asked =
    step (codes "replay") task.Replay _ replay (step (codes "audit") task.Audit _ audit (step (codes "ship") task.Ship _ ship (step (codes "store") task.Store _ store
    (step (codes "recover") task.Recover None recover (λ never. absurd (true≢false (sym never))))))) asked
  where
    step : (text : List ℕ) (its : Task) (rest : Option Task) → P text → (is_some rest ≡ true → P word) → is_some (if bytes_eq word text then Some its else rest) ≡ true → P word
    step text its rest here others asked = by (bytes_eq word text) refl asked
      where
        by : (b : Bool) → bytes_eq word text ≡ b → is_some (if b then Some its else rest) ≡ true → P word
        by true same asked = subst P (sym ((bytes_eq-Decides word text).0 same)) here
        by false same asked = others asked

-- ---- `generate` and a number

-- what holds of the bytes of the digits from 1 to 9 holds of each byte between them
each-digit : (P : ℕ → Type 0) → P 49 → P 50 → P 51 → P 52 → P 53 → P 54 → P 55 → P 56 → P 57 → (k : ℕ) → k < 9 → P (49 + k)
each-digit P one two three four five six seven eight nine zero low = one
each-digit P one two three four five six seven eight nine (suc zero) low = two
each-digit P one two three four five six seven eight nine (suc (suc zero)) low = three
each-digit P one two three four five six seven eight nine (suc (suc (suc zero))) low = four
each-digit P one two three four five six seven eight nine (suc (suc (suc (suc zero)))) low = five
each-digit P one two three four five six seven eight nine (suc (suc (suc (suc (suc zero))))) low = six
each-digit P one two three four five six seven eight nine (suc (suc (suc (suc (suc (suc zero)))))) low = seven
each-digit P one two three four five six seven eight nine (suc (suc (suc (suc (suc (suc (suc zero))))))) low = eight
each-digit P one two three four five six seven eight nine (suc (suc (suc (suc (suc (suc (suc (suc zero)))))))) low = nine
each-digit P one two three four five six seven eight nine (suc (suc (suc (suc (suc (suc (suc (suc (suc k))))))))) low = absurd (omega (arith, low))

taken-from : (rest : List ℕ) (k : ℕ) → k < 9 → takes program (codes "generate" ∷ ((49 + k) ∷ rest) ∷ []) ≡ true
unfolding clap_on_literals
taken-from rest = each-digit (λ d. takes program (codes "generate" ∷ (d ∷ rest) ∷ []) ≡ true) refl refl refl refl refl refl refl refl refl

matched-from : (rest : List ℕ) (k : ℕ) → k < 9
    → task_matched (subcommand_of program (codes "generate" ∷ ((49 + k) ∷ rest) ∷ [])) ≡ option_map task.Generate (count_of ((49 + k) ∷ rest))
unfolding clap_on_literals
matched-from rest =
    each-digit (λ d. task_matched (subcommand_of program (codes "generate" ∷ (d ∷ rest) ∷ [])) ≡ option_map task.Generate (count_of (d ∷ rest)))
    refl refl refl refl refl refl refl refl refl

generate-parsed : (count : List ℕ) (n : ℕ) → count_of count ≡ Some n → IsParsed (codes "generate" ∷ count ∷ [])
generate-parsed [] n counted = let low = begins [] n (spelled [] n counted) in absurd (omega (arith, low.0))
generate-parsed (d ∷ rest) n counted =
    let range = begins (d ∷ rest) n (spelled (d ∷ rest) n counted) in
    let digit : 49 + (d - 49) ≡ d = omega (arith, range.0) in
    let low : d - 49 < 9 = omega (arith, range.0, range.1) in
    subst (λ x. IsParsed (codes "generate" ∷ (x ∷ rest) ∷ [])) digit (taken-from rest (d - 49) low, matched-from rest (d - 49) low)

-- ---- all words that ask for something

pub some-count : (o : Option ℕ) → is_some (option_map task.Generate o) ≡ true → (n : ℕ) × (o ≡ Some n)
some-count None asked = absurd (true≢false (sym asked))
some-count (Some n) asked = (n, refl)

pub parses : (words : List (List ℕ)) → is_some (task_of words) ≡ true → IsParsed words
unfolding clap_on_literals
parses [] asked = absurd (true≢false (sym asked))
parses (word ∷ []) asked = one-word (λ w. IsParsed (w ∷ [])) (refl, refl) (refl, refl) (refl, refl) (refl, refl) (refl, refl) word asked
parses (word ∷ count ∷ []) asked = by (bytes_eq word (codes "generate")) refl asked
  where
    by : (b : Bool) → bytes_eq word (codes "generate") ≡ b → is_some (if b then option_map task.Generate (count_of count) else None) ≡ true
        → IsParsed (word ∷ count ∷ [])
    by true same asked =
        let counted = some-count (count_of count) asked in
        subst (λ w. IsParsed (w ∷ count ∷ [])) (sym ((bytes_eq-Decides word (codes "generate")).0 same)) (generate-parsed count counted.0 counted.1)
    by false same asked = absurd (true≢false (sym asked))
parses (word ∷ count ∷ more ∷ words) asked = absurd (true≢false (sym asked))
