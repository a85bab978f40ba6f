-- Words that ask for something are text, and ask for a number of commands in range.
use Rattle.std.proofs.Common.{◌≡◌, ℕ, ◌<◌, Bool, true, false, true≢false, List, [], ◌∷◌, codes, get_or, length, zero, suc, Option, Some, None, is_some, refl, sym, subst, arith}
use Rattle.std.specs.Prelude.{if◌then◌else◌}
use Rattle.std.specs.Option.{option_map}
use Rattle.std.specs.Char.{encode_utf8}
use Rattle.std.specs.Str.{IsUtf8, bytes_eq}
use Rattle.std.proofs.lemmas.Slice.Eq.{bytes_eq-Decides}
use Rattle.command_words.specs.Words.{IsInRange, count_of, task_of}
use Rattle.command_words.specs.declared.words.Task.TheVariants as task
use Rattle.command_words.proofs.Counts.{is-numeral, numeral-is-text, spelled}
use Rattle.command_words.proofs.Programs.{one-word, some-count}

-- each of the words is text
pub asking-is-text : (words : List (List ℕ)) → is_some (task_of words) ≡ true → (i : ℕ) (d : List ℕ) → i < length words → IsUtf8 (get_or words i d)
unfolding encode_utf8
asking-is-text [] asked = absurd (true≢false (sym asked))
asking-is-text (word ∷ []) asked = only
  where
    only : (i : ℕ) (d : List ℕ) → i < 1 → IsUtf8 (get_or (word ∷ []) i d)
    only zero d within =
        one-word IsUtf8 (codes "replay", (refl, refl)) (codes "audit", (refl, refl)) (codes "ship", (refl, refl)) (codes "store", (refl, refl)) (codes "recover", (refl, refl)) word asked
    only (suc i) d within = absurd (omega (arith, within))
asking-is-text (word ∷ count ∷ []) asked = by (bytes_eq word (codes "generate")) refl asked
  where
    by : (b : Bool) → bytes_eq word (codes "generate") ≡ b → is_some (if b then option_map task.Generate (count_of count) else None) ≡ true
        → (i : ℕ) (d : List ℕ) → i < 2 → IsUtf8 (get_or (word ∷ count ∷ []) i d)
    by true same asked zero d within = subst IsUtf8 (sym ((bytes_eq-Decides word (codes "generate")).0 same)) (codes "generate", (refl, refl))
    by true same asked (suc zero) d within =
        let counted = some-count (count_of count) asked in
        numeral-is-text count (is-numeral count counted.0 (spelled count counted.0 counted.1)).0
    by true same asked (suc (suc i)) d within = absurd (omega (arith, within))
    by false same asked i d within = absurd (true≢false (sym asked))
asking-is-text (word ∷ count ∷ more ∷ words) asked = absurd (true≢false (sym asked))

-- a number of commands that is asked for is in range
pub asked_in_range : (words : List (List ℕ)) → IsInRange (task_of words)
asked_in_range [] = tt
asked_in_range (word ∷ []) =
    one (bytes_eq word (codes "replay")) (bytes_eq word (codes "audit")) (bytes_eq word (codes "ship")) (bytes_eq word (codes "store")) (bytes_eq word (codes "recover"))
  where
    one : (a b c d e : Bool) → IsInRange (if a then Some task.Replay else if b then Some task.Audit else if c then Some task.Ship
        else if d then Some task.Store else if e then Some task.Recover else None)
    one true b c d e = tt
    one false true c d e = tt
    one false false true d e = tt
    one false false false true e = tt
    one false false false false true = tt
    one false false false false false = tt
asked_in_range (word ∷ count ∷ []) = two (bytes_eq word (codes "generate"))
  where
    counted : (o : Option ℕ) → count_of count ≡ o → IsInRange (option_map task.Generate o)
    counted None e = tt
    counted (Some n) e = (spelled count n e).1

    two : (b : Bool) → IsInRange (if b then option_map task.Generate (count_of count) else None)
    two true = counted (count_of count) refl
    two false = tt
asked_in_range (word ∷ count ∷ more ∷ words) = tt
