-- Words with single spaces between them: the line has no line feed, and its words are these.
use Rattle.std.proofs.Common.{◌≡◌, ℕ, ◌==◌, ◌&&◌, not, Bool, true, false, List, [], ◌∷◌, length, refl, ap, ◌∙◌, arith, All}
use Rattle.std.specs.List.{list_all}
use Rattle.std.proofs.lemmas.Bool.Decides.{nat_tests}
use Rattle.std.proofs.lemmas.List.Elements.{All-cons, All-append, All-weaker}
use Rattle.std.proofs.lemmas.List.Splits.{slice_split_none, slice_split_at}
use Rattle.std.proofs.lemmas.List.Sums.{AllPass-from_list_all}
use Rattle.std.proofs.lemmas.Bool.{and_parts}
use Rattle.market_text.specs.Text.{words_of, is_passed_over}
use Rattle.laws_of_texts.specs.Lines.{IsLine}
use Rattle.load_maker.specs.Lines.{spaced}
use Rattle.laws_of_texts.proofs.Words.{is_plain_byte, is_plain}

-- what the two tests of a plain byte say
no_space : (byte : ℕ) → is_plain_byte byte ≡ true → (byte == 32) ≡ false
no_space byte plain = by (byte == 32) (byte == 10) plain
  where
    by : (space feed : Bool) → (not space && not feed) ≡ true → space ≡ false
    by true feed is = absurd cc
    by false feed is = refl

no_line_feed : (byte : ℕ) → is_plain_byte byte ≡ true → ¬ (byte ≡ 10)
no_line_feed byte plain = by (byte == 10) refl plain
  where
    by : (feed : Bool) → (byte == 10) ≡ feed → (not (byte == 32) && not feed) ≡ true → ¬ (byte ≡ 10)
    by true is passed = let never : false ≡ true = ending (not (byte == 32)) passed in absurd cc
      where
        ending : (b : Bool) → (b && false) ≡ true → false ≡ true
        ending true p = p
        ending false p = p
    by false is passed = λ ten. grind (arith, nat_tests)

-- of a word
no_spaces : (word : List ℕ) → is_plain word ≡ true → All (λ byte. (byte == 32) ≡ false) word
no_spaces word plain =
    All-weaker (λ byte. is_plain_byte byte ≡ true) (λ byte. (byte == 32) ≡ false) no_space word (AllPass-from_list_all is_plain_byte word plain)

word_is_line : (word : List ℕ) → is_plain word ≡ true → IsLine word
word_is_line word plain =
    All-weaker (λ byte. is_plain_byte byte ≡ true) (λ byte. ¬ (byte ≡ 10)) no_line_feed word (AllPass-from_list_all is_plain_byte word plain)

-- of words
pub words_of_spaced : (word : List ℕ) (words : List (List ℕ)) → list_all is_plain (word ∷ words) ≡ true
    → words_of (spaced (word ∷ words)) ≡ word ∷ words
words_of_spaced word [] plain = slice_split_none (λ byte. byte == 32) word (no_spaces word (and_parts _ _ plain).0)
words_of_spaced word (next ∷ words) plain =
    slice_split_at (λ byte. byte == 32) word 32 (spaced (next ∷ words)) (no_spaces word (and_parts _ _ plain).0) refl
    ∙ ap (λ (parts : List (List ℕ)). word ∷ parts) (words_of_spaced next words (and_parts (is_plain word) _ plain).1)

pub spaced_is_line : (word : List ℕ) (words : List (List ℕ)) → list_all is_plain (word ∷ words) ≡ true
    → IsLine (spaced (word ∷ words))
spaced_is_line word [] plain = word_is_line word (and_parts _ _ plain).0
spaced_is_line word (next ∷ words) plain =
    All-append (λ byte. ¬ (byte ≡ 10)) word (32 ∷ spaced (next ∷ words)) (word_is_line word (and_parts _ _ plain).0)
    (All-cons (λ byte. ¬ (byte ≡ 10)) 32 (spaced (next ∷ words)) (λ ten. omega arith) (spaced_is_line next words (and_parts (is_plain word) _ plain).1))

-- a line that begins with a `t` counts
pub counts : (bytes : List ℕ) → is_passed_over (116 ∷ bytes) ≡ false
counts bytes = let some : (length (116 ∷ bytes) == 0) ≡ false = grind (arith, nat_tests) in rw some refl
