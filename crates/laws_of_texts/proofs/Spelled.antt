-- Which words a line has, by what they are read as.
use Rattle.std.proofs.Common.{◌≡◌, ℕ, ◌==◌, nat_le, Bool, true, false, cond, List, [], ◌∷◌, length, refl, sym, ap, ◌∙◌, arith, codes, Option, Some, None}
use Rattle.std.specs.Cmp.Lexicographic.{same_text}
use Rattle.std.proofs.lemmas.Bool.Decides.{nat_tests}
use Rattle.market_model.specs.declared.setup.Role.{Role}
use Rattle.market_model.specs.declared.setup.Role.TheVariants as role
use Rattle.order_kinds.specs.declared.side.Side.{Side}
use Rattle.market_spelling.specs.Chain.{◌>>=◌}
use Rattle.market_spelling.specs.Words.{is_word, word_or, value_or, heading_of, side_of, enter_verb_of, block_verb_of, capacity_verb_of, verb_of}
use Rattle.market_spelling.specs.declared.words.Heading.{Heading}
use Rattle.market_spelling.specs.declared.words.Heading.TheVariants as heading
use Rattle.market_spelling.specs.declared.words.Verb.{Verb}
use Rattle.market_spelling.specs.declared.words.Verb.TheVariants as verb
use Rattle.command_lines.specs.CommandLines.{first_word, only_word}
use Rattle.market_text.specs.Steps.{is_clock}
use Rattle.laws_of_texts.specs.Contents.{role_word}

-- a word alone
pub only_is : (words : List (List ℕ)) (word : List ℕ) → only_word words ≡ Some word → words ≡ word ∷ []
unfolding only_word
only_is [] word is = absurd cc
only_is (first ∷ []) word is = let same : first ≡ word = cc in ap (λ (w : List ℕ). w ∷ []) same
only_is (first ∷ next ∷ more) word is =
    let many : (length (first ∷ next ∷ more) == 1) ≡ false = grind (arith, nat_tests) in
    let none = rw many at is in absurd (clash none)
  where
    clash : None ≡ Some word → ⊥
    clash none = cc

-- a word and those after it
pub first_is : (words : List (List ℕ)) (word : List ℕ) (rest : List (List ℕ)) → first_word words ≡ Some (word, rest) → words ≡ word ∷ rest
unfolding first_word
first_is [] word rest is = absurd cc
first_is (first ∷ more) word rest is =
    let some : nat_le 1 (length (first ∷ more)) ≡ true = grind (arith, nat_tests) in
    let parts = rw some at is in same parts
  where
    same : ◌≡◌ {A = Option (List ℕ × List (List ℕ))} (Some (first, more)) (Some (word, rest)) → first ∷ more ≡ word ∷ rest
    same parts =
        let one : List ℕ × List (List ℕ) = (first, more) in
        let other : List ℕ × List (List ℕ) = (word, rest) in
        let pair : one ≡ other = cc in
        ap (λ (p : List ℕ × List (List ℕ)). p.0 ∷ p.1) pair

-- the words of a line, the first of them apart
pub first_found : (word : List ℕ) (rest : List (List ℕ)) → first_word (word ∷ rest) ≡ Some (word, rest)
unfolding first_word
first_found word rest =
    let some : nat_le 1 (length (word ∷ rest)) ≡ true = grind (arith, nat_tests) in
    rw some refl

-- a line's one word
pub only_found : (word : List ℕ) → only_word (word ∷ []) ≡ Some word
unfolding only_word
only_found word = refl

-- how a heading is spelled
abbrev pub heading_word : Heading → List ℕ
heading_word heading.Day = codes "day"
heading_word heading.Zone = codes "zone"
heading_word heading.Border = codes "border"
heading_word heading.Trader = codes "trader"
heading_word heading.Operator = codes "operator"
heading_word heading.Begin = codes "begin"

-- bytes that are a word are spelled so
spelled : (word bytes : List ℕ) → is_word word bytes ≡ true → bytes ≡ word
spelled word bytes is = same_text bytes word (sym is)

-- each heading is spelled in its one way
pub heading_spelled : (bytes : List ℕ) (read : Heading) → heading_of bytes ≡ Some read → bytes ≡ heading_word read
unfolding heading_of
heading_spelled bytes read is =
    by (is_word (codes "day") bytes) (is_word (codes "zone") bytes) (is_word (codes "border") bytes) (is_word (codes "trader") bytes)
    (is_word (codes "operator") bytes) (is_word (codes "begin") bytes) refl refl refl refl refl refl is
  where
    value : (word : List ℕ) (found : Heading) → heading_word found ≡ word → is_word word bytes ≡ true → Some found ≡ Some read → bytes ≡ heading_word read
    value word found spelling test same = let at : found ≡ read = cc in spelled word bytes test ∙ sym spelling ∙ ap heading_word at

    by : (a b c d e f : Bool) → is_word (codes "day") bytes ≡ a → is_word (codes "zone") bytes ≡ b → is_word (codes "border") bytes ≡ c
        → is_word (codes "trader") bytes ≡ d → is_word (codes "operator") bytes ≡ e → is_word (codes "begin") bytes ≡ f
        → cond a (Some heading.Day) (cond b (Some heading.Zone) (cond c (Some heading.Border) (cond d (Some heading.Trader) (cond e (Some heading.Operator) (cond f (Some heading.Begin) None))))) ≡ Some read
        → bytes ≡ heading_word read
    by true b c d e f ta tb tc td te tf h = value (codes "day") heading.Day refl ta h
    by false true c d e f ta tb tc td te tf h = value (codes "zone") heading.Zone refl tb h
    by false false true d e f ta tb tc td te tf h = value (codes "border") heading.Border refl tc h
    by false false false true e f ta tb tc td te tf h = value (codes "trader") heading.Trader refl td h
    by false false false false true f ta tb tc td te tf h = value (codes "operator") heading.Operator refl te h
    by false false false false false true ta tb tc td te tf h = value (codes "begin") heading.Begin refl tf h
    by false false false false false false ta tb tc td te tf h = absurd cc

-- and is read so
pub heading_found : (heading : Heading) → heading_of (heading_word heading) ≡ Some heading
unfolding heading_of
heading_found heading.Day = refl
heading_found heading.Zone = refl
heading_found heading.Border = refl
heading_found heading.Trader = refl
heading_found heading.Operator = refl
heading_found heading.Begin = refl

-- the heading of a caller's line
abbrev pub heading_of_role : Role → Heading
heading_of_role role.Trader = heading.Trader
heading_of_role role.Operator = heading.Operator

-- its spelling
pub role_spelled : (role : Role) → role_word role ≡ heading_word (heading_of_role role)
role_spelled role.Trader = refl
role_spelled role.Operator = refl

-- the verb of a clock line
pub clock_found : (bytes : List ℕ) → is_word (codes "clock") bytes ≡ true → verb_of bytes ≡ Some verb.Clock
unfolding verb_of side_of block_verb_of capacity_verb_of
clock_found bytes is = rw (spelled (codes "clock") bytes is) refl

-- a verb that is not that of a clock line, or none
abbrev pub IsOther : Option Verb → Type 0
IsOther None = Unit {0}
IsOther (Some verb) = is_clock verb ≡ false

-- the first of two
either_other : (one other : Option Verb) → IsOther one → IsOther other → IsOther (value_or one other)
either_other None other first second = second
either_other (Some verb) other first second = first

-- the verb of a word, or another
word_other : (word : List ℕ) (verb : Verb) (bytes : List ℕ) (others : Option Verb) → is_clock verb ≡ false → IsOther others
    → IsOther (word_or word verb bytes others)
word_other word verb bytes others first second = by (is_word word bytes)
  where
    by : (b : Bool) → IsOther (cond b (Some verb) others)
    by true = first
    by false = second

-- the verbs of orders
enter_other : (bytes : List ℕ) → IsOther (enter_verb_of bytes)
enter_other bytes = by (side_of bytes)
  where
    by : (read : Option Side) → IsOther (read >>= λ side. Some (verb.Enter side))
    by None = tt
    by (Some side) = refl

-- another word is another verb
others_read : (bytes : List ℕ) → is_word (codes "clock") bytes ≡ false → IsOther (verb_of bytes)
unfolding verb_of block_verb_of capacity_verb_of
others_read bytes none =
    either_other _ _ (enter_other bytes)
    (either_other _ _
    (word_other _ _ bytes _ refl (word_other _ _ bytes _ refl (word_other _ _ bytes _ refl (word_other _ _ bytes _ refl tt))))
    (either_other _ _
    (word_other _ _ bytes _ refl (word_other _ _ bytes _ refl (word_other _ _ bytes _ refl (word_other _ _ bytes _ refl tt))))
    (word_other _ _ bytes _ refl (word_other _ _ bytes _ refl (word_other _ _ bytes _ refl (word_other _ _ bytes _ refl (last none)))))))
  where
    last : is_word (codes "clock") bytes ≡ false → IsOther (word_or (codes "clock") verb.Clock bytes None)
    last none = rw none tt

-- a verb is that of a clock line where the word is
pub clock_word : (bytes : List ℕ) (read : Verb) → verb_of bytes ≡ Some read → is_clock read ≡ is_word (codes "clock") bytes
clock_word bytes read is = by (is_word (codes "clock") bytes) refl
  where
    by : (b : Bool) → is_word (codes "clock") bytes ≡ b → is_clock read ≡ b
    by true clock = let same : read ≡ verb.Clock = let found = clock_found bytes clock in cc in ap is_clock same
    by false clock = rw is at (others_read bytes clock)
