-- Rooms over several quarters, and what an event leaves of those that it cannot raise.
use Rattle.std.proofs.Common.{◌≡◌, ◌∙◌, ℕ, zero, suc, ◌<◌, ◌&&◌, Bool, true, false, List, [], ◌∷◌, fold, map, min, nat_lt, refl, sym, ap, arith}
use Rattle.std.proofs.lemmas.Bool.{le-ltb, lt-ltb, ltb-false, ltb-true}
use Rattle.std.specs.List.{list_all}
use Rattle.order_kinds.specs.declared.contract.Contract.{Contract}
use Rattle.order_kinds.specs.declared.contract.Part.TheVariants as part
use Rattle.order_kinds.specs.declared.contract.Quarter.{Quarter}
use Rattle.order_kinds.specs.Contract.{contract_at}
use Rattle.order_kinds.specs.Period.{contract_quarters, quarter_of}
use Rattle.zone_graph.specs.declared.route.Arc.{Arc}
use Rattle.market_model.specs.declared.event.Event.{Event}
use Rattle.market_model.specs.declared.setup.Setup.{Setup}
use Rattle.market_model.specs.Board.{BoardState}
use Rattle.market_model.specs.History.{and_then}
use Rattle.market_model.specs.Room.{quarter_room, room}
use Rattle.market_model.specs.WellFormed.{Fits}
use Rattle.laws_of_market.proofs.Uses.{room-le}
use Rattle.laws_of_boards.specs.Quiet.{raises}
use Rattle.laws_of_boards.proofs.Rises.{least-some, rise-alone}
use Rattle.sweep_core.specs.Parts.{has_part}
use Rattle.desk_changes.specs.Openings.{HaveRoom}

-- ---- the least of some numbers

min-some : (a b : ℕ) → nat_lt 0 (min a b) ≡ (nat_lt 0 a && nat_lt 0 b)
min-some a b = go (nat_lt 0 a) (nat_lt 0 b) refl refl
  where
    go : (x y : Bool) → nat_lt 0 a ≡ x → nat_lt 0 b ≡ y → nat_lt 0 (min a b) ≡ (x && y)
    go true true i j = lt-ltb 0 (min a b) (let one = ltb-true 0 a i in let other = ltb-true 0 b j in omega (arith, one, other))
    go true false i j = le-ltb 0 (min a b) (let other = ltb-false 0 b j in omega (arith, other))
    go false y i j = le-ltb 0 (min a b) (let one = ltb-false 0 a i in omega (arith, one))

and-true : (b : Bool) → (b && true) ≡ b
and-true true = refl
and-true false = refl

and-and : (a b c : Bool) → ((a && b) && c) ≡ (a && (b && c))
and-and true b c = refl
and-and false b c = refl

-- it is some where each of them is
pub some-least : (f : Quarter → ℕ) (n : ℕ) (qs : List Quarter) → nat_lt 0 (fold min n (map f qs)) ≡ (nat_lt 0 n && list_all (λ q. nat_lt 0 (f q)) qs)
some-least f n [] = sym (and-true (nat_lt 0 n))
some-least f n (q ∷ qs) =
    some-least f (min n (f q)) qs
    ∙ ap (λ b. b && list_all (λ x. nat_lt 0 (f x)) qs) (min-some n (f q))
    ∙ and-and (nat_lt 0 n) (nat_lt 0 (f q)) (list_all (λ x. nat_lt 0 (f x)) qs)

-- ---- the parts of an hour

-- what holds of each of seven tests
pub seven-tell : (test : ℕ → Bool) (a b c d e f g : Bool) → a ≡ test 0 → b ≡ test 1 → c ≡ test 2 → d ≡ test 3 → e ≡ test 4 → f ≡ test 5 → g ≡ test 6
    → (part : ℕ) → part < 7 → has_part (record { parts = a ∷ b ∷ c ∷ d ∷ e ∷ f ∷ g ∷ [] }) part ≡ test part
seven-tell test a b c d e f g i j k l m n o zero low = i
seven-tell test a b c d e f g i j k l m n o (suc zero) low = j
seven-tell test a b c d e f g i j k l m n o (suc (suc zero)) low = k
seven-tell test a b c d e f g i j k l m n o (suc (suc (suc zero))) low = l
seven-tell test a b c d e f g i j k l m n o (suc (suc (suc (suc zero)))) low = m
seven-tell test a b c d e f g i j k l m n o (suc (suc (suc (suc (suc zero))))) low = n
seven-tell test a b c d e f g i j k l m n o (suc (suc (suc (suc (suc (suc zero)))))) low = o
seven-tell test a b c d e f g i j k l m n o (suc (suc (suc (suc (suc (suc (suc part))))))) low = absurd (let no : ⊥ = omega (arith, low) in no)

two-two : (a b c d : Bool) → ((a && b) && (c && d)) ≡ (a && (b && (c && (d && true))))
two-two a b c d = and-and a b (c && d) ∙ ap (λ x. a && (b && (c && x))) (sym (and-true d))

-- the parts over which an arc has room, by the quarters in which it has some
pub parts-tell : (board : BoardState) (arc : Arc) (one two three four first second all : Bool)
    → one ≡ nat_lt 0 (quarter_room board.events arc (quarter_of board.hour 1)) → two ≡ nat_lt 0 (quarter_room board.events arc (quarter_of board.hour 2))
    → three ≡ nat_lt 0 (quarter_room board.events arc (quarter_of board.hour 3)) → four ≡ nat_lt 0 (quarter_room board.events arc (quarter_of board.hour 4))
    → first ≡ (one && two) → second ≡ (three && four) → all ≡ (first && second)
    → HaveRoom board arc (record { parts = all ∷ one ∷ two ∷ three ∷ four ∷ first ∷ second ∷ [] })
parts-tell board arc one two three four first second all i j k l m n o =
    seven-tell (λ part. nat_lt 0 (room board.events (contract_quarters (contract_at board.hour part)) arc)) all one two three four first second
    (o ∙ ap (λ b. b && second) first_is ∙ ap (λ b. (some 1 && some 2) && b) second_is ∙ two-two (some 1) (some 2) (some 3) (some 4)
    ∙ sym (some-least at (at (quarter_of board.hour 1)) (quarter_of board.hour 2 ∷ quarter_of board.hour 3 ∷ quarter_of board.hour 4 ∷ [])))
    i j k l
    (first_is ∙ ap (λ b. some 1 && b) (sym (and-true (some 2))) ∙ sym (some-least at (at (quarter_of board.hour 1)) (quarter_of board.hour 2 ∷ [])))
    (second_is ∙ ap (λ b. some 3 && b) (sym (and-true (some 4))) ∙ sym (some-least at (at (quarter_of board.hour 3)) (quarter_of board.hour 4 ∷ [])))
  where
    at : Quarter → ℕ
    at = quarter_room board.events arc

    some : ℕ → Bool
    some number = nat_lt 0 (quarter_room board.events arc (quarter_of board.hour number))

    first_is : first ≡ (some 1 && some 2)
    first_is = m ∙ ap (λ b. b && two) i ∙ ap (λ b. some 1 && b) j

    second_is : second ≡ (some 3 && some 4)
    second_is = n ∙ ap (λ b. b && four) k ∙ ap (λ b. some 3 && b) l

-- ---- an arc that an event cannot raise

-- over a contract it had room before if it has any
pub unraised : (setup : Setup) (before : List Event) (e : Event) (contract : Contract) (arc : Arc) → Fits setup before e
    → ((quarter : Quarter) → raises e quarter arc ≡ false)
    → 0 < room (and_then before e) (contract_quarters contract) arc → 0 < room before (contract_quarters contract) arc
unraised setup before e contract arc fits never some =
    least-some (quarter_room before arc) contract.hour contract.part (λ quarter i.
    let most = room-le (and_then before e) (contract_quarters contract) arc quarter i in
    let falls = rise-alone setup before e quarter arc fits (never quarter) in
    omega (arith, some, most, falls))
