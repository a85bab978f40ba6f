-- A session whose callers take other turns is one: they are as many as there are commands.
use Rattle.std.proofs.Common.{◌≡◌, ◌∙◌, ℕ, zero, suc, ◌+◌, ◌<◌, ◌≤◌, All, Bool, true, false, cond, List, [], ◌∷◌, get_or, length, nat_eq, sum_by, refl, sym, ap, arith, eqb-true}
use Rattle.std.proofs.lemmas.Bool.{eqb-false, ne_eqb}
use Rattle.std.proofs.lemmas.List.Elements.{All-head, All-tail}
use Rattle.std.proofs.lemmas.List.Sums.{sum_by-cons}
use Rattle.market_model.specs.declared.command.Command.{Command}
use Rattle.market_text.specs.declared.session.Session.{Session}
use Rattle.market_text.specs.Commands.{commands_of}
use Rattle.market_text.specs.Session.{IsSession}
use Rattle.session_journal.specs.Turns.{AreTurnsOf, taking_turns}
use Rattle.session_journal.proofs.Turns.{turn_count}

-- one where a test holds
abbrev one_if : Bool → ℕ
one_if b = cond b 1 0

-- how many turns so many callers have, from one on
abbrev turns_from : List ℕ → (first count : ℕ) → ℕ
turns_from turns first zero = 0
turns_from turns first (suc count) = turn_count turns first + turns_from turns (first + 1) count

turns_from-none : (first count : ℕ) → turns_from [] first count ≡ 0
turns_from-none first zero = refl
turns_from-none first (suc count) =
    let none : turn_count [] first ≡ 0 = refl in
    let rest = turns_from-none (first + 1) count in
    omega (arith, none, rest)

first-turn : (turn caller : ℕ) (turns : List ℕ) → turn_count (turn ∷ turns) caller ≡ one_if (nat_eq turn caller) + turn_count turns caller
first-turn turn caller turns = sum_by-cons (λ t. cond (nat_eq t caller) 1 0) turn turns

-- a turn of a caller before these is none of theirs
turns_from-before : (turn : ℕ) (turns : List ℕ) (first count : ℕ) → turn < first → turns_from (turn ∷ turns) first count ≡ turns_from turns first count
turns_from-before turn turns first zero below = refl
turns_from-before turn turns first (suc count) below =
    let here = first-turn turn first turns in
    let none : one_if (nat_eq turn first) ≡ one_if false = ap one_if (ne_eqb turn first (λ same. omega (arith, below, same))) in
    let rest = turns_from-before turn turns (first + 1) count (omega (arith, below)) in
    omega (arith, here, none, rest)

-- a turn of one of them is one more
turns_from-more : (turn : ℕ) (turns : List ℕ) (first count : ℕ) → first ≤ turn → turn < first + count → turns_from (turn ∷ turns) first count ≡ suc (turns_from turns first count)
turns_from-more turn turns first zero least most = absurd (omega (arith, least, most))
turns_from-more turn turns first (suc count) least most =
    by (nat_eq turn first) refl (λ later. turns_from-more turn turns (first + 1) count (omega (arith, later)) (omega (arith, most)))
  where
    here : turn_count (turn ∷ turns) first ≡ one_if (nat_eq turn first) + turn_count turns first
    here = first-turn turn first turns

    by : (b : Bool) → nat_eq turn first ≡ b
        → (first < turn → turns_from (turn ∷ turns) (first + 1) count ≡ suc (turns_from turns (first + 1) count))
        → turns_from (turn ∷ turns) first (suc count) ≡ suc (turns_from turns first (suc count))
    by true e later =
        let same = eqb-true turn first e in
        let one : one_if (nat_eq turn first) ≡ one_if true = ap one_if e in
        let rest = turns_from-before turn turns (first + 1) count (omega (arith, same)) in
        omega (arith, here, one, rest)
    by false e later =
        let apart = eqb-false turn first e in
        let none : one_if (nat_eq turn first) ≡ one_if false = ap one_if e in
        let rest = later (omega (arith, least, apart)) in
        omega (arith, here, none, rest)

-- so all turns of known callers are counted
turns_from-all : (turns : List ℕ) (count : ℕ) → All (λ turn. turn < count) turns → turns_from turns 0 count ≡ length turns
turns_from-all [] count known = turns_from-none 0 count
turns_from-all (turn ∷ turns) count known =
    let below : turn < count = All-head (λ t. t < count) turn turns known in
    turns_from-more turn turns 0 count (omega arith) (omega (arith, below)) ∙ ap suc (turns_from-all turns count (All-tail (λ t. t < count) turn turns known))

lists-from : (lists : List (List Command)) (turns : List ℕ) (first : ℕ) → ((k : ℕ) → k < length lists → length (get_or lists k []) ≡ turn_count turns (first + k))
    → sum_by length lists ≡ turns_from turns first (length lists)
lists-from [] turns first are = refl
lists-from (own ∷ lists) turns first are =
    let here : length own ≡ turn_count turns first = are 0 (omega arith) ∙ ap (turn_count turns) (omega arith) in
    let rest = lists-from lists turns (first + 1) (λ k within. are (suc k) (omega (arith, within)) ∙ ap (turn_count turns) (omega arith)) in
    let sums = sum_by-cons length own lists in
    omega (arith, here, rest, sums)

module _ (session : Session) (is : IsSession session) (turns : List ℕ) (are : AreTurnsOf session turns) where
  pub turns-many : length turns ≡ sum_by length session.commands
  turns-many =
      sym (turns_from-all turns (length session.setup.callers) are.known) ∙ ap (turns_from turns 0) (sym is.matched)
      ∙ sym (lists-from session.commands turns 0 (λ k within. are.counted k within ∙ ap (turn_count turns) (omega arith)))

pub own-turns : (session : Session) → IsSession session → AreTurnsOf session session.turns
own-turns session is = record { known = is.known; counted = is.counted }

-- a session that takes other turns is one
pub taking-turns : (session : Session) → IsSession session → (turns : List ℕ) → AreTurnsOf session turns → IsSession (taking_turns session turns)
taking-turns session is turns are =
    let same : length turns ≡ length session.turns =
    turns-many session is turns are ∙ sym (turns-many session is session.turns (own-turns session is)) in
    let few = is.few in
    record {
      least_hours = is.least_hours;
      most_hours = is.most_hours;
      some_zone = is.some_zone;
      few_zones = is.few_zones;
      few_borders = is.few_borders;
      few_callers = is.few_callers;
      named = is.named;
      matched = is.matched;
      known = are.known;
      counted = are.counted;
      rooms = is.rooms;
      few = omega (arith, same, few);
    }
