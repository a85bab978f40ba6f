-- A journal in which no caller has more entries than its room has no more than all rooms together.
use Rattle.std.proofs.Common.{◌≡◌, ◌≢◌, ◌∙◌, inl, inr, ℕ, zero, suc, ◌+◌, ◌<◌, ◌≤◌, ◌==◌, Bool, true, false, cond, List, [], ◌∷◌, count_by, length, nat_eq, slice_get, sum_by, unwrap_or, eqb-true, eq-eqb, refl, sym, ap, subst, arith}
use Rattle.std.proofs.lemmas.Bool.{true≢false}
use Rattle.std.proofs.lemmas.List.Sums.{sum_by-cons}
use Rattle.std.specs.Option.{option_map}
use Rattle.zone_graph.specs.Route.{IsIn}
use Rattle.market_model.specs.declared.entry.Entry.{Entry}
use Rattle.market_model.specs.declared.setup.Caller.{Caller}
use Rattle.market_model.specs.declared.setup.Setup.{Setup}
use Rattle.trade_journal.specs.Journals.{all_rooms, made_by, room_of_caller}

-- one more entry is one more of its caller, and of no one else
abbrev pub one_if : (entry : Entry) (caller : ℕ) → ℕ
one_if entry caller = cond (nat_eq entry.caller caller) 1 0

pub made_by-more : (entry : Entry) (entries : List Entry) (caller : ℕ) → made_by (entry ∷ entries) caller ≡ one_if entry caller + made_by entries caller
made_by-more entry entries caller = sum_by-cons (λ (e : Entry). cond (nat_eq e.caller caller) 1 0) entry entries

pub one-own : (entry : Entry) (caller : ℕ) → entry.caller ≡ caller → one_if entry caller ≡ 1
one-own entry caller same = rw (eq-eqb entry.caller caller same) refl

pub one-other : (entry : Entry) (caller : ℕ) → entry.caller ≢ caller → one_if entry caller ≡ 0
one-other entry caller apart = go (nat_eq entry.caller caller) refl
  where
    go : (t : Bool) → nat_eq entry.caller caller ≡ t → one_if entry caller ≡ 0
    go true e = absurd (apart (eqb-true entry.caller caller e))
    go false e = rw e refl

-- how many entries there are of the callers from a number on
abbrev made_from : List Entry → List Caller → (first : ℕ) → ℕ
made_from entries [] first = 0
made_from entries (own ∷ callers) first = made_by entries first + made_from entries callers (suc first)

made_from-none : (callers : List Caller) (first : ℕ) → made_from [] callers first ≡ 0
made_from-none [] first = refl
made_from-none (own ∷ callers) first =
    let none : made_by [] first ≡ 0 = refl in
    let rest = made_from-none callers (suc first) in
    omega (arith, none, rest)

-- an entry of a caller before these is none of theirs
made_from-before : (entry : Entry) (entries : List Entry) (callers : List Caller) (first : ℕ) → entry.caller < first
    → made_from (entry ∷ entries) callers first ≡ made_from entries callers first
made_from-before entry entries [] first below = refl
made_from-before entry entries (own ∷ callers) first below =
    let here = made_by-more entry entries first in
    let other = one-other entry first (λ same. omega (arith, below, same)) in
    let rest = made_from-before entry entries callers (suc first) (omega (arith, below)) in
    omega (arith, here, other, rest)

-- an entry of one of them is one more
made_from-more : (entry : Entry) (entries : List Entry) (callers : List Caller) (first : ℕ) → first ≤ entry.caller → entry.caller < first + length callers
    → made_from (entry ∷ entries) callers first ≡ suc (made_from entries callers first)
made_from-more entry entries [] first least most = absurd (omega (arith, least, most))
made_from-more entry entries (own ∷ callers) first least most =
    go (λ later. made_from-more entry entries callers (suc first) (omega (arith, later)) (omega (arith, most))) (nat_eq entry.caller first) refl
  where
    here : made_by (entry ∷ entries) first ≡ one_if entry first + made_by entries first
    here = made_by-more entry entries first

    go : (first < entry.caller → made_from (entry ∷ entries) callers (suc first) ≡ suc (made_from entries callers (suc first)))
        → (t : Bool) → nat_eq entry.caller first ≡ t → made_from (entry ∷ entries) (own ∷ callers) first ≡ suc (made_from entries (own ∷ callers) first)
    go later true e =
        let same = eqb-true entry.caller first e in
        let one = one-own entry first same in
        let rest = made_from-before entry entries callers (suc first) (omega (arith, same)) in
        omega (arith, here, one, rest)
    go later false e =
        let apart : entry.caller ≢ first = λ same. true≢false (sym (eq-eqb entry.caller first same) ∙ e) in
        let none = one-other entry first apart in
        let rest = later (omega (arith, least, apart)) in
        omega (arith, here, none, rest)

-- so all entries of callers of the setup are counted
made_from-all : (entries : List Entry) (callers : List Caller) → ((entry : Entry) → IsIn entry entries → entry.caller < length callers)
    → made_from entries callers 0 ≡ length entries
made_from-all [] callers own = made_from-none callers 0
made_from-all (entry ∷ entries) callers own =
    let its = own entry (inl refl) in
    let more = made_from-more entry entries callers 0 (omega arith) (omega (arith, its)) in
    let rest = made_from-all entries callers (λ other i. own other (inr i)) in
    omega (arith, more, rest)

-- the room of the caller at a place
abbrev room_at : List Caller → (place : ℕ) → ℕ
room_at callers place = unwrap_or (option_map (λ (own : Caller). own.room) (slice_get callers place)) 0

made_from-within : (entries : List Entry) (callers : List Caller) (first : ℕ) → ((place : ℕ) → made_by entries (first + place) ≤ room_at callers place)
    → made_from entries callers first ≤ sum_by (λ (own : Caller). own.room) callers
made_from-within entries [] first within = omega arith
made_from-within entries (own ∷ callers) first within =
    let here : made_by entries first ≤ own.room = subst (λ k. made_by entries k ≤ own.room) (omega arith) (within 0) in
    let rest = made_from-within entries callers (suc first)
    (λ place. subst (λ k. made_by entries k ≤ room_at callers place) (omega arith) (within (suc place))) in
    omega (arith, here, rest, sum_by-cons (λ (each : Caller). each.room) own callers)

pub entries-fit : (setup : Setup) (entries : List Entry) → ((entry : Entry) → IsIn entry entries → entry.caller < length setup.callers)
    → ((caller : ℕ) → made_by entries caller ≤ room_of_caller setup caller) → length entries ≤ all_rooms setup
entries-fit setup entries own within =
    let all = made_from-all entries setup.callers own in
    let least = made_from-within entries setup.callers 0 (λ place. subst (λ k. made_by entries k ≤ room_at setup.callers place) (omega arith) (within place)) in
    omega (arith, all, least)

-- who has room is in the setup
within : (callers : List Caller) (place : ℕ) → 0 < room_at callers place → place < length callers
within [] place some = absurd (omega (arith, some))
within (own ∷ callers) zero some = omega arith
within (own ∷ callers) (suc place) some = let rest = within callers place some in omega (arith, rest)

pub room-there : (setup : Setup) (caller : ℕ) → 0 < room_of_caller setup caller → caller < length setup.callers
room-there setup caller some = within setup.callers caller some
