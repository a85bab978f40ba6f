-- The hours that a command touches are hours of the day, and ascend.
use Rattle.std.proofs.Common.{◌≡◌, ◌∙◌, inl, inr, ℕ, zero, suc, ◌+◌, ◌-◌, ◌<◌, ◌≤◌, ◌||◌, ◌&&◌, Bool, true, false, if◌then◌else◌, is_none, List, [], ◌∷◌, filter, length, map, nat_eq, nat_le, Option, Some, None, refl, sym, ap, arith, eqb-true, subst}
use Rattle.std.specs.List.{list_all, range_with_len}
use Rattle.std.proofs.lemmas.Bool.{and_parts, eqb-false, leb-true, ne_eqb}
use Rattle.zone_graph.specs.Route.{IsIn, has}
use Rattle.zone_graph.proofs.Membership.{from_range}
use Rattle.order_kinds.specs.declared.order.Order.{Order}
use Rattle.order_kinds.specs.Order.{is_fill_or_kill}
use Rattle.order_kinds.specs.Period.{hours_from, is_within}
use Rattle.market_model.specs.declared.command.Command.{Command}
use Rattle.market_model.specs.declared.command.Command.TheVariants as command
use Rattle.market_model.specs.declared.refusal.Refusal.{Refusal}
use Rattle.market_model.specs.declared.setup.Setup.{Setup}
use Rattle.market_model.specs.Rules.{ascends, basket_is_good, early_refusal, hours_concerned, hours_named, touched_hours}
use Rattle.laws_of_market.proofs.Admitted.{NamesWhatIs, naming-none}
use Rattle.laws_of_market.proofs.HoursAlone.{ascends-later, ascends-rest}
use Rattle.laws_of_market.proofs.Restrict.{filter-same}
use Rattle.laws_of_joint_commands.proofs.SweptHours.{hours-ascend}
use Rattle.hour_desk.proofs.Admitting.{early-none}

-- hours of a day of which the first is one
abbrev pub AreWithin : (first count : ℕ) → List ℕ → Type 0
AreWithin first count hours = (hour : ℕ) → IsIn hour hours → (first ≤ hour) × (hour < first + count)

-- an hour below all of some is none of them
none-has : (hour : ℕ) (hours : List ℕ) → ((other : ℕ) → IsIn other hours → hour < other) → has hour hours ≡ false
none-has hour [] above = refl
none-has hour (next ∷ hours) above =
    ap (λ b. b || has hour hours) (ne_eqb next hour (λ same. let less = above next (inl refl) in absurd (omega (arith, less, same))))
    ∙ none-has hour hours (λ other is. above other (inr is))

all-above : (first hour : ℕ) (hours : List ℕ) → ascends (hour ∷ hours) ≡ true → first < hour → (other : ℕ) → IsIn other (hour ∷ hours) → first < other
all-above first hour hours up less other (inl is) = omega (arith, less, is)
all-above first hour hours up less other (inr is) = let more = ascends-later hour hours up other is in omega (arith, less, more)

filter-none : (first count : ℕ) → filter (λ hour. false) (range_with_len first count) ≡ []
filter-none first zero = refl
filter-none first (suc count) = filter-none (first + 1) count

-- hours that ascend are those of a range that are among them
pub filter-has : (first count : ℕ) (hours : List ℕ) → ascends hours ≡ true → AreWithin first count hours → filter (λ hour. has hour hours) (range_with_len first count) ≡ hours
filter-has first count [] up within = filter-none first count
filter-has first zero (hour ∷ hours) up within = let one = within hour (inl refl) in absurd (omega (arith, one.0, one.1))
filter-has first (suc count) (hour ∷ hours) up within = by (nat_eq hour first) refl (filter-has (first + 1) count)
  where
    behind : List ℕ
    behind = range_with_len (first + 1) count

    one : (first ≤ hour) × (hour < first + suc count)
    one = within hour (inl refl)

    by : (b : Bool) → nat_eq hour first ≡ b
        → ((later : List ℕ) → ascends later ≡ true → AreWithin (first + 1) count later → filter (λ h. has h later) behind ≡ later)
        → filter (λ h. has h (hour ∷ hours)) (range_with_len first (suc count)) ≡ hour ∷ hours
    by true is rest =
        let same : hour ≡ first = eqb-true hour first is in
        let here : has first (hour ∷ hours) ≡ true = ap (λ b. b || has first hours) is in
        let above : (h : ℕ) → IsIn h behind → has h (hour ∷ hours) ≡ has h hours =
        λ h is_in. (let low = (from_range h (first + 1) count is_in).0 in ap (λ b. b || has h hours) (ne_eqb hour h (λ e. absurd (omega (arith, e, low, same))))) in
        let inside : AreWithin (first + 1) count hours =
        λ h is_in. (let more = ascends-later hour hours up h is_in in omega (arith, more, same), let most = (within h (inr is_in)).1 in omega (arith, most)) in
        ap (λ b. if b then first ∷ filter (λ h. has h (hour ∷ hours)) behind else filter (λ h. has h (hour ∷ hours)) behind) here
        ∙ ap (λ l. first ∷ l) (filter-same (λ h. has h (hour ∷ hours)) (λ h. has h hours) behind above ∙ rest hours (ascends-rest hour hours up) inside)
        ∙ ap (λ h. h ∷ hours) (sym same)
    by false is rest =
        let apart = eqb-false hour first is in
        let low = one.0 in
        let above : first < hour = omega (arith, apart, low) in
        let out : has first (hour ∷ hours) ≡ false =
        none-has first (hour ∷ hours) (λ other is_in. all-above first hour hours up above other is_in) in
        let inside : AreWithin (first + 1) count (hour ∷ hours) =
        λ h is_in. (let more = all-above first hour hours up above h is_in in omega (arith, more), let most = (within h is_in).1 in omega (arith, most)) in
        ap (λ b. if b then first ∷ filter (λ h. has h (hour ∷ hours)) behind else filter (λ h. has h (hour ∷ hours)) behind) out
        ∙ rest (hour ∷ hours) up inside

-- ---- the hours that a command concerns, where it breaks no rule by itself

-- all hours between two of a day are hours of the day
between-within : (most first last : ℕ) → list_all (is_within 1 most) (first ∷ last ∷ []) ≡ true → AreWithin 1 most (hours_from first last)
between-within most first last named hour is =
    let both = and_parts (is_within 1 most first) (list_all (is_within 1 most) (last ∷ [])) named in
    let low = leb-true 1 first (and_parts (nat_le 1 first) (nat_le first most) both.0).0 in
    let end = and_parts (is_within 1 most last) true both.1 in
    let high = leb-true last most (and_parts (nat_le 1 last) (nat_le last most) end.0).1 in
    let inside = from_range hour first (last + 1 - first) is in
    (omega (arith, low, inside.0), omega (arith, high, inside.0, inside.1))

-- hours that are named are hours of the day
named-within : (most : ℕ) (hours : List ℕ) → list_all (is_within 1 most) hours ≡ true → AreWithin 1 most hours
named-within most [] named hour is = absurd is
named-within most (next ∷ hours) named hour (inl is) =
    let both = and_parts (is_within 1 most next) (list_all (is_within 1 most) hours) named in
    let inside = and_parts (nat_le 1 next) (nat_le next most) both.0 in
    let low = leb-true 1 next inside.0 in
    let high = leb-true next most inside.1 in
    (omega (arith, low, is), omega (arith, high, is))
named-within most (next ∷ hours) named hour (inr is) =
    named-within most hours (and_parts (is_within 1 most next) (list_all (is_within 1 most) hours) named).1 hour is

concerned-within : (most : ℕ) (given : Command) → list_all (is_within 1 most) (hours_named given) ≡ true → AreWithin 1 most (hours_concerned given)
concerned-within most (command.EnterBlock order) named = between-within most order.first order.last named
concerned-within most (command.Blocks first last) named = between-within most first last named
concerned-within most (command.Offer from to first last lots) named = between-within most first.hour last.hour named
concerned-within most (command.Request from to first last lots) named = between-within most first.hour last.hour named
concerned-within most (command.Halt from to first last) named = between-within most first last named
concerned-within most (command.Resume from to first last) named = between-within most first last named
concerned-within most (command.Enter order) named = named-within most (order.contract.hour ∷ []) named
concerned-within most (command.EnterBasket orders) named = named-within most (map (λ (order : Order). order.contract.hour) orders) named
concerned-within most (command.Cancel name) named = named-within most (name.hour ∷ []) named
concerned-within most (command.Reduce name to) named = named-within most (name.hour ∷ []) named
concerned-within most (command.Gate hour asked) named = named-within most (hour ∷ []) named
concerned-within most (command.View contract side zone) named = named-within most (contract.hour ∷ []) named

concerned-ascend : (given : Command) → basket_is_good given ≡ true → ascends (hours_concerned given) ≡ true
concerned-ascend (command.EnterBlock order) good = hours-ascend order.first order.last
concerned-ascend (command.Blocks first last) good = hours-ascend first last
concerned-ascend (command.Offer from to first last lots) good = hours-ascend first.hour last.hour
concerned-ascend (command.Request from to first last lots) good = hours-ascend first.hour last.hour
concerned-ascend (command.Halt from to first last) good = hours-ascend first last
concerned-ascend (command.Resume from to first last) good = hours-ascend first last
concerned-ascend (command.EnterBasket orders) good =
    let front = and_parts (is_within 2 8 (length orders) && ascends (map (λ (order : Order). order.contract.hour) orders)) (list_all (λ (order : Order). is_fill_or_kill order.kind) orders) good in
    (and_parts (is_within 2 8 (length orders)) (ascends (map (λ (order : Order). order.contract.hour) orders)) front.0).1
concerned-ascend _ good = refl

-- hours of a day, ascending
pub record AreHoursOf (setup : Setup) (hours : List ℕ) : Type 0 where
  pub within : AreWithin 1 setup.hours hours
  pub up : ascends hours ≡ true

module _ (setup : Setup) (caller : ℕ) (given : Command) where
  pub touched-hours : early_refusal setup caller given ≡ None → AreHoursOf setup (touched_hours setup caller given)
  touched-hours early =
      let naming = (early-none setup caller given early).naming in
      let names : NamesWhatIs setup caller given = naming-none setup caller given naming in
      let concerned : touched_hours setup caller given ≡ hours_concerned given = ap (λ (o : Option Refusal). if is_none o then hours_concerned given else []) naming in
      subst (AreHoursOf setup) (sym concerned) (record { within = concerned-within setup.hours given names.hours; up = concerned-ascend given names.basket })
