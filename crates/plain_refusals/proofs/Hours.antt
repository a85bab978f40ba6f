-- The first answer of the quarters of a range, hour by hour, and the first hour of a period that passes
-- a test.
use Rattle.std.proofs.Common.{◌≡◌, ◌∙◌, ℕ, ◌+◌, ◌<◌, ◌≤◌, Bool, true, false, filter, flat_map, Option, Some, None, refl, ap}
use Rattle.std.proofs.lemmas.List.Elements.{filter-append}
use Rattle.std.specs.List.{find}
use Rattle.order_kinds.specs.declared.contract.Quarter.{Quarter}
use Rattle.order_kinds.specs.Period.{block_quarters, hour_quarters, hours_from}
use Rattle.order_kinds.proofs.Hours.{hours-next, hours-none}
use Rattle.market_model.specs.Sweep.{first_answer, or_else}
use Rattle.market_model.specs.declared.asked.Asked.{Asked}
use Rattle.market_model.specs.Asked.{first_in_hour, is_asked}
use Rattle.laws_of_market.proofs.StateRules.{first_answer-append}

-- ---- the first hour that passes

pub passing : (p : ℕ → Bool) (hour last : ℕ) → hour ≤ last → p hour ≡ true → find p (hours_from hour last) ≡ Some hour
passing p hour last order e = rw (hours-next hour last order, e) refl

pub not_passing : (p : ℕ → Bool) (hour last : ℕ) → hour ≤ last → p hour ≡ false → find p (hours_from hour last) ≡ find p (hours_from (hour + 1) last)
not_passing p hour last order e = rw (hours-next hour last order, e) refl

-- ---- the first answer of a range

-- the first answer of those quarters of a range that do not come before an hour
abbrev pub from_hour : {Y : Type 0} → (Quarter → Option Y) → Asked → (hour : ℕ) → Option Y
from_hour ask asked hour = first_answer ask (filter (is_asked asked) (block_quarters hour asked.last.hour))

module _ {Y : Type 0} (ask : Quarter → Option Y) (asked : Asked) (hour : ℕ) where
  -- the quarters of an hour, and those after it
  split : hour ≤ asked.last.hour
      → from_hour ask asked hour ≡ or_else (first_answer ask (filter (is_asked asked) (hour_quarters hour))) (λ _. from_hour ask asked (hour + 1))
  split order =
      ap (λ hours. first_answer ask (filter (is_asked asked) (flat_map hour_quarters hours))) (hours-next hour asked.last.hour order)
      ∙ ap (first_answer ask) (filter-append (is_asked asked) (hour_quarters hour) (block_quarters (hour + 1) asked.last.hour))
      ∙ first_answer-append ask (filter (is_asked asked) (hour_quarters hour)) (filter (is_asked asked) (block_quarters (hour + 1) asked.last.hour))

  pub hour_answers : (answer : Y) → hour ≤ asked.last.hour → first_in_hour ask asked hour ≡ Some answer → from_hour ask asked hour ≡ Some answer
  unfolding first_in_hour
  hour_answers answer order e = split order ∙ ap (λ o. or_else o (λ _. from_hour ask asked (hour + 1))) e

  pub hour_is_silent : hour ≤ asked.last.hour → first_in_hour ask asked hour ≡ None → from_hour ask asked hour ≡ from_hour ask asked (hour + 1)
  unfolding first_in_hour
  hour_is_silent order e = split order ∙ ap (λ o. or_else o (λ _. from_hour ask asked (hour + 1))) e

  pub no_hour_left : asked.last.hour < hour → from_hour ask asked hour ≡ None
  no_hour_left order = ap (λ hours. first_answer ask (filter (is_asked asked) (flat_map hour_quarters hours))) (hours-none hour asked.last.hour order)
