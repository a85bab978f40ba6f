-- The commands of a generated session: what is drawn for each, and what it makes.
use Rattle.std.specs.Prelude.{ℕ, ◌+◌, ◌/◌, ◌%◌, ◌==◌, List, [], ◌∷◌, ◌++◌, map, pos, nat_lt, slice_get, unwrap_or, if◌then◌else◌}
use Rattle.std.specs.List.{range_with_len}
use Rattle.order_kinds.specs.declared.contract.Part.{Part}
use Rattle.order_kinds.specs.declared.contract.Part.TheVariants as part
use Rattle.order_kinds.specs.declared.order.Kind.{Kind}
use Rattle.order_kinds.specs.declared.order.Kind.TheVariants as kind
use Rattle.order_kinds.specs.declared.price.Lots.{Lots}
use Rattle.order_kinds.specs.declared.side.Side.{Side}
use Rattle.order_kinds.specs.declared.side.Side.TheVariants.{Buy, Sell}
use Rattle.load_maker.specs.declared.commands.Form.{Form}
use Rattle.load_maker.specs.declared.commands.Form.TheVariants as form
use Rattle.load_maker.specs.declared.commands.Terms.{Terms}
use Rattle.load_maker.specs.declared.drawn_lines.Given.{Given}
use Rattle.load_maker.specs.declared.drawn_lines.Given.TheVariants as given
use Rattle.load_maker.specs.Draws.{state_after, draw}

-- the two zones of each border, counted from 0: twelve zones in a ring, and eight borders across it
abbrev pub borders : List (ℕ × ℕ)
borders =
    map (λ zone. (zone, (zone + 1) % 12)) (range_with_len 0 12)
    ++ map (λ zone. (zone, zone + 4)) (range_with_len 0 8)

-- the two zones of the border of this number
abbrev pub border_ends : ℕ → ℕ × ℕ
border_ends border = unwrap_or (slice_get borders border) (0, 0)

-- the arc that is offered at this place: of each border the forward arc, then the backward one
abbrev pub offered_arc : (place : ℕ) → ℕ × ℕ
offered_arc place = directed (border_ends (place / 2))
  where
    directed : ℕ × ℕ → ℕ × ℕ
    directed ends = if place % 2 == 0 then ends else (ends.1, ends.0)

-- the offer of this place: of one arc, for all quarters of the day, of 500 lots and up to 499 more
abbrev pub offer_from : (place state : ℕ) → Given
offer_from place state =
    given.Offer (offered_arc place).0 (offered_arc place).1
    (record { hour = 1; number = 1 }) (record { hour = 24; number = 4 })
    (record { 0 = 500 + draw state 1 500 })

-- the side that is drawn: 0 buys, 1 sells
abbrev pub side_of : ℕ → Side
side_of number = if number == 0 then Buy else Sell

-- what every entry draws, in this order: its trader, hour, zone, side, lots and price
abbrev pub terms_from : (state : ℕ) → Terms
terms_from state = record {
  trader = draw state 1 6 + 1;
  hour = draw state 2 24 + 1;
  zone = draw state 3 12;
  side = side_of (draw state 4 2);
  lots = record { 0 = draw state 5 100 + 1 };
  price = record { 0 = pos (4000 + draw state 6 2001) };
}

-- the ten forms of which one is drawn: five of them are plain limit orders for an hour
abbrev pub forms : List Form
forms =
    form.Hour ∷ form.Hour ∷ form.Hour ∷ form.Hour ∷ form.Hour
    ∷ form.Quarter ∷ form.Ioc ∷ form.Fok ∷ form.Iceberg ∷ form.Block ∷ []

-- the form that is drawn
abbrev pub form_of : ℕ → Form
form_of number = unwrap_or (slice_get forms number) form.Hour

-- an order on these terms
abbrev pub order_on : Terms → Part → Lots → Kind → Given
order_on terms part quantity kind =
    given.Order terms.trader (record {
      contract = record { hour = terms.hour; part = part };
      zone = terms.zone;
      side = terms.side;
      price = terms.price;
      quantity = quantity;
      kind = kind;
    })

-- an iceberg on these terms, of ten lots more: it shows ten lots at a time, and moves by five cents
abbrev pub iceberg_on : Terms → Given
iceberg_on terms =
    order_on terms part.Hour (record { 0 = terms.lots.0 + 10 }) (kind.Iceberg (record { 0 = 10 }) 5)

-- the first hour of a block: the hour that was drawn, but 23 for the last hour of the day
abbrev pub first_hour : ℕ → ℕ
first_hour hour = if hour == 24 then 23 else hour

-- a block of fifty lots on these terms, of two hours
abbrev pub block_on : Terms → Given
block_on terms =
    given.Block terms.trader (record {
      first = first_hour terms.hour;
      last = first_hour terms.hour + 1;
      zone = terms.zone;
      side = terms.side;
      price = terms.price;
      quantity = record { 0 = 50 };
    })

-- an entry of this form on these terms; a quarter is drawn for the form that wants it
abbrev pub entry_of : Form → Terms → (quarter : ℕ) → Given
entry_of form.Hour terms quarter = order_on terms part.Hour terms.lots kind.Limit
entry_of form.Quarter terms quarter = order_on terms (part.Quarter quarter) terms.lots kind.Limit
entry_of form.Ioc terms quarter = order_on terms part.Hour terms.lots kind.Ioc
entry_of form.Fok terms quarter = order_on terms part.Hour terms.lots kind.Fok
entry_of form.Iceberg terms quarter = iceberg_on terms
entry_of form.Block terms quarter = block_on terms

-- the entry that is drawn: six draws for its terms, the seventh for its form, the eighth for its quarter
abbrev pub entry_from : (state : ℕ) → Given
entry_from state = entry_of (form_of (draw state 7 10)) (terms_from state) (draw state 8 4 + 1)

-- how many draws an entry of this form makes: one more where it wants a quarter
abbrev pub form_draws : Form → ℕ
form_draws form.Quarter = 8
form_draws _ = 7

abbrev pub entry_draws : (state : ℕ) → ℕ
entry_draws state = form_draws (form_of (draw state 7 10))

-- the command of this place, counted from 0, that is drawn from a state, and the number of its draws:
-- the first forty are offers
abbrev pub command_from : (place state : ℕ) → Given
command_from place state = if nat_lt place 40 then offer_from place state else entry_from state

abbrev pub draws_from : (place state : ℕ) → ℕ
draws_from place state = if nat_lt place 40 then 1 else entry_draws state

-- the state that the command of this place leaves
abbrev pub state_left : (place state : ℕ) → ℕ
state_left place state = state_after state (draws_from place state)
