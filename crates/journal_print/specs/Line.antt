-- The lines of a journal: how names, events, refusals, replies and entries are printed.
use Rattle.std.specs.Prelude.{ℕ, Bool, true, false, List, [], ◌∷◌, ◌++◌, map, slice_get, option_map, unwrap_or, decimal, codes}
use Rattle.order_kinds.specs.Contract.{hour_text, quarter_text, contract_text}
use Rattle.order_kinds.specs.Order.{name_text}
use Rattle.order_kinds.specs.Phase.{phase_text}
use Rattle.order_kinds.specs.Price.{price_text, lots_text}
use Rattle.zone_graph.specs.declared.route.Arc.{Arc}
use Rattle.market_model.specs.declared.setup.Setup.{Setup}
use Rattle.market_model.specs.declared.entry.Entry.{Entry}
use Rattle.market_model.specs.declared.event.Leg.{Leg}
use Rattle.market_model.specs.declared.event.Event.{Event}
use Rattle.market_model.specs.declared.event.Event.TheVariants as event
use Rattle.market_model.specs.declared.refusal.Refusal.{Refusal}
use Rattle.market_model.specs.declared.refusal.Refusal.TheVariants as refusal
use Rattle.market_model.specs.declared.reply.Reply.{Reply}
use Rattle.market_model.specs.declared.reply.Reply.TheVariants as reply
use Rattle.market_model.specs.declared.reply.ViewRow.{ViewRow}
use Rattle.journal_print.specs.Json.{quote, row, braces}

-- the name of the zone of this number
abbrev pub zone_name : Setup → ℕ → List ℕ
zone_name setup zone = unwrap_or (slice_get setup.zones zone) []

-- the name of the caller of this number
abbrev pub caller_name : Setup → ℕ → List ℕ
caller_name setup caller = unwrap_or (option_map (λ known. known.name) (slice_get setup.callers caller)) []

-- the numbers of the two zones that a border joins, in the order of its declaration
abbrev pub border_ends : Setup → ℕ → ℕ × ℕ
border_ends setup border = unwrap_or (slice_get setup.borders border) (0, 0)

-- the way from one zone to another
abbrev pub way_text : Setup → (from to : ℕ) → List ℕ
way_text setup from to = zone_name setup from ++ (codes ">" ++ zone_name setup to)

-- an arc: from the border's first zone to its second where it is the forward one, else back
abbrev pub arc_text : Setup → Arc → List ℕ
arc_text setup arc = directed arc.forward
  where
    directed : Bool → List ℕ
    directed true = way_text setup (border_ends setup arc.border).0 (border_ends setup arc.border).1
    directed false = way_text setup (border_ends setup arc.border).1 (border_ends setup arc.border).0

-- a quantity in lots
abbrev pub quantity_text : ℕ → List ℕ
quantity_text lots = lots_text (record { 0 = lots })

-- the parts of a trade behind its kind: taker, maker, quantity, price, and the route's arcs in order
abbrev pub trade_parts : Setup → Leg → List (List ℕ)
trade_parts setup leg =
    quote (name_text leg.taker) ∷ quote (name_text leg.maker) ∷ quote (quantity_text leg.lots) ∷ quote (price_text leg.price)
    ∷ row (map (λ arc. quote (arc_text setup arc)) leg.route) ∷ []

-- the parts of an event: its kind, and what it concerns
abbrev pub event_parts : Setup → Event → List (List ℕ)
event_parts setup (event.Entered name caller order) =
    quote (codes "entered") ∷ quote (name_text name) ∷ quote (contract_text order.contract) ∷ []
event_parts setup (event.EnteredBlock name caller order) =
    quote (codes "entered") ∷ quote (name_text name) ∷ quote (hour_text order.first) ∷ quote (hour_text order.last) ∷ []
event_parts setup (event.Leg contract leg) = quote (codes "leg") ∷ trade_parts setup leg
event_parts setup (event.BlockLeg first last leg) = quote (codes "blockleg") ∷ trade_parts setup leg
event_parts setup (event.Granted arc first last lots) =
    quote (codes "granted") ∷ quote (arc_text setup arc) ∷ quote (quarter_text first) ∷ quote (quarter_text last)
    ∷ quote (quantity_text lots) ∷ []
event_parts setup (event.Offered arc first last lots) =
    quote (codes "offered") ∷ quote (arc_text setup arc) ∷ quote (quarter_text first) ∷ quote (quarter_text last)
    ∷ quote (quantity_text lots) ∷ []
event_parts setup (event.Halted border first last) =
    quote (codes "halted") ∷ quote (arc_text setup (record { border = border; forward = true }))
    ∷ quote (hour_text first) ∷ quote (hour_text last) ∷ []
event_parts setup (event.Resumed border first last) =
    quote (codes "resumed") ∷ quote (arc_text setup (record { border = border; forward = true }))
    ∷ quote (hour_text first) ∷ quote (hour_text last) ∷ []
event_parts setup (event.Gated hour phase) = quote (codes "gated") ∷ quote (hour_text hour) ∷ quote (phase_text phase) ∷ []
event_parts setup (event.Withdrawn name lots) =
    quote (codes "withdrawn") ∷ quote (name_text name) ∷ quote (quantity_text lots) ∷ []
event_parts setup (event.Reduced name by) =
    quote (codes "reduced") ∷ quote (name_text name) ∷ quote (quantity_text by) ∷ []

-- the names of zones
abbrev pub zones_row : Setup → List ℕ → List ℕ
zones_row setup zones = row (map (λ zone. quote (zone_name setup zone)) zones)

-- the parts of a refusal: its name, and what it carries
abbrev pub refusal_parts : Setup → Refusal → List (List ℕ)
refusal_parts setup refusal.WrongRole = quote (codes "WrongRole") ∷ []
refusal_parts setup refusal.UnknownHour = quote (codes "UnknownHour") ∷ []
refusal_parts setup refusal.UnknownContract = quote (codes "UnknownContract") ∷ []
refusal_parts setup refusal.UnknownZone = quote (codes "UnknownZone") ∷ []
refusal_parts setup refusal.UnknownBorder = quote (codes "UnknownBorder") ∷ []
refusal_parts setup refusal.BadPeriod = quote (codes "BadPeriod") ∷ []
refusal_parts setup refusal.BadBasket = quote (codes "BadBasket") ∷ []
refusal_parts setup refusal.PriceOutOfRange = quote (codes "PriceOutOfRange") ∷ []
refusal_parts setup refusal.QuantityOutOfRange = quote (codes "QuantityOutOfRange") ∷ []
refusal_parts setup refusal.BadPeak = quote (codes "BadPeak") ∷ []
refusal_parts setup (refusal.Closed hour) = quote (codes "Closed") ∷ quote (hour_text hour) ∷ []
refusal_parts setup (refusal.GateBack phase) = quote (codes "GateBack") ∷ quote (phase_text phase) ∷ []
refusal_parts setup refusal.UnknownOrder = quote (codes "UnknownOrder") ∷ []
refusal_parts setup (refusal.BelowFlow quarter flow) =
    quote (codes "BelowFlow") ∷ quote (quarter_text quarter) ∷ quote (quantity_text flow) ∷ []
refusal_parts setup (refusal.NoRoom quarter room) =
    quote (codes "NoRoom") ∷ quote (quarter_text quarter) ∷ quote (quantity_text room) ∷ []
refusal_parts setup (refusal.Unfilled zones bound) =
    quote (codes "Unfilled") ∷ zones_row setup zones ∷ quote (quantity_text bound) ∷ []
refusal_parts setup (refusal.BasketUnfilled hour zones bound) =
    quote (codes "BasketUnfilled") ∷ quote (hour_text hour) ∷ zones_row setup zones ∷ quote (quantity_text bound) ∷ []
refusal_parts setup refusal.DeskFull = quote (codes "DeskFull") ∷ []

-- events, each as a row of its parts
abbrev pub event_rows : Setup → List Event → List (List ℕ)
event_rows setup events = map (λ happened. row (event_parts setup happened)) events

-- the rows of a view, each of a price and a quantity
abbrev pub view_rows : List ViewRow → List (List ℕ)
view_rows rows = map (λ offer. row (quote (price_text offer.price) ∷ quote (quantity_text offer.lots) ∷ [])) rows

-- the members of the line of an entry whose command was done, by their keys in the order of bytes:
-- the caller, which of the caller's entries it is, the events, and its place in the journal
abbrev pub done_members : (caller : List ℕ) (nth place : ℕ) (events : List (List ℕ)) → List (List ℕ × List ℕ)
done_members caller nth place events =
    (codes "caller", quote caller) ∷ (codes "command", decimal nth) ∷ (codes "done", row events) ∷ (codes "entry", decimal place)
    ∷ []

-- the same of an entry that showed the rows of a view
abbrev pub seen_members : (caller : List ℕ) (nth place : ℕ) (rows : List (List ℕ)) → List (List ℕ × List ℕ)
seen_members caller nth place rows =
    (codes "caller", quote caller) ∷ (codes "command", decimal nth) ∷ (codes "entry", decimal place) ∷ (codes "rows", row rows)
    ∷ []

-- the same of an entry whose command was refused
abbrev pub refused_members : (caller : List ℕ) (nth place : ℕ) (refused : List (List ℕ)) → List (List ℕ × List ℕ)
refused_members caller nth place refused =
    (codes "caller", quote caller) ∷ (codes "command", decimal nth) ∷ (codes "entry", decimal place)
    ∷ (codes "refused", row refused) ∷ []

-- the members of an entry's line, by its reply
abbrev pub entry_members : Setup → (place : ℕ) → Entry → List (List ℕ × List ℕ)
entry_members setup place entry = by_reply entry.reply
  where
    by_reply : Reply → List (List ℕ × List ℕ)
    by_reply (reply.Done events) = done_members (caller_name setup entry.caller) entry.nth place (event_rows setup events)
    by_reply (reply.Seen rows) = seen_members (caller_name setup entry.caller) entry.nth place (view_rows rows)
    by_reply (reply.Refused refusal) =
        refused_members (caller_name setup entry.caller) entry.nth place (refusal_parts setup refusal)

-- the line of an entry that stands at this place of the journal, with its line feed
abbrev pub entry_line : Setup → (place : ℕ) → Entry → List ℕ
entry_line setup place entry = braces (entry_members setup place entry) ++ codes "\n"
