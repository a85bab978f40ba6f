-- The line of an entry has one line feed, its last byte.
use Rattle.std.proofs.Common.{◌∙◌, ℕ, zero, suc, ◌==◌, Bool, true, false, not, All, List, [], ◌∷◌, ◌++◌, codes, decimal, map, refl, arith}
use Rattle.std.specs.Prelude.{IsTrue, option_map, slice_get, unwrap_or}
use Rattle.std.specs.List.{join_with_byte, list_all}
use Rattle.std.proofs.lemmas.Bool.{and_from, and_parts, ne_eqb, not_from_false}
use Rattle.std.proofs.lemmas.List.Elements.{All-head, All-tail}
use Rattle.std.proofs.lemmas.List.Folds.{list_all-append}
use Rattle.order_kinds.specs.declared.contract.Quarter.{Quarter}
use Rattle.order_kinds.specs.declared.price.Price.{Price}
use Rattle.order_kinds.specs.Contract.{contract_text, hour_text, quarter_text}
use Rattle.order_kinds.specs.Order.{name_text}
use Rattle.order_kinds.specs.Phase.{phase_text}
use Rattle.order_kinds.specs.Price.{price_text}
use Rattle.zone_graph.specs.Name.{IsName}
use Rattle.zone_graph.specs.declared.route.Arc.{Arc}
use Rattle.market_model.specs.declared.entry.Entry.{Entry}
use Rattle.market_model.specs.declared.event.Event.{Event}
use Rattle.market_model.specs.declared.event.Event.TheVariants as event
use Rattle.market_model.specs.declared.event.Leg.{Leg}
use Rattle.market_model.specs.declared.refusal.Refusal.{Refusal}
use Rattle.market_model.specs.declared.refusal.Refusal.TheVariants as refusal
use Rattle.market_model.specs.declared.reply.Reply.{Reply}
use Rattle.market_model.specs.declared.reply.Reply.TheVariants as reply
use Rattle.market_model.specs.declared.reply.ViewRow.{ViewRow}
use Rattle.market_model.specs.declared.setup.Caller.{Caller}
use Rattle.market_model.specs.declared.setup.Setup.{Setup}
use Rattle.market_model.specs.Naming.{IsNamed}
use Rattle.journal_print.specs.Json.{IsPlain, braces, quote, row}
use Rattle.journal_print.specs.Line.{arc_text, border_ends, caller_name, entry_members, event_parts, event_rows, quantity_text, refusal_parts, trade_parts, view_rows, way_text, zone_name, zones_row}
use Rattle.journal_print.proofs.Plain.{plain-append, plain-contract_text, plain-decimal, plain-hour_text, plain-name, plain-name_text, plain-phase_text, plain-price_text, plain-quantity_text, plain-quarter_text, plain_byte_range}

-- bytes of which none is a line feed
abbrev pub IsOneLine : List ℕ → Type 0
IsOneLine bytes = IsTrue (list_all (λ byte. not (byte == 10)) bytes)

-- such pieces
abbrev AreOneLines : List (List ℕ) → Type 0
AreOneLines [] = Unit {0}
AreOneLines (piece ∷ pieces) = IsOneLine piece × AreOneLines pieces

one-append : (xs ys : List ℕ) → IsOneLine xs → IsOneLine ys → IsOneLine (xs ++ ys)
one-append xs ys one other = list_all-append (λ byte. not (byte == 10)) xs ys ∙ and_from _ _ one other

-- plain bytes are
one-plain : (bytes : List ℕ) → IsPlain bytes → IsOneLine bytes
one-plain [] plain = refl
one-plain (byte ∷ bytes) plain =
    let parts = and_parts _ _ plain in
    let range = plain_byte_range byte parts.0 in
    and_from _ _ (not_from_false _ (ne_eqb byte 10 (λ e. omega (arith, e, range.0)))) (one-plain bytes parts.1)

-- ---- what is put together of pieces

one-quote : (text : List ℕ) → IsPlain text → IsOneLine (quote text)
unfolding quote
one-quote text plain = one-append text (codes "\"") (one-plain text plain) refl

one-join : (pieces : List (List ℕ)) → AreOneLines pieces → IsOneLine (join_with_byte 44 pieces)
one-join [] are = refl
one-join (piece ∷ []) are = are.0
one-join (piece ∷ next ∷ more) are = one-append piece (44 ∷ join_with_byte 44 (next ∷ more)) are.0 (one-join (next ∷ more) are.1)

one-row : (pieces : List (List ℕ)) → AreOneLines pieces → IsOneLine (row pieces)
unfolding row
one-row pieces are = one-append (join_with_byte 44 pieces) (codes "]") (one-join pieces are) refl

-- rows of what is one line for each item
ones-map : {X : Type 0} (f : X → List ℕ) → ((x : X) → IsOneLine (f x)) → (xs : List X) → AreOneLines (map f xs)
ones-map f each [] = tt
ones-map f each (x ∷ xs) = (each x, ones-map f each xs)

-- a member whose key is plain
one-member : (key value : List ℕ) → IsPlain key → IsOneLine value → IsOneLine (quote key ++ (codes ":" ++ value))
one-member key value plain one = one-append (quote key) (codes ":" ++ value) (one-quote key plain) one

-- ---- quoted words

one-price : (price : Price) → IsOneLine (quote (price_text price))
one-price price = one-quote (price_text price) (plain-price_text price)

one-quantity : (lots : ℕ) → IsOneLine (quote (quantity_text lots))
one-quantity lots = one-quote (quantity_text lots) (plain-quantity_text lots)

one-hour : (hour : ℕ) → IsOneLine (quote (hour_text hour))
one-hour hour = one-quote (hour_text hour) (plain-hour_text hour)

one-quarter : (quarter : Quarter) → IsOneLine (quote (quarter_text quarter))
one-quarter quarter = one-quote (quarter_text quarter) (plain-quarter_text quarter)

-- ---- names

module _ (setup : Setup) (named : IsNamed setup) where
  plain-zone : (zone : ℕ) → IsPlain (zone_name setup zone)
  plain-zone zone = at setup.zones zone named.zones
    where
      at : (zones : List (List ℕ)) (zone : ℕ) → All IsName zones → IsPlain (unwrap_or (slice_get zones zone) [])
      at [] zone names = refl
      at (name ∷ zones) zero names = plain-name name (All-head IsName name zones names)
      at (name ∷ zones) (suc zone) names = at zones zone (All-tail IsName name zones names)

  pub plain-caller : (caller : ℕ) → IsPlain (caller_name setup caller)
  plain-caller caller = at setup.callers caller named.callers
    where
      at : (callers : List Caller) (caller : ℕ) → All (λ known. IsName known.name) callers
          → IsPlain (unwrap_or (option_map (λ (known : Caller). known.name) (slice_get callers caller)) [])
      at [] caller names = refl
      at (known ∷ callers) zero names = plain-name known.name (All-head (λ own. IsName own.name) known callers names)
      at (known ∷ callers) (suc caller) names = at callers caller (All-tail (λ own. IsName own.name) known callers names)

  one-way : (from to : ℕ) → IsOneLine (quote (way_text setup from to))
  one-way from to = one-quote (way_text setup from to) (plain-append (zone_name setup from) (codes ">" ++ zone_name setup to) (plain-zone from) (plain-zone to))

  one-arc : (arc : Arc) → IsOneLine (quote (arc_text setup arc))
  one-arc arc = by arc.border arc.forward
    where
      by : (border : ℕ) (forward : Bool) → IsOneLine (quote (arc_text setup (record { border = border; forward = forward })))
      by border true = one-way (border_ends setup border).0 (border_ends setup border).1
      by border false = one-way (border_ends setup border).1 (border_ends setup border).0

  -- ---- events, refusals, rows

  ones-trade : (leg : Leg) → AreOneLines (trade_parts setup leg)
  ones-trade leg = (
    one-quote (name_text leg.taker) (plain-name_text leg.taker),
    (
      one-quote (name_text leg.maker) (plain-name_text leg.maker),
      (
        one-quantity leg.lots,
        (
          one-price leg.price,
          (one-row (map (λ arc. quote (arc_text setup arc)) leg.route) (ones-map (λ arc. quote (arc_text setup arc)) one-arc leg.route), tt),
        ),
      ),
    ),
  )

  ones-event : (happened : Event) → AreOneLines (event_parts setup happened)
  ones-event (event.Entered name caller order) =
      (one-quote (codes "entered") refl, (one-quote (name_text name) (plain-name_text name), (one-quote (contract_text order.contract) (plain-contract_text order.contract), tt)))
  ones-event (event.EnteredBlock name caller order) =
      (one-quote (codes "entered") refl, (one-quote (name_text name) (plain-name_text name), (one-hour order.first, (one-hour order.last, tt))))
  ones-event (event.Leg contract leg) = (one-quote (codes "leg") refl, ones-trade leg)
  ones-event (event.BlockLeg first last leg) = (one-quote (codes "blockleg") refl, ones-trade leg)
  ones-event (event.Granted arc first last lots) =
      (one-quote (codes "granted") refl, (one-arc arc, (one-quarter first, (one-quarter last, (one-quantity lots, tt)))))
  ones-event (event.Offered arc first last lots) =
      (one-quote (codes "offered") refl, (one-arc arc, (one-quarter first, (one-quarter last, (one-quantity lots, tt)))))
  ones-event (event.Halted border first last) =
      (one-quote (codes "halted") refl, (one-arc (record { border = border; forward = true }), (one-hour first, (one-hour last, tt))))
  ones-event (event.Resumed border first last) =
      (one-quote (codes "resumed") refl, (one-arc (record { border = border; forward = true }), (one-hour first, (one-hour last, tt))))
  ones-event (event.Gated hour phase) = (one-quote (codes "gated") refl, (one-hour hour, (one-quote (phase_text phase) (plain-phase_text phase), tt)))
  ones-event (event.Withdrawn name lots) =
      (one-quote (codes "withdrawn") refl, (one-quote (name_text name) (plain-name_text name), (one-quantity lots, tt)))
  ones-event (event.Reduced name by) =
      (one-quote (codes "reduced") refl, (one-quote (name_text name) (plain-name_text name), (one-quantity by, tt)))

  one-zones : (zones : List ℕ) → IsOneLine (zones_row setup zones)
  one-zones zones =
      one-row (map (λ zone. quote (zone_name setup zone)) zones) (ones-map (λ zone. quote (zone_name setup zone)) (λ zone. one-quote (zone_name setup zone) (plain-zone zone)) zones)

  ones-refusal : (broken : Refusal) → AreOneLines (refusal_parts setup broken)
  ones-refusal refusal.WrongRole = (one-quote (codes "WrongRole") refl, tt)
  ones-refusal refusal.UnknownHour = (one-quote (codes "UnknownHour") refl, tt)
  ones-refusal refusal.UnknownContract = (one-quote (codes "UnknownContract") refl, tt)
  ones-refusal refusal.UnknownZone = (one-quote (codes "UnknownZone") refl, tt)
  ones-refusal refusal.UnknownBorder = (one-quote (codes "UnknownBorder") refl, tt)
  ones-refusal refusal.BadPeriod = (one-quote (codes "BadPeriod") refl, tt)
  ones-refusal refusal.BadBasket = (one-quote (codes "BadBasket") refl, tt)
  ones-refusal refusal.PriceOutOfRange = (one-quote (codes "PriceOutOfRange") refl, tt)
  ones-refusal refusal.QuantityOutOfRange = (one-quote (codes "QuantityOutOfRange") refl, tt)
  ones-refusal refusal.BadPeak = (one-quote (codes "BadPeak") refl, tt)
  ones-refusal (refusal.Closed hour) = (one-quote (codes "Closed") refl, (one-hour hour, tt))
  ones-refusal (refusal.GateBack phase) = (one-quote (codes "GateBack") refl, (one-quote (phase_text phase) (plain-phase_text phase), tt))
  ones-refusal refusal.UnknownOrder = (one-quote (codes "UnknownOrder") refl, tt)
  ones-refusal (refusal.BelowFlow quarter flow) = (one-quote (codes "BelowFlow") refl, (one-quarter quarter, (one-quantity flow, tt)))
  ones-refusal (refusal.NoRoom quarter room) = (one-quote (codes "NoRoom") refl, (one-quarter quarter, (one-quantity room, tt)))
  ones-refusal (refusal.Unfilled zones bound) = (one-quote (codes "Unfilled") refl, (one-zones zones, (one-quantity bound, tt)))
  ones-refusal (refusal.BasketUnfilled hour zones bound) =
      (one-quote (codes "BasketUnfilled") refl, (one-hour hour, (one-zones zones, (one-quantity bound, tt))))
  ones-refusal refusal.DeskFull = (one-quote (codes "DeskFull") refl, tt)

  one-view-row : (offer : ViewRow) → IsOneLine (row (quote (price_text offer.price) ∷ quote (quantity_text offer.lots) ∷ []))
  one-view-row offer = one-row (quote (price_text offer.price) ∷ quote (quantity_text offer.lots) ∷ []) (one-price offer.price, (one-quantity offer.lots, tt))

  -- ---- lines

  -- an object of four members whose keys are plain
  one-object : (a b c d v w x y : List ℕ) → IsPlain a → IsPlain b → IsPlain c → IsPlain d → IsOneLine v → IsOneLine w → IsOneLine x → IsOneLine y
      → IsOneLine (braces ((a, v) ∷ (b, w) ∷ (c, x) ∷ (d, y) ∷ []))
  unfolding braces
  one-object a b c d v w x y plain_a plain_b plain_c plain_d one_v one_w one_x one_y =
      let pieces : List (List ℕ) = (quote a ++ (codes ":" ++ v)) ∷ (quote b ++ (codes ":" ++ w)) ∷ (quote c ++ (codes ":" ++ x)) ∷ (quote d ++ (codes ":" ++ y)) ∷ [] in
      one-append (join_with_byte 44 pieces) (codes "}")
      (one-join pieces (one-member a v plain_a one_v, (one-member b w plain_b one_w, (one-member c x plain_c one_x, (one-member d y plain_d one_y, tt))))) refl

  -- the line of an entry is one, up to its line feed
  pub one-entry : (place : ℕ) (entry : Entry) → IsOneLine (braces (entry_members setup place entry))
  one-entry place entry = by entry.reply
    where
      name : List ℕ
      name = caller_name setup entry.caller

      by : (given : Reply) → IsOneLine (braces (entry_members setup place (record { caller = entry.caller; nth = entry.nth; command = entry.command; reply = given })))
      by (reply.Done events) =
          one-object (codes "caller") (codes "command") (codes "done") (codes "entry") (quote name) (decimal entry.nth) (row (event_rows setup events)) (decimal place) refl refl refl refl
          (one-quote name (plain-caller entry.caller)) (one-plain (decimal entry.nth) (plain-decimal entry.nth))
          (one-row (event_rows setup events) (ones-map (λ happened. row (event_parts setup happened)) (λ happened. one-row (event_parts setup happened) (ones-event happened)) events))
          (one-plain (decimal place) (plain-decimal place))
      by (reply.Seen rows) =
          one-object (codes "caller") (codes "command") (codes "entry") (codes "rows") (quote name) (decimal entry.nth) (decimal place) (row (view_rows rows)) refl refl refl refl
          (one-quote name (plain-caller entry.caller)) (one-plain (decimal entry.nth) (plain-decimal entry.nth)) (one-plain (decimal place) (plain-decimal place))
          (one-row (view_rows rows) (ones-map (λ (offer : ViewRow). row (quote (price_text offer.price) ∷ quote (quantity_text offer.lots) ∷ [])) one-view-row rows))
      by (reply.Refused broken) =
          one-object (codes "caller") (codes "command") (codes "entry") (codes "refused") (quote name) (decimal entry.nth) (decimal place) (row (refusal_parts setup broken)) refl refl refl refl
          (one-quote name (plain-caller entry.caller)) (one-plain (decimal entry.nth) (plain-decimal entry.nth)) (one-plain (decimal place) (plain-decimal place))
          (one-row (refusal_parts setup broken) (ones-refusal broken))
