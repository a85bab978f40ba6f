-- Which zones, borders and callers a setup has, and which of them events and replies name.
use Rattle.std.specs.Prelude.{ℕ, ◌<◌, length, All, List}
use Rattle.zone_graph.specs.Name.{IsName}
use Rattle.zone_graph.specs.declared.route.Arc.{Arc}
use Rattle.market_model.specs.declared.setup.Setup.{Setup}
use Rattle.market_model.specs.declared.entry.Entry.{Entry}
use Rattle.market_model.specs.declared.event.Event.{Event}
use Rattle.market_model.specs.declared.event.Event.TheVariants as event
use Rattle.market_model.specs.declared.refusal.Refusal.{Refusal}
use Rattle.market_model.specs.declared.refusal.Refusal.TheVariants as refusal
use Rattle.market_model.specs.declared.reply.Reply.{Reply}
use Rattle.market_model.specs.declared.reply.Reply.TheVariants as reply

abbrev pub HasZone : Setup → ℕ → Type 0
HasZone setup zone = zone < length setup.zones

abbrev pub HasBorder : Setup → ℕ → Type 0
HasBorder setup border = border < length setup.borders

abbrev pub HasArcs : Setup → List Arc → Type 0
HasArcs setup arcs = All (λ arc. HasBorder setup arc.border) arcs

-- zones and callers have names, and each border joins zones of the setup
pub record IsNamed (setup : Setup) : Type 0 where
  pub zones : All IsName setup.zones
  pub borders : All (λ ends. HasZone setup ends.0 × HasZone setup ends.1) setup.borders
  pub callers : All (λ caller. IsName caller.name) setup.callers

-- the borders that an event names are the setup's
abbrev pub IsEventIn : Setup → Event → Type 0
IsEventIn setup (event.Leg contract leg) = HasArcs setup leg.route
IsEventIn setup (event.BlockLeg first last leg) = HasArcs setup leg.route
IsEventIn setup (event.Granted arc first last lots) = HasBorder setup arc.border
IsEventIn setup (event.Offered arc first last lots) = HasBorder setup arc.border
IsEventIn setup (event.Halted border first last) = HasBorder setup border
IsEventIn setup (event.Resumed border first last) = HasBorder setup border
IsEventIn setup _ = Unit {0}

-- the zones that a refusal names are the setup's
abbrev pub IsRefusalIn : Setup → Refusal → Type 0
IsRefusalIn setup (refusal.Unfilled zones bound) = All (HasZone setup) zones
IsRefusalIn setup (refusal.BasketUnfilled hour zones bound) = All (HasZone setup) zones
IsRefusalIn setup _ = Unit {0}

-- the zones and borders that a reply names are the setup's
abbrev pub IsReplyIn : Setup → Reply → Type 0
IsReplyIn setup (reply.Done events) = All (IsEventIn setup) events
IsReplyIn setup (reply.Seen rows) = Unit {0}
IsReplyIn setup (reply.Refused refusal) = IsRefusalIn setup refusal

-- an entry is of a caller of the setup, and names zones and borders of the setup alone
pub record IsEntryIn (setup : Setup) (entry : Entry) : Type 0 where
  pub caller : entry.caller < length setup.callers
  pub reply : IsReplyIn setup entry.reply
