-- A history goes on with what orders of an hour take, with its sweeps and with replies, part by part.
use Rattle.std.proofs.Common.{◌≡◌, ◌∙◌, inl, inr, ℕ, ◌≤◌, true, List, [], ◌∷◌, ◌++◌, nat_le, eq-eqb, refl, sym, ap, subst, arith}
use Rattle.std.proofs.lemmas.Bool.{le-leb, and_from}
use Rattle.std.proofs.lemmas.List.{append-nil}
use Rattle.order_kinds.specs.declared.contract.Part.{Part}
use Rattle.order_kinds.specs.declared.order.OrderName.{OrderName}
use Rattle.order_kinds.specs.Period.{is_within}
use Rattle.zone_graph.specs.Graph.{Graph}
use Rattle.zone_graph.specs.Route.{IsIn}
use Rattle.zone_graph.proofs.Membership.{IsIn-left, IsIn-right}
use Rattle.market_model.specs.declared.command.Command.{Command}
use Rattle.market_model.specs.declared.event.Event.{Event}
use Rattle.market_model.specs.declared.event.Event.TheVariants as event
use Rattle.market_model.specs.declared.reply.Reply.{Reply}
use Rattle.market_model.specs.declared.setup.Setup.{Setup}
use Rattle.market_model.specs.Entering.{name_of_next}
use Rattle.market_model.specs.Grid.{graph_of}
use Rattle.market_model.specs.History.{and_then, events_of, touches}
use Rattle.market_model.specs.Market.{reply_by}
use Rattle.market_model.specs.Rules.{touched_hours}
use Rattle.market_model.specs.Sweep.{sweep}
use Rattle.market_model.specs.Taking.{take}
use Rattle.market_model.specs.WellFormed.{BlocksAreWhole, FitAfter, Fits, IsHistory}
use Rattle.laws_of_market.proofs.Growing.{fit-append, fit-back, fit-front}
use Rattle.laws_of_market.proofs.Legs.{sweep-fits, take-fits}
use Rattle.laws_of_market.proofs.Replies.{reply-history}
use Rattle.laws_of_market.proofs.Uses.{not_after-hours}
use Rattle.laws_of_market.proofs.LocalLines.{sweep-agree, take-agree}
use Rattle.laws_of_market.proofs.NamedByHour.{AreNamedByHour, IsNamedByHour, history-named}
use Rattle.laws_of_market.proofs.LocalReplies.{reply-local}
use Rattle.laws_of_market.proofs.LocalStates.{Agree}
use Rattle.laws_of_market.proofs.WithinHours.{AreWithinHours, reply-within, sweep-within, take-within}
use Rattle.laws_of_market.proofs.OfHours.{hour-agrees}
use Rattle.laws_of_boards.specs.Hours.{EntriesStayHours, GoesOn, IsHourIn, PrefixesAreHours, RepliesStayHours, SweepsStayHours, TakingsStayHours, WithdrawalsStayHours}
use Rattle.laws_of_boards.proofs.Fitting.{event-goes-on, go-on-again, goes-on, hour-goes-on, hour-in-agrees}

-- ---- events that fit and touch no other hour

-- an event touches some hour
record TouchesSome (e : Event) : Type 0 where
  hour : ℕ
  is : touches hour e ≡ true

from-within : (first last : ℕ) → first ≤ last → is_within first last first ≡ true
from-within first last order = and_from (nat_le first first) (nat_le first last) (le-leb first first (omega arith)) (le-leb first last order)

touches-some : (setup : Setup) (before : List Event) (e : Event) → IsNamedByHour e → Fits setup before e → TouchesSome e
touches-some setup before (event.Entered name caller order) named fits = record { hour = name.hour; is = eq-eqb name.hour name.hour refl }
touches-some setup before (event.EnteredBlock name caller order) named fits = record { hour = name.hour; is = eq-eqb name.hour name.hour refl }
touches-some setup before (event.Leg contract leg) named fits = record { hour = contract.hour; is = eq-eqb contract.hour contract.hour refl }
touches-some setup before (event.BlockLeg first last leg) named fits = record { hour = first; is = from-within first last named.2 }
touches-some setup before (event.Granted arc first last lots) named fits =
    record { hour = first.hour; is = from-within first.hour last.hour (not_after-hours first last fits.range.in_order) }
touches-some setup before (event.Offered arc first last lots) named fits =
    record { hour = first.hour; is = from-within first.hour last.hour (not_after-hours first last fits.range.in_order) }
touches-some setup before (event.Halted border first last) named fits = record { hour = first; is = from-within first last fits.in_order }
touches-some setup before (event.Resumed border first last) named fits = record { hour = first; is = from-within first last fits.in_order }
touches-some setup before (event.Gated gated phase) named fits = record { hour = gated; is = eq-eqb gated gated refl }
touches-some setup before (event.Withdrawn name lots) named fits = record { hour = name.hour; is = eq-eqb name.hour name.hour refl }
touches-some setup before (event.Reduced name by) named fits = record { hour = name.hour; is = eq-eqb name.hour name.hour refl }

-- each event of a list that fits does so after some events
record FitsSome (setup : Setup) (e : Event) : Type 0 where
  before : List Event
  fits : Fits setup before e

fits-each : (setup : Setup) (before more : List Event) (e : Event) → FitAfter setup before more → IsIn e more → FitsSome setup e
fits-each setup before [] e fit i = absurd i
fits-each setup before (first ∷ more) e fit i = elim i [
  | inl same ↦ record { before = before; fits = subst (Fits setup before) (sym same) fit.0 }
  | inr later ↦ fits-each setup (and_then before first) more e fit.1 later
]

-- so all of them touch the hour
all-touch : (setup : Setup) (hour : ℕ) (before more : List Event) → FitAfter setup before more → AreNamedByHour more → AreWithinHours (hour ∷ []) more
    → (e : Event) → IsIn e more → touches hour e ≡ true
all-touch setup hour before more fit named within e i =
    let own = fits-each setup before more e fit i in
    let some = touches-some setup own.before e (named e i) own.fits in
    elim (within e i some.hour some.is) [ inl same ↦ subst (λ h. touches h e ≡ true) same some.is | inr j ↦ absurd j ]

module _ (setup : Setup) (hour : ℕ) (history before : List Event) (is : IsHourIn setup hour history before) where
  abbrev graph : Graph
  graph = graph_of setup

  -- a history goes on with each first part of events that fit it and touch no other hour
  pub part-goes-on : (some rest : List Event) → FitAfter setup history (some ++ rest) → AreWithinHours (hour ∷ []) (some ++ rest)
      → GoesOn setup hour history before some
  part-goes-on some rest fit within =
      let front = fit-front setup history some rest fit in
      let all = fit-append setup [] history some is.fit front in
      goes-on setup hour history before is some all
      (all-touch setup hour history some front (λ e i. history-named setup (history ++ some) all e (IsIn-right e history some i))
      (λ e i. within e (IsIn-left e some rest i)))

  pub taking-goes-on : (name : OrderName) (some rest : List Event) → name.hour ≡ hour → take graph before name ≡ some ++ rest → GoesOn setup hour history before some
  taking-goes-on name some rest in_hour same =
      let agree = hour-in-agrees setup hour history before is in
      let whole : take graph history name ≡ some ++ rest = sym (take-agree (hour ∷ []) before history graph name agree (inl in_hour)) ∙ same in
      part-goes-on some rest (subst (FitAfter setup history) whole (take-fits setup is.is_setup history is.fit name))
      (subst (AreWithinHours (hour ∷ [])) whole (take-within (hour ∷ []) graph history name (inl in_hour) agree.named_b))

pub takings : TakingsStayHours
takings setup hour history before name some rest is in_hour same = taking-goes-on setup hour history before is name some rest in_hour same

pub entries : EntriesStayHours
entries setup hour history before caller order some rest is in_hour enters same =
    let entry : Event = event.Entered (name_of_next before order) caller order in
    let first = (event-goes-on setup hour history before is entry in_hour enters).1 in
    let entered = hour-goes-on setup hour history before is (entry ∷ []) first in
    go-on-again setup hour history before is (entry ∷ []) some
    (taking-goes-on setup hour (and_then history entry) (and_then before entry) entered (name_of_next before order) some rest in_hour same)

pub withdrawn : WithdrawalsStayHours
withdrawn setup hour history before caller order some rest lots is in_hour enters same all_left least =
    let taken : List Event = event.Entered (name_of_next before order) caller order ∷ some in
    let gone : Event = event.Withdrawn (name_of_next before order) lots in
    let front = entries setup hour history before caller order some rest is in_hour enters same in
    let now = hour-goes-on setup hour history before is taken front in
    go-on-again setup hour history before is taken (gone ∷ [])
    (event-goes-on setup hour (history ++ taken) (before ++ taken) now gone in_hour (record { some = least; all_left = all_left })).1

pub sweeps : SweepsStayHours
sweeps setup parts hour history before some rest is same =
    let agree = hour-in-agrees setup hour history before is in
    let whole : sweep parts (graph_of setup) hour history ≡ some ++ rest =
    sym (sweep-agree (hour ∷ []) before history parts (graph_of setup) hour agree (inl refl)) ∙ same in
    part-goes-on setup hour history before is some rest (subst (FitAfter setup history) whole (sweep-fits setup is.is_setup parts hour history is.fit))
    (subst (AreWithinHours (hour ∷ [])) whole (sweep-within (hour ∷ []) parts (graph_of setup) hour history (inl refl) agree.named_b))

module _ (setup : Setup) (parts : List Part) (hour : ℕ) (history before : List Event) (caller : ℕ) (given : Command) (is : IsHourIn setup hour history before)
    (alone : (other : ℕ) → IsIn other (touched_hours setup caller given) → other ≡ hour) where
  abbrev reply : Reply
  reply = reply_by parts setup history caller given

  -- a command that touches no other hour has the same reply after the hour's events
  pub reply-alone : reply_by parts setup before caller given ≡ reply
  reply-alone =
      reply-local parts setup before history caller given
      (subst (λ es. Agree (touched_hours setup caller given) es history) is.in_hour (hour-agrees setup history is.fit (touched_hours setup caller given) hour alone))

  reply-after : BlocksAreWhole history → IsHistory setup (history ++ events_of reply)
  reply-after whole = reply-history setup is.is_setup parts history caller (record { fit = is.fit; whole = whole }) given

  prefix-goes-on : (some rest : List Event) → BlocksAreWhole history → events_of (reply_by parts setup before caller given) ≡ some ++ rest
      → GoesOn setup hour history before some
  prefix-goes-on some rest whole same =
      let events : events_of reply ≡ some ++ rest = sym (ap events_of reply-alone) ∙ same in
      let fit : FitAfter setup history (events_of reply) = fit-back setup [] history (events_of reply) (reply-after whole).fit in
      let within : AreWithinHours (hour ∷ []) (events_of reply) =
      λ e i k touched. inl (alone k (reply-within parts setup history caller given (history-named setup history is.fit) e i k touched)) in
      part-goes-on setup hour history before is some rest (subst (FitAfter setup history) events fit) (subst (AreWithinHours (hour ∷ [])) events within)

pub prefixes : PrefixesAreHours
prefixes setup parts hour history before caller given some rest is whole alone same =
    prefix-goes-on setup parts hour history before caller given is alone some rest whole same

pub replies : RepliesStayHours
replies setup parts hour history before caller given is whole alone =
    let events : List Event = events_of (reply_by parts setup before caller given) in
    let same = reply-alone setup parts hour history before caller given is alone in
    record {
      same = same;
      goes_on = prefix-goes-on setup parts hour history before caller given is alone events [] whole (sym (append-nil events));
      whole = subst (λ r. BlocksAreWhole (history ++ events_of r)) (sym same) (reply-after setup parts hour history before caller given is alone whole).whole;
    }
