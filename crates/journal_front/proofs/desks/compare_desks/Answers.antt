use Rattle.std.proofs.Common.{◌∙◌, inl, inr, ℕ, [], ◌∷◌, slice_get, take, arith, ap, sym, subst}
use Rattle.zone_graph.specs.Route.{IsIn}
use Rattle.zone_graph.proofs.Membership.{IsIn-append}
use Rattle.market_model.specs.declared.who.Who.TheVariants as who
use Rattle.market_model.specs.Concerned.{IsCurrent}
use Rattle.atomic_table.specs.Table.{Me}
use Rattle.journal_front.specs.declared.view.View.{View}
use Rattle.journal_front.specs.Fronts.{DeskSeatState, IsDeskOf}
use Rattle.journal_front.proofs.Lists.{IsIn-get, get-within, take-get}
use Rattle.journal_front.proofs.desks.compare_desks.Goals as goal

pub compare_at-requires-clause-own : goal.compare_at-requires-clause-own
compare_at-requires-clause-own g c = λ seat at.
    subst (λ (me : Me ℕ View). IsDeskOf (record { id = c.args.word.now.table_id; setup = me.0.setup }) seat) (sym c.loop-i.invariant.lead)
    (c.requires.own seat (subst (IsIn seat) c.loop-i.invariant.same (IsIn-get (g.H.HourSeats.seats c.loop-i.hours) c.loop-i.i seat at)))

-- the seat at this place is current too
pub loop-i-preserved : goal.loop-i-preserved
loop-i-preserved g c =
    let old = g.H.HourSeats.seats c.args.hours.now in
    let view = c.args.lead.now.me.0 in
    let i = c.loop-i.i in
    let found = get-within old i (omega (arith, c.len-i-end.ensures)) in
    let at = ap (λ seats. slice_get seats i) c.loop-i.invariant.same ∙ found.1 in
    let here : IsCurrent view.setup (who.Hour found.0.hour) found.0.entries view.entries =
    subst (λ (me : Me ℕ View). IsCurrent me.0.setup (who.Hour found.0.hour) found.0.entries me.0.entries) c.loop-i.invariant.lead (c.compare_at.ensures.current found.0 at) in record {
      place = c.compare_at.ensures.place ∙ c.loop-i.invariant.place;
      lead = c.compare_at.ensures.lead ∙ c.loop-i.invariant.lead;
      same = c.compare_at.ensures.seats ∙ c.loop-i.invariant.same;
      rest = c.compare_at.ensures.rest ∙ c.loop-i.invariant.rest;
      current = λ seat there. elim (IsIn-append seat (take i old) (found.0 ∷ []) (subst (IsIn seat) (take-get old i found.0 found.1) there)) [
        | inl before ↦ c.loop-i.invariant.current seat before
        | inr last ↦ elim last [
          | inl same ↦ subst (λ (s : DeskSeatState). IsCurrent view.setup (who.Hour s.hour) s.entries view.entries) (sym same) here
          | inr none ↦ absurd none
        ]
      ];
    }
