use Rattle.std.proofs.Common.{◌≡◌, ◌∙◌, ℕ, List, sym, ap, subst}
use Rattle.contract_book.specs.declared.resting.Resting.{Resting}
use Rattle.flow_netting.specs.Flows.{Flows, IsOverBorders}
use Rattle.laws_of_hours.specs.OrderEvents.{filled_beside}
use Rattle.hour_store.specs.Changed.{NotesOrdersAt}
use Rattle.hour_store.specs.Contents.{Contents}
use Rattle.hour_store.proofs.Noting.{notes-both, notes-then}
use Rattle.kept_hour.specs.Legs.{RestsBeside}
use Rattle.kept_hour.proofs.legs.make_in.Goals as goal

pub carry-requires-clause-borders : goal.carry-requires-clause-borders
carry-requires-clause-borders c =
    let same : c.fill_beside-2.new.store.contents.flows ≡ c.args.store.now.contents.flows =
    ap (λ (k : Contents). k.flows) c.fill_beside-2.ensures.filled ∙ ap (λ (k : Contents). k.flows) c.fill_beside.ensures.filled in
    subst (λ (f : Flows). IsOverBorders f.borders c.args.leg.now.route) (sym same) (c.requires.can.can_carry c.quarters_of.result c.quarters_of.ensures).borders

pub returns-clause-noted : goal.returns-clause-noted
returns-clause-noted c =
    let beside = λ (book : List (List Resting)) (number : ℕ). RestsBeside c.args.hand book number c.args.part in
    let first : List (List Resting) = c.args.store.now.contents.book in
    let mid : List (List Resting) = filled_beside c.args.hand c.args.leg.now.maker.number c.args.leg.now.lots c.args.moment first in
    notes-then _ c.args.store.now.changes c.fill_beside-2.new.store.changes c.carry.new.self.changes
    (notes-both (beside first c.args.leg.now.maker.number) (beside mid c.args.leg.now.taker.number) c.args.store.now.changes c.fill_beside.new.store.changes c.fill_beside-2.new.store.changes
    c.fill_beside.ensures.noted
    (subst (λ b. NotesOrdersAt (beside b c.args.leg.now.taker.number) c.fill_beside.new.store.changes c.fill_beside-2.new.store.changes)
    (ap (λ (k : Contents). k.book) c.fill_beside.ensures.filled) c.fill_beside-2.ensures.noted))
    c.carry.ensures.noted
