use Rattle.std.proofs.Common.{◌≡◌, ◌∙◌, ◌∷◌, ◌++◌, ◌≤◌, [], IsSomeAnd, ap, refl, sym, subst}
use Rattle.contract_book.specs.Book.{order_of}
use Rattle.hour_store.specs.declared.change.Change.{Change}
use Rattle.hour_store.specs.declared.change.Change.TheVariants as change
use Rattle.hour_store.specs.Contents.{Contents, IsOfPart}
use Rattle.hour_store.specs.Inside.{contents_of}
use Rattle.hour_store.specs.Store.{GoesBackTo, Store}
use Rattle.hour_store.proofs.Noted.{IsNotedBy, fill-noted}
use Rattle.hour_store.proofs.Noting.{notes-no_flow, notes-order, rests-at}
use Rattle.hour_store.proofs.Stores.{still-goes, still-leads}
use Rattle.hour_store.proofs.store.HourStore.fill.Goals as goal

abbrev now : goal.After-fill → Contents
now c = record { book = c.fill.new.self; blocks = c.self.inside.kept.blocks; flows = c.self.inside.kept.flows }

abbrev record_of : goal.After-fill → Change
record_of c = change.OrderChanged c.args.part c.in-Some.was

noted : (c : goal.After-fill) → IsNotedBy (record_of c) (contents_of c.self.inside.kept) (now c)
noted c =
    fill-noted (contents_of c.self.inside.kept) (now c) c.self.invariant.0 c.args.part c.args.number c.in-Some.was c.len.ensures.sound (sym c.in-Some.ensures) refl refl c.args.lots c.args.moment
    (subst (λ (s : Store). IsSomeAnd (order_of s.contents.book c.args.number) (λ o. IsOfPart s.contents.book c.args.part o × (1 ≤ c.args.lots) × (c.args.lots ≤ o.shown))) (sym c.self.view_is) c.requires.order)
    c.fill.ensures.filled

log : (c : goal.After-fill) → c.note.new.self.records ≡ c.self.inside.log.records ++ record_of c ∷ []
log c = ap (λ l. l.records) c.note.ensures

pub invariant_of-self : goal.invariant_of-self
invariant_of-self c =
    ((noted c).kept, still-goes c.self.inside.log.records c.note.new.self.records (record_of c) (contents_of c.self.inside.kept) (now c) (log c) (noted c).undone c.self.invariant.1)

pub returns-clause-back : goal.returns-clause-back
returns-clause-back c = λ target leads.
    still-leads c.self.inside.log.records c.note.new.self.records (record_of c) (contents_of c.self.inside.kept) (now c) (log c) (noted c).undone target
    (subst (λ store. GoesBackTo store target) (sym c.self.view_is) leads)

pub returns-clause-noted : goal.returns-clause-noted
returns-clause-noted c =
    notes-order _ _ _ (ap (λ (s : Store). s.changes) c.self.view_is) (record_of c) (log c) _
    (rests-at c.args.self.now.contents.book c.args.number c.args.part c.in-Some.was (ap (λ (s : Store). order_of s.contents.book c.args.number) (sym c.self.view_is) ∙ sym c.in-Some.ensures))

pub returns-clause-no_flow : goal.returns-clause-no_flow
returns-clause-no_flow c = notes-no_flow _ _ _ (ap (λ (s : Store). s.changes) c.self.view_is) (record_of c) (log c) refl
