use Rattle.std.proofs.Common.{◌≡◌, ◌∙◌, ◌∷◌, ◌++◌, [], ap, refl, sym, subst}
use Rattle.contract_book.specs.Book.{order_of}
use Rattle.hour_store.specs.declared.change.Change.{Change}
use Rattle.hour_store.specs.declared.change.Change.TheVariants as change
use Rattle.hour_store.specs.Contents.{Contents}
use Rattle.hour_store.specs.Inside.{contents_of}
use Rattle.hour_store.specs.Store.{GoesBackTo, Store}
use Rattle.hour_store.proofs.Noted.{IsNotedBy, rest-noted}
use Rattle.hour_store.proofs.Noting.{notes-no_flow, notes-order}
use Rattle.hour_store.proofs.Stores.{still-goes, still-leads}
use Rattle.hour_store.proofs.store.HourStore.rest.Goals as goal

abbrev now : goal.After-note → Contents
now c = record { book = c.rest.new.self; blocks = c.self.inside.kept.blocks; flows = c.self.inside.kept.flows }

abbrev record_of : goal.After-note → Change
record_of c = change.OrderRested c.args.part c.args.order

noted : (c : goal.After-note) → IsNotedBy (record_of c) (contents_of c.self.inside.kept) (now c)
noted c =
    rest-noted (contents_of c.self.inside.kept) (now c) c.self.invariant.0 c.args.part c.args.order
    (ap (λ (s : Store). order_of s.contents.book c.args.order.number) c.self.view_is ∙ c.requires.absent) c.in-Ok.ensures.rests refl refl

log : (c : goal.After-note) → c.note.new.self.records ≡ c.self.inside.log.records ++ record_of c ∷ []
log c = ap (λ l. l.records) c.note.ensures

pub invariant_of-self-2 : goal.invariant_of-self-2
invariant_of-self-2 c =
    ((noted c).kept, still-goes c.self.inside.log.records c.note.new.self.records (record_of c) (contents_of c.self.inside.kept) (now c) (log c) (noted c).undone c.self.invariant.1)

pub returns-clause-back : goal.returns-clause-back
returns-clause-back c = λ target leads.
    still-leads c.self.inside.log.records c.note.new.self.records (record_of c) (contents_of c.self.inside.kept) (now c) (log c) (noted c).undone target
    (subst (λ store. GoesBackTo store target) (sym c.self.view_is) leads)

pub returns-clause-noted : goal.returns-clause-noted
returns-clause-noted c = notes-order _ _ _ (ap (λ (s : Store). s.changes) c.self.view_is) (record_of c) (log c) _ (λ own side zone is. is)

pub returns-clause-no_flow : goal.returns-clause-no_flow
returns-clause-no_flow c = notes-no_flow _ _ _ (ap (λ (s : Store). s.changes) c.self.view_is) (record_of c) (log c) refl
