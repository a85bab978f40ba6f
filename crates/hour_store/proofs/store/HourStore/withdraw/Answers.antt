use Rattle.std.proofs.Common.{◌≡◌, ◌∙◌, ◌∷◌, ◌++◌, [], List, IfSome, ap, refl, sym, subst}
use Rattle.contract_book.specs.declared.resting.Resting.{Resting}
use Rattle.contract_book.specs.Book.{order_of}
use Rattle.hour_store.specs.declared.change.Change.{Change}
use Rattle.hour_store.specs.declared.change.Change.TheVariants as change
use Rattle.hour_store.specs.Contents.{Contents, IsOfPart}
use Rattle.hour_store.specs.Inside.{CanGoBack, IsKept, LogLeadsBack, contents_of}
use Rattle.hour_store.specs.Store.{GoesBackTo, Store}
use Rattle.hour_store.proofs.Noted.{IsNotedBy, nothing-withdrawn, withdraw-noted}
use Rattle.hour_store.proofs.Noting.{notes-no_flow, notes-order, rests-at}
use Rattle.hour_store.proofs.Stores.{still-goes, still-leads}
use Rattle.hour_store.proofs.store.HourStore.withdraw.Goals as goal

abbrev now : goal.After-note → Contents
now c = record { book = c.withdraw.new.self; blocks = c.self.inside.kept.blocks; flows = c.self.inside.kept.flows }

abbrev record_of : goal.After-note → Change
record_of c = change.OrderChanged c.args.part c.in_ok-was.was'

noted : (c : goal.After-note) → IsNotedBy (record_of c) (contents_of c.self.inside.kept) (now c)
noted c =
    withdraw-noted (contents_of c.self.inside.kept) (now c) c.self.invariant.0 c.args.part c.args.number c.in_ok-was.was' c.len.ensures.sound (sym c.in_ok-was.ensures.order) refl refl
    (subst (λ (s : Store). IfSome (order_of s.contents.book c.args.number) (λ o. IsOfPart s.contents.book c.args.part o)) (sym c.self.view_is) c.requires.order)
    c.withdraw.ensures.without

log : (c : goal.After-note) → c.note.new.self.records ≡ c.self.inside.log.records ++ record_of c ∷ []
log c = ap (λ l. l.records) c.note.ensures

pub invariant_of-self-2 : goal.invariant_of-self-2
invariant_of-self-2 c =
    ((noted c).kept, still-goes c.self.inside.log.records c.note.new.self.records (record_of c) (contents_of c.self.inside.kept) (now c) (log c) (noted c).undone c.self.invariant.1)

pub returns-clause-back : goal.returns-clause-back
returns-clause-back c = λ target leads.
    still-leads c.self.inside.log.records c.note.new.self.records (record_of c) (contents_of c.self.inside.kept) (now c) (log c) (noted c).undone target
    (subst (λ store. GoesBackTo store target) (sym c.self.view_is) leads)

nothing : (c : goal.After-from_residual) → c.withdraw.new.self ≡ c.self.inside.kept.book
nothing c = c.withdraw.ensures.without ∙ nothing-withdrawn c.self.inside.kept.book c.args.number (sym c.in_err-was.ensures.order)

pub invariant_of-self : goal.invariant_of-self
invariant_of-self c =
    subst (λ (b : List (List Resting)). IsKept (record { book = b; blocks = c.self.inside.kept.blocks; flows = c.self.inside.kept.flows })
    × CanGoBack c.self.inside.log.records (record { book = b; blocks = c.self.inside.kept.blocks; flows = c.self.inside.kept.flows })) (sym (nothing c)) c.self.invariant

pub returns-in_err-was-clause-back : goal.returns-in_err-was-clause-back
returns-in_err-was-clause-back c = λ target leads.
    subst (λ (b : List (List Resting)). LogLeadsBack c.self.inside.log.records (record { book = b; blocks = c.self.inside.kept.blocks; flows = c.self.inside.kept.flows }) target)
    (sym (nothing c)) (subst (λ store. GoesBackTo store target) (sym c.self.view_is) leads)

pub returns-clause-noted : goal.returns-clause-noted
returns-clause-noted c =
    notes-order _ _ _ (ap (λ (s : Store). s.changes) c.self.view_is) (record_of c) (log c) _
    (rests-at c.args.self.now.contents.book c.args.number c.args.part c.in_ok-was.was' (ap (λ (s : Store). order_of s.contents.book c.args.number) (sym c.self.view_is) ∙ sym c.in_ok-was.ensures.order))

pub returns-clause-no_flow : goal.returns-clause-no_flow
returns-clause-no_flow c = notes-no_flow _ _ _ (ap (λ (s : Store). s.changes) c.self.view_is) (record_of c) (log c) refl
