use Rattle.std.proofs.Common.{◌≡◌, ◌∙◌, ◌∷◌, ◌++◌, ◌<◌, ◌≤ℤ◌, [], pos, ap, refl, sym, subst}
use Rattle.flow_netting.specs.Flows.{border_count, flow_of, offered_of}
use Rattle.hour_store.specs.declared.change.Change.{Change}
use Rattle.hour_store.specs.declared.change.Change.TheVariants as change
use Rattle.hour_store.specs.Contents.{Contents}
use Rattle.hour_store.specs.Inside.{contents_of}
use Rattle.hour_store.specs.Store.{GoesBackTo, Store}
use Rattle.hour_store.proofs.Noted.{IsNotedBy, offer-noted}
use Rattle.hour_store.proofs.Noting.{notes-no_order}
use Rattle.hour_store.proofs.Stores.{still-goes, still-leads}
use Rattle.hour_store.proofs.store.HourStore.offer_if.Goals as goal

abbrev now : goal.After-offer_one → Contents
now c = record { book = c.self.inside.kept.book; blocks = c.self.inside.kept.blocks; flows = c.offer_one.new.flows }

abbrev record_of : goal.After-offer_one → Change
record_of c = change.Offered c.args.arc c.args.number (offered_of c.self.inside.kept.flows c.args.arc c.args.number)

noted : (c : goal.After-offer_one) → IsNotedBy (record_of c) (contents_of c.self.inside.kept) (now c)
noted c =
    offer-noted (contents_of c.self.inside.kept) (now c) c.self.invariant.0 (record { book = refl; blocks = refl }) c.args.arc c.args.number c.args.lots
    (subst (λ (s : Store). c.args.arc.border < border_count s.contents.flows) (sym c.self.view_is) c.requires.border) c.requires.first c.requires.last c.requires.most
    (subst (λ (s : Store). flow_of s.contents.flows c.args.arc c.args.number ≤ℤ pos c.args.lots) (sym c.self.view_is) (c.requires.covers c.if-not-counts.false))
    c.offer_one.ensures

log : (c : goal.After-offer_one) → c.note.new.self.records ≡ c.self.inside.log.records ++ record_of c ∷ []
log c = ap (λ l. l.records) c.note.ensures
    ∙ ap (λ was. c.self.inside.log.records ++ change.Offered c.args.arc c.args.number was ∷ []) c.offered-was.ensures

pub invariant_of-self : goal.invariant_of-self
invariant_of-self c =
    ((noted c).kept, still-goes c.self.inside.log.records c.note.new.self.records (record_of c) (contents_of c.self.inside.kept) (now c) (log c) (noted c).undone c.self.invariant.1)

pub returns-clause-back : goal.returns-clause-back
returns-clause-back c = λ target leads.
    still-leads c.self.inside.log.records c.note.new.self.records (record_of c) (contents_of c.self.inside.kept) (now c) (log c) (noted c).undone target
    (subst (λ store. GoesBackTo store target) (sym c.self.view_is) leads)

pub returns-clause-noted : goal.returns-clause-noted
returns-clause-noted c = notes-no_order _ _ _ (ap (λ (s : Store). s.changes) c.self.view_is) (record_of c) (log c) (λ part side zone. refl)
