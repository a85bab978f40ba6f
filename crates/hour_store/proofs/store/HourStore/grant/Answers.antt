use Rattle.std.proofs.Common.{◌≡◌, ◌∷◌, ◌++◌, ◌<◌, ◌≤ℤ◌, [], true, pos, ap, refl, sym, subst}
use Rattle.order_kinds.specs.Period.{EachQuarter}
use Rattle.flow_netting.specs.Flows.{border_count, remaining_of}
use Rattle.flow_netting.specs.QuarterSet.{has}
use Rattle.hour_store.specs.declared.change.Change.{Change}
use Rattle.hour_store.specs.declared.change.Change.TheVariants as change
use Rattle.hour_store.specs.Contents.{Contents}
use Rattle.hour_store.specs.Inside.{contents_of}
use Rattle.hour_store.specs.Store.{GoesBackTo, Store}
use Rattle.hour_store.proofs.Noted.{IsNotedBy, grant-noted}
use Rattle.hour_store.proofs.Noting.{notes-no_order}
use Rattle.hour_store.proofs.Stores.{still-goes, still-leads}
use Rattle.hour_store.proofs.store.HourStore.grant.Goals as goal

abbrev now : goal.After-grant_in → Contents
now c = record { book = c.self.inside.kept.book; blocks = c.self.inside.kept.blocks; flows = c.grant_in.new.flows }

abbrev record_of : goal.After-grant_in → Change
record_of c = change.Carried c.args.arc c.args.set c.args.lots

noted : (c : goal.After-grant_in) → IsNotedBy (record_of c) (contents_of c.self.inside.kept) (now c)
noted c =
    grant-noted (contents_of c.self.inside.kept) (now c) c.self.invariant.0 (record { book = refl; blocks = refl }) c.args.arc c.args.set c.args.lots
    (subst (λ (s : Store). c.args.arc.border < border_count s.contents.flows) (sym c.self.view_is) c.requires.border)
    (subst (λ (s : Store). EachQuarter (λ number. has c.args.set number ≡ true → pos c.args.lots ≤ℤ remaining_of s.contents.flows c.args.arc number)) (sym c.self.view_is) c.requires.room)
    c.grant_in.ensures

log : (c : goal.After-grant_in) → c.note.new.self.records ≡ c.self.inside.log.records ++ record_of c ∷ []
log c = ap (λ l. l.records) c.note.ensures

pub invariant_of-self : goal.invariant_of-self
invariant_of-self c =
    ((noted c).kept, still-goes c.self.inside.log.records c.note.new.self.records (record_of c) (contents_of c.self.inside.kept) (now c) (log c) (noted c).undone c.self.invariant.1)

pub returns-clause-back : goal.returns-clause-back
returns-clause-back c = λ target leads.
    still-leads c.self.inside.log.records c.note.new.self.records (record_of c) (contents_of c.self.inside.kept) (now c) (log c) (noted c).undone target
    (subst (λ store. GoesBackTo store target) (sym c.self.view_is) leads)

pub returns-clause-noted : goal.returns-clause-noted
returns-clause-noted c = notes-no_order _ _ _ (ap (λ (s : Store). s.changes) c.self.view_is) (record_of c) (log c) (λ part side zone. refl)
