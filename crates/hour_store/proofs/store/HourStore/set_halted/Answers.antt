use Rattle.std.proofs.Common.{◌≡◌, ◌∙◌, ◌∷◌, ◌++◌, ◌<◌, [], ap, refl, sym, subst}
use Rattle.flow_netting.specs.Flows.{border_count, is_halted}
use Rattle.hour_store.specs.declared.change.Change.{Change}
use Rattle.hour_store.specs.declared.change.Change.TheVariants as change
use Rattle.hour_store.specs.Contents.{Contents}
use Rattle.hour_store.specs.Inside.{contents_of}
use Rattle.hour_store.specs.Store.{GoesBackTo, Store}
use Rattle.hour_store.proofs.Noted.{IsNotedBy, halt-noted}
use Rattle.hour_store.proofs.Noting.{notes-no_order}
use Rattle.hour_store.proofs.Stores.{still-goes, still-leads}
use Rattle.hour_store.proofs.store.HourStore.set_halted.Goals as goal

abbrev now : goal.After-set_halt → Contents
now c = record { book = c.self.inside.kept.book; blocks = c.self.inside.kept.blocks; flows = c.set_halt.new.flows }

abbrev record_of : goal.After-set_halt → Change
record_of c = change.HaltSet c.args.border (is_halted c.self.inside.kept.flows c.args.border)

noted : (c : goal.After-set_halt) → IsNotedBy (record_of c) (contents_of c.self.inside.kept) (now c)
noted c =
    halt-noted (contents_of c.self.inside.kept) (now c) c.self.invariant.0 (record { book = refl; blocks = refl }) c.args.border c.args.halted
    (subst (λ (s : Store). c.args.border < border_count s.contents.flows) (sym c.self.view_is) c.requires.border) c.set_halt.ensures

log : (c : goal.After-set_halt) → c.note.new.self.records ≡ c.self.inside.log.records ++ record_of c ∷ []
log c = ap (λ l. l.records) c.note.ensures
    ∙ ap (λ was. c.self.inside.log.records ++ change.HaltSet c.args.border was ∷ []) c.halted-was.ensures

pub invariant_of-self : goal.invariant_of-self
invariant_of-self c =
    ((noted c).kept, still-goes c.self.inside.log.records c.note.new.self.records (record_of c) (contents_of c.self.inside.kept) (now c) (log c) (noted c).undone c.self.invariant.1)

pub returns-clause-back : goal.returns-clause-back
returns-clause-back c = λ target leads.
    still-leads c.self.inside.log.records c.note.new.self.records (record_of c) (contents_of c.self.inside.kept) (now c) (log c) (noted c).undone target
    (subst (λ store. GoesBackTo store target) (sym c.self.view_is) leads)

pub returns-clause-noted : goal.returns-clause-noted
returns-clause-noted c = notes-no_order _ _ _ (ap (λ (s : Store). s.changes) c.self.view_is) (record_of c) (log c) (λ part side zone. refl)
