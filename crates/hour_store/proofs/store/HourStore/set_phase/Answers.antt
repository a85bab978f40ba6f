use Rattle.std.proofs.Common.{◌≡◌, ◌∙◌, ◌∷◌, ◌++◌, [], ap, refl, sym, subst}
use Rattle.hour_store.specs.declared.change.Change.TheVariants as change
use Rattle.hour_store.specs.Contents.{Contents}
use Rattle.hour_store.specs.Inside.{contents_of}
use Rattle.hour_store.specs.Store.{GoesBackTo, Store}
use Rattle.hour_store.proofs.Noted.{IsNotedBy, phase-noted}
use Rattle.hour_store.proofs.Noting.{notes-no_order}
use Rattle.hour_store.proofs.Stores.{still-goes, still-leads}
use Rattle.hour_store.proofs.store.HourStore.set_phase.Goals as goal

abbrev now : goal.After-set_phase → Contents
now c = record { book = c.self.inside.kept.book; blocks = c.self.inside.kept.blocks; flows = c.set_phase.new.self }

noted : (c : goal.After-set_phase) → IsNotedBy (change.PhaseSet c.self.inside.kept.flows.phase) (contents_of c.self.inside.kept) (now c)
noted c = phase-noted (contents_of c.self.inside.kept) (now c) c.self.invariant.0 (record { book = refl; blocks = refl }) c.args.phase c.set_phase.ensures

log : (c : goal.After-set_phase) → c.note.new.self.records ≡ c.self.inside.log.records ++ change.PhaseSet c.self.inside.kept.flows.phase ∷ []
log c = ap (λ l. l.records) c.note.ensures ∙ ap (λ was. c.self.inside.log.records ++ change.PhaseSet was ∷ []) c.phase-was.ensures

pub invariant_of-self : goal.invariant_of-self
invariant_of-self c = (
  (noted c).kept,
  still-goes c.self.inside.log.records c.note.new.self.records (change.PhaseSet c.self.inside.kept.flows.phase) (contents_of c.self.inside.kept) (now c) (log c) (noted c).undone c.self.invariant.1,
)

pub returns-clause-back : goal.returns-clause-back
returns-clause-back c = λ target leads.
    still-leads c.self.inside.log.records c.note.new.self.records (change.PhaseSet c.self.inside.kept.flows.phase) (contents_of c.self.inside.kept) (now c) (log c) (noted c).undone target
    (subst (λ store. GoesBackTo store target) (sym c.self.view_is) leads)

pub returns-clause-noted : goal.returns-clause-noted
returns-clause-noted c = notes-no_order _ _ _ (ap (λ (s : Store). s.changes) c.self.view_is) (change.PhaseSet c.self.inside.kept.flows.phase) (log c) (λ part side zone. refl)
