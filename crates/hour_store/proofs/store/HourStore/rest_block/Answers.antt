use Rattle.std.proofs.Common.{◌≡◌, ◌∙◌, ◌∷◌, ◌++◌, [], ap, refl, sym, subst}
use Rattle.block_book.specs.Book.{block_of}
use Rattle.hour_store.specs.declared.change.Change.{Change}
use Rattle.hour_store.specs.declared.change.Change.TheVariants as change
use Rattle.hour_store.specs.Contents.{Contents}
use Rattle.hour_store.specs.Inside.{contents_of}
use Rattle.hour_store.specs.Store.{GoesBackTo, Store}
use Rattle.hour_store.proofs.Noted.{IsNotedBy, rest_block-noted}
use Rattle.hour_store.proofs.Noting.{notes-no_flow, notes-no_order}
use Rattle.hour_store.proofs.Stores.{still-goes, still-leads}
use Rattle.hour_store.proofs.store.HourStore.rest_block.Goals as goal

abbrev now : goal.After-note → Contents
now c = record { book = c.self.inside.kept.book; blocks = c.rest.new.self; flows = c.self.inside.kept.flows }

abbrev record_of : goal.After-note → Change
record_of c = change.BlockRested c.args.block.number

noted : (c : goal.After-note) → IsNotedBy (record_of c) (contents_of c.self.inside.kept) (now c)
noted c =
    rest_block-noted (contents_of c.self.inside.kept) (now c) c.self.invariant.0 c.args.block
    (ap (λ (s : Store). block_of s.contents.blocks c.args.block.number) c.self.view_is ∙ c.requires.absent) c.in-Ok.ensures.rests refl refl

log : (c : goal.After-note) → c.note.new.self.records ≡ c.self.inside.log.records ++ record_of c ∷ []
log c = ap (λ l. l.records) c.note.ensures

pub invariant_of-self-2 : goal.invariant_of-self-2
invariant_of-self-2 c =
    ((noted c).kept, still-goes c.self.inside.log.records c.note.new.self.records (record_of c) (contents_of c.self.inside.kept) (now c) (log c) (noted c).undone c.self.invariant.1)

pub returns-clause-back : goal.returns-clause-back
returns-clause-back c = λ target leads.
    still-leads c.self.inside.log.records c.note.new.self.records (record_of c) (contents_of c.self.inside.kept) (now c) (log c) (noted c).undone target
    (subst (λ store. GoesBackTo store target) (sym c.self.view_is) leads)

pub returns-clause-noted : goal.returns-clause-noted
returns-clause-noted c = notes-no_order _ _ _ (ap (λ (s : Store). s.changes) c.self.view_is) (record_of c) (log c) (λ part side zone. refl)

pub returns-clause-no_flow : goal.returns-clause-no_flow
returns-clause-no_flow c = notes-no_flow _ _ _ (ap (λ (s : Store). s.changes) c.self.view_is) (record_of c) (log c) refl
