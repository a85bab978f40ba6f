use Rattle.std.proofs.Common.{◌≡◌, ◌∙◌, ◌∷◌, ◌++◌, [], List, ap, refl, sym, subst}
use Rattle.block_book.specs.declared.block.RestingBlock.{RestingBlock}
use Rattle.hour_store.specs.declared.change.Change.{Change}
use Rattle.hour_store.specs.declared.change.Change.TheVariants as change
use Rattle.hour_store.specs.Contents.{Contents}
use Rattle.hour_store.specs.Inside.{CanGoBack, IsKept, LogLeadsBack, contents_of}
use Rattle.hour_store.specs.Store.{GoesBackTo, Store}
use Rattle.hour_store.proofs.Noted.{IsNotedBy, withdraw_block-noted}
use Rattle.hour_store.proofs.Noting.{notes-no_flow, notes-no_order}
use Rattle.hour_store.proofs.Stores.{still-goes, still-leads}
use Rattle.hour_store.proofs.UndoneBlocks.{no_block-withdrawn}
use Rattle.hour_store.proofs.store.HourStore.withdraw_block.Goals as goal

abbrev now : goal.After-note → Contents
now c = record { book = c.self.inside.kept.book; blocks = c.withdraw.new.self; flows = c.self.inside.kept.flows }

abbrev record_of : goal.After-note → Change
record_of c = change.BlockLeft c.in_ok-was.was'

noted : (c : goal.After-note) → IsNotedBy (record_of c) (contents_of c.self.inside.kept) (now c)
noted c =
    withdraw_block-noted (contents_of c.self.inside.kept) (now c) c.self.invariant.0 c.args.number c.in_ok-was.was' c.len.ensures.sound (sym c.in_ok-was.ensures.block) c.withdraw.ensures.without refl refl

log : (c : goal.After-note) → c.note.new.self.records ≡ c.self.inside.log.records ++ record_of c ∷ []
log c = ap (λ l. l.records) c.note.ensures

pub invariant_of-self-2 : goal.invariant_of-self-2
invariant_of-self-2 c =
    ((noted c).kept, still-goes c.self.inside.log.records c.note.new.self.records (record_of c) (contents_of c.self.inside.kept) (now c) (log c) (noted c).undone c.self.invariant.1)

pub returns-clause-back : goal.returns-clause-back
returns-clause-back c = λ target leads.
    still-leads c.self.inside.log.records c.note.new.self.records (record_of c) (contents_of c.self.inside.kept) (now c) (log c) (noted c).undone target
    (subst (λ store. GoesBackTo store target) (sym c.self.view_is) leads)

nothing : (c : goal.After-from_residual) → c.withdraw.new.self ≡ c.self.inside.kept.blocks
nothing c = c.withdraw.ensures.without ∙ no_block-withdrawn c.self.inside.kept.blocks c.args.number (sym c.in_err-was.ensures.block)

pub invariant_of-self : goal.invariant_of-self
invariant_of-self c =
    subst (λ (b : List RestingBlock). IsKept (record { book = c.self.inside.kept.book; blocks = b; flows = c.self.inside.kept.flows })
    × CanGoBack c.self.inside.log.records (record { book = c.self.inside.kept.book; blocks = b; flows = c.self.inside.kept.flows })) (sym (nothing c)) c.self.invariant

pub returns-in_err-was-clause-back : goal.returns-in_err-was-clause-back
returns-in_err-was-clause-back c = λ target leads.
    subst (λ (b : List RestingBlock). LogLeadsBack c.self.inside.log.records (record { book = c.self.inside.kept.book; blocks = b; flows = c.self.inside.kept.flows }) target)
    (sym (nothing c)) (subst (λ store. GoesBackTo store target) (sym c.self.view_is) leads)

pub returns-clause-noted : goal.returns-clause-noted
returns-clause-noted c = notes-no_order _ _ _ (ap (λ (s : Store). s.changes) c.self.view_is) (record_of c) (log c) (λ part side zone. refl)

pub returns-clause-no_flow : goal.returns-clause-no_flow
returns-clause-no_flow c = notes-no_flow _ _ _ (ap (λ (s : Store). s.changes) c.self.view_is) (record_of c) (log c) refl
