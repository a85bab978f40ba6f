-- Where a log leads back to, with one more record, and with one less.
use Rattle.std.proofs.Common.{◌≡◌, List, [], ◌∷◌, ◌++◌, reverse, sym, subst}
use Rattle.std.proofs.lemmas.List.{reverse-append}
use Rattle.hour_store.specs.declared.change.Change.{Change}
use Rattle.hour_store.specs.Contents.{AreSame, Contents}
use Rattle.hour_store.specs.Inside.{LogLeadsBack}
use Rattle.hour_store.specs.TakenBack.{CanTakeBack, IsTakenBack, LeadsBack}
use Rattle.hour_store.proofs.Alike.{back-again, can-again, same-itself, same-other, same-through}

-- a record takes the contents of now back to what they were
pub record IsUndoneBy (record_of : Change) (old now : Contents) : Type 0 where
  pub can : CanTakeBack record_of now
  pub was : IsTakenBack record_of now old
  pub back : (before : Contents) → IsTakenBack record_of now before → AreSame old before

-- contents that say the same lead back to the same
pub leads-again : (records : List Change) (a b target : Contents) → AreSame a b → LeadsBack records a target → LeadsBack records b target
unfolding LeadsBack
leads-again [] a b target same leads = same-through target a b leads same
leads-again (last ∷ records) a b target same leads = (
  can-again a b same last leads.0,
  (leads.1.0, back-again b a (same-other a b same) last leads.1.0 leads.1.1),
  λ before back. leads.2 before (back-again a b same last before back),
)

-- no record leads back to what is
pub leads-none : (now : Contents) → LogLeadsBack [] now now
unfolding LeadsBack
leads-none now = same-itself now

pub led-none : (now target : Contents) → LogLeadsBack [] now target → AreSame target now
unfolding LeadsBack
led-none now target leads = leads

last-first : (records : List Change) (last : Change) → reverse (records ++ last ∷ []) ≡ last ∷ reverse records
last-first records last = reverse-append records (last ∷ [])

-- with one more record a log leads back to the same
pub leads-noted : (records : List Change) (last : Change) (old now target : Contents) → IsUndoneBy last old now → LogLeadsBack records old target → LogLeadsBack (records ++ last ∷ []) now target
unfolding LeadsBack
leads-noted records last old now target undone leads =
    subst (λ list. LeadsBack list now target) (sym (last-first records last))
    (undone.can, (old, undone.was), λ before back. leads-again (reverse records) old before target (undone.back before back) leads)

-- the last record can be taken back, and then the others lead back to the same
pub led-noted : (records : List Change) (last : Change) (now target : Contents) → LogLeadsBack (records ++ last ∷ []) now target
    → CanTakeBack last now × ((before : Contents) × IsTakenBack last now before) × ((before : Contents) → IsTakenBack last now before → LogLeadsBack records before target)
unfolding LeadsBack
led-noted records last now target leads = subst (λ list. LeadsBack list now target) (last-first records last) leads
