-- What a store leads back to, after a change that was noted, and after several.
use Rattle.std.proofs.Common.{◌≡◌, List, [], ◌∷◌, ◌++◌, sym, subst}
use Rattle.hour_store.specs.declared.change.Change.{Change}
use Rattle.hour_store.specs.Contents.{Contents}
use Rattle.hour_store.specs.Inside.{CanGoBack, LogLeadsBack}
use Rattle.hour_store.specs.Store.{StillLeadsBack, Store}
use Rattle.hour_store.proofs.Leads.{IsUndoneBy, leads-noted, leads-none}

module _ (records noted : List Change) (record_of : Change) (old now : Contents) (is : noted ≡ records ++ record_of ∷ []) (undone : IsUndoneBy record_of old now) where
  -- with a change noted that is taken back, the log leads back to the same
  pub still-leads : (target : Contents) → LogLeadsBack records old target → LogLeadsBack noted now target
  still-leads target leads = subst (λ list. LogLeadsBack list now target) (sym is) (leads-noted records record_of old now target undone leads)

  pub still-goes : CanGoBack records old → CanGoBack noted now
  still-goes can = record { target = can.target; leads = still-leads can.target can.leads }

pub still-through : (old mid new : Store) → StillLeadsBack old mid → StillLeadsBack mid new → StillLeadsBack old new
still-through old mid new one two target leads = two target (one target leads)

-- with no record it leads to what is
pub goes-nowhere : (changes : List Change) (now : Contents) → changes ≡ [] → CanGoBack changes now
goes-nowhere changes now none = record { target = now; leads = subst (λ list. LogLeadsBack list now now) (sym none) (leads-none now) }
