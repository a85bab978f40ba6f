-- Which orders an event concerns: those that it names.
use Rattle.std.proofs.Common.{◌≡◌, ◌∙◌, inl, inr, ℕ, Bool, true, false, ◌||◌, List, [], ◌∷◌, ◌++◌, refl, sym, ap, subst}
use Rattle.order_kinds.specs.Same.{same_name}
use Rattle.zone_graph.specs.Route.{IsIn}
use Rattle.market_model.specs.declared.event.Event.{Event}
use Rattle.market_model.specs.declared.event.Event.TheVariants as event
use Rattle.market_model.specs.declared.event.Leg.{Leg}
use Rattle.market_model.specs.declared.setup.Setup.{Setup}
use Rattle.market_model.specs.Orders.{Placed, PlacedBlock, block_placed_by, blocks_placed, placed, placed_by}
use Rattle.market_model.specs.WellFormed.{BlockLegFits, FitAfter}
use Rattle.laws_of_market.proofs.Growing.{fit-back}
use Rattle.laws_of_market.proofs.Members.{IsIn-filter_map, from_filter_map}
use Rattle.laws_of_market.proofs.Names.{names-once}
use Rattle.laws_of_market.proofs.Placed.{picked-stays}
use Rattle.laws_of_market.proofs.Unique.{order_is_no_block}
use Rattle.laws_of_market.proofs.Wholes.{names-other, other_name}
use Rattle.laws_of_books.proofs.Untouched.{concerns}
use Rattle.laws_of_views.specs.Changes.{is_named}

-- all events of a list are in another one
abbrev pub AreIn : (part whole : List Event) → Type 0
AreIn part whole = (e : Event) → IsIn e part → IsIn e whole

-- then so are its orders
pub placed-in : (part whole : List Event) → AreIn part whole → (order : Placed) → IsIn order (placed part) → IsIn order (placed whole)
placed-in part whole are order i =
    let from = from_filter_map placed_by order part i in IsIn-filter_map placed_by from.0 order whole (are from.0 from.1) from.2

-- what is in a list stands between a front and a back of it
between : {X : Type 0} (x : X) (xs : List X) → IsIn x xs → (front : List X) × (back : List X) × (xs ≡ front ++ x ∷ back)
between x [] i = absurd i
between x (y ∷ xs) i = elim i [
  | inl same ↦ ([], xs, ap (λ z. z ∷ xs) (sym same))
  | inr later ↦ let rest = between x xs later in (y ∷ rest.0, rest.1, ap (λ zs. y ∷ zs) rest.2)
]

or-none : (a : Bool) → a ≡ (a || false)
or-none true = refl
or-none false = refl

module _ (setup : Setup) (events : List Event) (fit : FitAfter setup [] events) where
  -- the blocks of a leg of blocks are no order
  block_leg-apart : (front back : List Event) (first last : ℕ) (leg : Leg) → events ≡ front ++ event.BlockLeg first last leg ∷ back
      → (order : Placed) → IsIn order (placed events) → concerns order.name (event.BlockLeg first last leg) ≡ false
  block_leg-apart front back first last leg whole order there =
      let fits : BlockLegFits setup front first last leg = (fit-back setup [] front (event.BlockLeg first last leg ∷ back) (subst (λ es. FitAfter setup [] es) whole fit)).0 in
      let stays = λ (block : PlacedBlock) (i : IsIn block (blocks_placed front)).
      subst (λ es. IsIn block (blocks_placed es)) (sym whole) (picked-stays block_placed_by block front (event.BlockLeg first last leg ∷ back) i) in
      let once = names-once setup events fit in
      names-other leg order.name
      (λ same. order_is_no_block events once order fits.taker there (stays fits.taker fits.taker_open.is_placed) (sym (fits.taker_open.is_named ∙ same)))
      (λ same. order_is_no_block events once order fits.maker there (stays fits.maker fits.maker_open.is_placed) (sym (fits.maker_open.is_named ∙ same)))

  -- an event of a history whose events fit concerns those orders that it names
  pub concerned-named : (e : Event) → IsIn e events → (order : Placed) → IsIn order (placed events) → concerns order.name e ≡ is_named e order
  concerned-named (event.Entered name caller entering) i order there = or-none (same_name name order.name)
  concerned-named (event.EnteredBlock name caller entering) i order there =
      let block : PlacedBlock = record { name = name; caller = caller; order = entering } in
      other_name name order.name (λ same. order_is_no_block events (names-once setup events fit) order block there
      (IsIn-filter_map block_placed_by (event.EnteredBlock name caller entering) block events i refl) (sym same))
  concerned-named (event.Leg contract leg) i order there = ap (λ b. same_name leg.taker order.name || b) (or-none (same_name leg.maker order.name))
  concerned-named (event.BlockLeg first last leg) i order there =
      let parts = between (event.BlockLeg first last leg) events i in block_leg-apart parts.0 parts.1 first last leg parts.2 order there
  concerned-named (event.Withdrawn name lots) i order there = or-none (same_name name order.name)
  concerned-named (event.Reduced name by) i order there = or-none (same_name name order.name)
  concerned-named _ i order there = refl
