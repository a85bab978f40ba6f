-- The legs of the market's pour between two open blocks are those of the pour over the rooms of the
-- history.
use Rattle.std.proofs.Common.{◌≡◌, ◌∙◌, ℕ, ◌+◌, ◌-◌, ◌≤◌, ◌==◌, Bool, true, false, List, [], ◌∷◌, ◌++◌, fold, map, eq-eqb, eqb-true, refl, sym, ap, subst, arith}
use Rattle.std.proofs.lemmas.Bool.{eqb-false}
use Rattle.std.proofs.lemmas.List.Sums.{sum_by-cons}
use Rattle.std.specs.Option.{option_map}
use Rattle.zone_graph.specs.declared.route.Arc.{Arc}
use Rattle.zone_graph.specs.declared.route.RouteLeg.{RouteLeg}
use Rattle.zone_graph.specs.Graph.{Graph}
use Rattle.zone_graph.specs.Pour.{pour, room_after}
use Rattle.zone_graph.specs.Route.{IsIn}
use Rattle.zone_graph.proofs.Runs.{run-unique}
use Rattle.market_model.specs.declared.event.Event.{Event}
use Rattle.market_model.specs.declared.setup.Setup.{Setup}
use Rattle.market_model.specs.Blocks.{IsBlockPour, StandingBlock, block_buyer_zone, block_leg, block_leg_over, block_legs, block_seller_zone, carries_whole as all_carried, standing_block}
use Rattle.market_model.specs.Grid.{graph_of}
use Rattle.market_model.specs.History.{and_then}
use Rattle.market_model.specs.Orders.{PlacedBlock, blocks_placed, is_open, left}
use Rattle.market_model.specs.WellFormed.{IsHistory, IsMarketSetup}
use Rattle.laws_of_market.proofs.BlockSteps.{kept, step}
use Rattle.laws_of_market.proofs.Pours.{ArePair, PourKeeps, pour-run}
use Rattle.laws_of_market.proofs.Repeats.{fold-and_then}
use Rattle.route_choice.specs.Poured.{lots_of}
use Rattle.route_choice.proofs.Pours.{Poured, pour-run as poured-run, pour-within}
use Rattle.laws_of_books.specs.BlocksOf.{resting_block}
use Rattle.block_match.specs.Market.{rooms_over}
use Rattle.block_match.specs.Meeting.{carries_whole, legs_between}

-- nothing is left exactly where all is carried
none-left : (lots most : ℕ) → lots ≤ most → ((most - lots) == 0) ≡ (lots == most)
none-left lots most within = go (lots == most) refl
  where
    go : (b : Bool) → (lots == most) ≡ b → ((most - lots) == 0) ≡ b
    go true e = let same = eqb-true lots most e in eq-eqb (most - lots) 0 (omega arith)
    go false e = not-none ((most - lots) == 0) refl
      where
        not-none : (b : Bool) → ((most - lots) == 0) ≡ b → b ≡ false
        not-none false k = refl
        not-none true k =
            let none = eqb-true (most - lots) 0 k in
            let same : lots ≡ most = omega (arith, none, within) in
            absurd (eqb-false lots most e same)

module _ (setup : Setup) (is_setup : IsMarketSetup setup) (start : List Event) (history : IsHistory setup start) (taker maker : PlacedBlock)
    (is_pair : ArePair taker maker) (taker_in : IsIn taker (blocks_placed start)) (taker_open : is_open start taker.name ≡ true)
    (maker_in : IsIn maker (blocks_placed start)) (maker_open : is_open start maker.name ≡ true) where
  abbrev graph : Graph
  graph = graph_of setup

  abbrev own : StandingBlock
  own = standing_block start taker

  abbrev other : StandingBlock
  other = standing_block start maker

  abbrev from : ℕ
  from = block_seller_zone own other

  abbrev to : ℕ
  to = block_buyer_zone own other

  abbrev rooms : List Event → Arc → ℕ
  rooms V = rooms_over V taker.order.first taker.order.last

  abbrev over : RouteLeg → Event
  over = block_leg_over own other

  begun : PourKeeps setup start taker maker start
  begun = kept setup is_setup start history taker maker is_pair taker_in taker_open maker_in maker_open

  -- legs of the pour over the rooms are those of the pour between the blocks, and lower what is left
  -- of the taker by their lots
  record IsMade (V : List Event) (legs : List RouteLeg) : Type 0 where
    run : IsBlockPour graph own other V (map over legs)
    rest : left (fold and_then V (map over legs)) taker.name ≡ left V taker.name - lots_of legs

  made : (V : List Event) (legs : List RouteLeg) → PourKeeps setup start taker maker V → Poured graph from to (rooms V) (left V taker.name) legs → IsMade V legs
  unfolding block_leg
  made V [] keeps poured = record { run = ap (option_map over) poured; rest = omega arith }
  made V (leg ∷ legs) keeps poured =
      let next = step setup is_setup start history taker maker is_pair taker_in taker_open maker_in maker_open V leg keeps poured.0 in
      let later : Poured graph from to (rooms (and_then V (over leg))) (left (and_then V (over leg)) taker.name) legs =
      subst (λ r. Poured graph from to r (left (and_then V (over leg)) taker.name) legs) (sym next.lowered)
      (subst (λ n. Poured graph from to (room_after (rooms V) leg) n legs) (sym next.less) poured.1) in
      let more = made (and_then V (over leg)) legs next.keeps later in
      record {
        run = (next.is_leg, more.run);
        rest = (let less = next.less in let onward = more.rest in omega (arith, less, onward, sum_by-cons (λ (k : RouteLeg). k.lots) leg legs));
      }

  abbrev legs : List RouteLeg
  legs = pour graph (rooms start) from to (left start taker.name)

  all_made : IsMade start legs
  all_made = made start legs begun (poured-run graph from to (rooms start) (left start taker.name) is_setup)

  legs-made : block_legs graph own other start ≡ map over legs
  legs-made =
      run-unique (block_leg graph own other) and_then start (block_legs graph own other start) (map over legs)
      (pour-run setup is_setup start taker maker own other is_pair taker_in maker_in refl refl refl refl start begun) all_made.run

  -- the legs between the blocks as they rest
  pub legs-are : block_legs graph own other start ≡ map over (legs_between graph (rooms start) (resting_block start taker) (resting_block start maker))
  legs-are = legs-made

  -- carry all in the market where they do over the rooms
  pub carries-are : all_carried graph start own other ≡ carries_whole graph (rooms start) (resting_block start taker) (resting_block start maker)
  carries-are =
      ap (λ V. left V taker.name == 0) (ap (λ l. start ++ l) legs-made ∙ sym (fold-and_then start (map over legs)))
      ∙ ap (λ n. n == 0) all_made.rest
      ∙ none-left (lots_of legs) (left start taker.name) (pour-within graph (rooms start) from to (left start taker.name) is_setup)
