-- The legs of the pour between two blocks are those of a pour between zones, so that they carry all
-- that any flow does.
use Rattle.std.proofs.Common.{◌≡◌, ◌∙◌, inl, inr, ℕ, zero, suc, ◌+◌, ◌-◌, ◌<◌, ◌≤◌, ◌==◌, ◌&&◌, Bool, true, false, List, [], ◌∷◌, ◌++◌, find, fold, Some, eq-eqb, refl, sym, ap, subst, if◌then◌else◌, arith}
use Rattle.std.proofs.lemmas.Bool.{true≢false}
use Rattle.std.proofs.lemmas.List.Sums.{sum_by-cons}
use Rattle.order_kinds.specs.declared.price.Lots.{Lots}
use Rattle.order_kinds.specs.declared.side.Side.{Side}
use Rattle.order_kinds.specs.declared.side.Side.TheVariants.{Buy, Sell}
use Rattle.order_kinds.specs.Period.{block_quarters}
use Rattle.order_kinds.specs.Side.{crosses, opposite}
use Rattle.zone_graph.specs.declared.route.Arc.{Arc}
use Rattle.zone_graph.specs.declared.route.RouteLeg.{RouteLeg}
use Rattle.zone_graph.specs.Graph.{Graph, HasZone}
use Rattle.zone_graph.specs.Pour.{pour_leg, room_after}
use Rattle.zone_graph.specs.Route.{IsIn}
use Rattle.zone_graph.specs.Steps.{IsRun}
use Rattle.zone_graph.proofs.Membership.{IsIn-left}
use Rattle.zone_graph.proofs.Finding.{map-none}
use Rattle.market_model.specs.declared.event.Event.{Event}
use Rattle.market_model.specs.declared.setup.Setup.{Setup}
use Rattle.market_model.specs.Blocks.{StandingBlock, block_buyer_zone, block_leg, block_leg_over, block_legs, block_line, block_partner, block_seller_zone, can_trade_blocks, carries_whole, standing_block}
use Rattle.market_model.specs.Grid.{graph_of}
use Rattle.market_model.specs.History.{and_then}
use Rattle.market_model.specs.Orders.{PlacedBlock, blocks_placed, is_open, left}
use Rattle.market_model.specs.Room.{room}
use Rattle.market_model.specs.WellFormed.{IsHistory, IsMarketSetup}
use Rattle.laws_of_market.proofs.BlockDeals.{IsInBlockLine, from_block_line}
use Rattle.laws_of_market.proofs.BlockSteps.{kept, step}
use Rattle.laws_of_market.proofs.Placed.{all_are_sound}
use Rattle.laws_of_market.proofs.Pours.{ArePair, PourKeeps, pour-run}
use Rattle.laws_of_market.proofs.Repeats.{fold-and_then, map-some}
use Rattle.route_choice.specs.Poured.{lots_of}
use Rattle.route_choice.proofs.Flows.{flow_or_all}
use Rattle.route_choice.proofs.Pours.{Poured, most_of_run}
use Rattle.laws_of_maximum.specs.Passed.{BlocksArePassedOverForWantOfRoom, IsBlockFlow, WouldTrade, first_block}

-- a search passes over a front, for none of which the test holds, and finds the first behind it
record FindsBehind (p : StandingBlock → Bool) (xs : List StandingBlock) : Type 0 where
  passed : List StandingBlock
  behind : List StandingBlock
  parts : xs ≡ passed ++ behind
  found : find p xs ≡ first_block behind
  none : (x : StandingBlock) → IsIn x passed → p x ≡ false

finds_behind : (p : StandingBlock → Bool) (xs : List StandingBlock) → FindsBehind p xs
finds_behind p [] = record { passed = []; behind = []; parts = refl; found = refl; none = λ x i. absurd i }
finds_behind p (x ∷ xs) = by (p x) refl (finds_behind p xs)
  where
    by : (b : Bool) → p x ≡ b → FindsBehind p xs → FindsBehind p (x ∷ xs)
    by true is rest = record { passed = []; behind = x ∷ xs; parts = refl; found = ap (λ b. if b then Some x else find p xs) is; none = λ y i. absurd i }
    by false is rest = record {
      passed = x ∷ rest.passed;
      behind = rest.behind;
      parts = ap (λ l. x ∷ l) rest.parts;
      found = ap (λ b. if b then Some x else find p xs) is ∙ rest.found;
      none = λ y i. elim i [ inl same ↦ ap p same ∙ is | inr later ↦ rest.none y later ];
    }

module _ (setup : Setup) (is_setup : IsMarketSetup setup) (start : List Event) (history : IsHistory setup start) (taker maker : PlacedBlock)
    (is_pair : ArePair taker maker) (taker_in : IsIn taker (blocks_placed start)) (taker_open : is_open start taker.name ≡ true)
    (maker_in : IsIn maker (blocks_placed start)) (maker_open : is_open start maker.name ≡ true) where
  abbrev graph : Graph
  graph = graph_of setup

  abbrev own : StandingBlock
  own = standing_block start taker

  abbrev other : StandingBlock
  other = standing_block start maker

  abbrev from : ℕ
  from = block_seller_zone own other

  abbrev to : ℕ
  to = block_buyer_zone own other

  abbrev rooms : List Event → Arc → ℕ
  rooms V = room V (block_quarters taker.order.first taker.order.last)

  begun : PourKeeps setup start taker maker start
  begun = kept setup is_setup start history taker maker is_pair taker_in taker_open maker_in maker_open

  -- legs of the pour between the blocks as those of a pour of what is left of the taker
  record ArePoured (V : List Event) (legs : List Event) : Type 0 where
    carried : List RouteLeg
    poured : Poured graph from to (rooms V) (left V taker.name) carried
    lots : lots_of carried + left (fold and_then V legs) taker.name ≡ left V taker.name

  are_poured : (V : List Event) (legs : List Event) → PourKeeps setup start taker maker V → IsRun (block_leg graph own other) and_then V legs → ArePoured V legs
  unfolding block_leg
  are_poured V [] keeps run = record {
    carried = [];
    poured = map-none (block_leg_over own other) (pour_leg graph (rooms V) from to (left V taker.name)) run;
    lots = omega arith;
  }
  are_poured V (e ∷ legs) keeps run =
      let found = map-some (block_leg_over own other) (pour_leg graph (rooms V) from to (left V taker.name)) e run.0 in
      let leg : RouteLeg = found.0 in
      let next = step setup is_setup start history taker maker is_pair taker_in taker_open maker_in maker_open V leg keeps found.1 in
      let rest = are_poured (and_then V e) legs (subst (λ x. PourKeeps setup start taker maker (and_then V x)) found.2 next.keeps) run.1 in
      let at_rooms : Poured graph from to (room_after (rooms V) leg) (left (and_then V e) taker.name) rest.carried =
      subst (λ r. Poured graph from to r (left (and_then V e) taker.name) rest.carried) (ap (λ x. rooms (and_then V x)) (sym found.2) ∙ next.lowered) rest.poured in
      let lowered : left (and_then V e) taker.name ≡ left V taker.name - leg.lots = ap (λ x. left (and_then V x) taker.name) (sym found.2) ∙ next.less in
      record {
        carried = leg ∷ rest.carried;
        poured = (found.1, subst (λ n. Poured graph from to (room_after (rooms V) leg) n rest.carried) lowered at_rooms);
        lots = (let later = rest.lots in let has = next.has in omega (arith, later, has, lowered, sum_by-cons (λ (k : RouteLeg). k.lots) leg rest.carried));
      }

  -- where they do not carry all, no flow does
  not_whole : carries_whole graph start own other ≡ false → HasZone graph to → (lots : ℕ) (flow : Arc → ℕ) → IsBlockFlow graph start own other lots flow → lots < taker.order.quantity.0
  not_whole part known lots flow is_flow =
      let legs = block_legs graph own other start in
      let run = pour-run setup is_setup start taker maker own other is_pair taker_in maker_in refl refl refl refl start begun in
      let all = are_poured start legs begun run in
      let whole : left start taker.name ≡ taker.order.quantity.0 = history.whole taker taker_in taker_open in
      let some : 1 ≤ left (fold and_then start legs) taker.name = rest (left (start ++ legs) taker.name) (ap (λ V. left V taker.name) (fold-and_then start legs)) part in
      let lots_all = all.lots in
      elim (flow_or_all graph (rooms start) from to (left start taker.name) lots flow all.carried is_setup known
      (most_of_run graph from to (rooms start) (left start taker.name) all.carried is_setup known all.poured) is_flow) [
        | inl every ↦ absurd (omega (arith, every, some, lots_all))
        | inr most ↦ omega (arith, most, some, lots_all, whole)
      ]
    where
      rest : (n : ℕ) → left (fold and_then start (block_legs graph own other start)) taker.name ≡ n → (n == 0) ≡ false → 1 ≤ left (fold and_then start (block_legs graph own other start)) taker.name
      rest zero is none = absurd (true≢false none)
      rest (suc n) is none = omega (arith, is)

-- so a block passes over only such
pub passed_over : BlocksArePassedOverForWantOfRoom
unfolding block_partner
passed_over setup events own is_setup history there opened =
    let graph = graph_of setup in
    let it = standing_block events own in
    let line = block_line events own.order.first own.order.last (opposite own.order.side) in
    let finds = finds_behind (can_trade_blocks graph events it) line in
    record {
      passed = finds.passed;
      behind = finds.behind;
      in_line = finds.parts;
      is_partner = finds.found;
      no_flow = λ other lots flow i would is_flow.
          let stands = from_block_line events own.order.first own.order.last (opposite own.order.side) other
          (subst (IsIn other) (sym finds.parts) (IsIn-left other finds.passed finds.behind i)) in
          at other stands would (finds.none other i) lots flow is_flow;
    }
  where
    zone_known : (maker : PlacedBlock) → IsIn maker (blocks_placed events) → HasZone (graph_of setup) (block_buyer_zone (standing_block events own) (standing_block events maker))
    zone_known maker i = by own.order.side refl
      where
        by : (side : Side) → own.order.side ≡ side → HasZone (graph_of setup) (block_buyer_zone (standing_block events own) (standing_block events maker))
        by Buy is = rw is ((all_are_sound setup events history.fit).blocks own there).in_zone
        by Sell is = rw is ((all_are_sound setup events history.fit).blocks maker i).in_zone

    -- of a block that would trade, and with which the block can trade not
    at : (other : StandingBlock) → IsInBlockLine events own.order.first own.order.last (opposite own.order.side) other → WouldTrade (standing_block events own) other
        → can_trade_blocks (graph_of setup) events (standing_block events own) other ≡ false
        → (lots : ℕ) (flow : Arc → ℕ) → IsBlockFlow (graph_of setup) events (standing_block events own) other lots flow → lots < own.order.quantity.0
    at other stands =
        subst (λ x. WouldTrade (standing_block events own) x → can_trade_blocks (graph_of setup) events (standing_block events own) x ≡ false
        → (lots : ℕ) (flow : Arc → ℕ) → IsBlockFlow (graph_of setup) events (standing_block events own) x lots flow → lots < own.order.quantity.0) (sym stands.is)
        (λ would trades_not lots flow is_flow.
        let maker = stands.block in
        let is_pair : ArePair own maker = record { one_first = stands.of_first; one_last = stands.of_last; one_quantity = would.one_quantity; opposed = stands.on_side } in
        let its = standing_block events maker in
        let whole = carries_whole (graph_of setup) events (standing_block events own) its in
        let quantity : (maker.order.quantity.0 == own.order.quantity.0) ≡ true = eq-eqb maker.order.quantity.0 own.order.quantity.0 (ap (λ (q : Lots). q.0) would.one_quantity) in
        let same : can_trade_blocks (graph_of setup) events (standing_block events own) its ≡ whole =
        ap (λ b. if b && crosses own.order.side own.order.price maker.order.price then whole else false) quantity
        ∙ ap (λ b. if b then whole else false) would.crossing in
        not_whole setup is_setup events history own maker is_pair there opened stands.is_open.is_placed stands.is_open.is_left (sym same ∙ trades_not)
        (zone_known maker stands.is_open.is_placed) lots flow is_flow)
