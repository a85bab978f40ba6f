-- An order behind another of its zone in a line can only do worse.
use Rattle.std.proofs.Common.{◌≡◌, ◌∙◌, ◌&&◌, inl, inr, Bool, true, false, cond, List, [], ◌∷◌, find, Some, None, ℤ, ◌≤ℤ◌, ◌<ℤ◌, int_le, refl, sym, ap, subst, if◌then◌else◌, arith}
use Rattle.std.proofs.lemmas.Bool.{and_from, and_parts, false_from_ne_true, true≢false}
use Rattle.std.specs.Cmp.{int_ranks}
use Rattle.std.specs.Option.{option_and_then}
use Rattle.std.specs.Ordering.{MatchOrdering, int_cmp, is_lt, ordering_then}
use Rattle.std.specs.declared.cmp.Ordering.{Ordering}
use Rattle.std.specs.declared.cmp.Ordering.TheVariants.{Less, Equal, Greater}
use Rattle.order_kinds.specs.declared.contract.Contract.{Contract}
use Rattle.order_kinds.specs.declared.price.Price.{Price}
use Rattle.order_kinds.specs.declared.side.Side.{Side}
use Rattle.order_kinds.specs.declared.side.Side.TheVariants.{Buy, Sell}
use Rattle.order_kinds.specs.Period.{contract_quarters}
use Rattle.order_kinds.specs.Side.{crosses, opposite, price_cmp}
use Rattle.zone_graph.specs.Graph.{Graph}
use Rattle.zone_graph.specs.Reach.{reaches}
use Rattle.zone_graph.specs.Route.{IsIn}
use Rattle.zone_graph.proofs.Finding.{find-none}
use Rattle.market_model.specs.declared.event.Event.{Event}
use Rattle.market_model.specs.Lines.{buyer_zone, can_trade, line, partner, priority_cmp, rooms_for, seller_zone, time_cmp}
use Rattle.market_model.specs.Orders.{Standing}
use Rattle.market_model.specs.Room.{room}
use Rattle.market_model.specs.Sweep.{first_answer, leg_in, leg_of_buy, or_else, resting_trade}
use Rattle.laws_of_market.proofs.Ascending.{Ascends, itself}
use Rattle.laws_of_market.proofs.Lines.{line-ascends, no_partner, priority_weak}
use Rattle.laws_of_market.proofs.Trades.{from_line}
use Rattle.laws_of_market.proofs.LocalLines.{first_answer-same}
use Rattle.laws_of_boards.specs.Fronts.{FirstBuysDecide, PartnersStandInFront, UncrossedContractsHaveNoLeg, firsts_cross, front_partner, fronts}
use Rattle.laws_of_boards.proofs.Deciding.{WorseBehind, found-in_fronts, fronts-decide, if_passes}

-- ---- prices

not_before : (a b : ℤ) → is_lt (int_cmp b a) ≡ false → a ≤ℤ b
not_before a b none = go (int_cmp b a) (int_ranks b a) none
  where
    go : (r : Ordering) → MatchOrdering r (b <ℤ a) (b ≡ a) (a <ℤ b) → is_lt r ≡ false → a ≤ℤ b
    go Less is e = absurd (true≢false e)
    go Equal is e = grind (arith, is)
    go Greater is e = grind (arith, is)

-- priority begins with the price
pub price-first : (side : Side) (a b : Standing) → is_lt (priority_cmp side b a) ≡ false → is_lt (price_cmp side b.price a.price) ≡ false
price-first side a b none = go (price_cmp side b.price a.price) (time_cmp b a) none
  where
    go : (r t : Ordering) → is_lt (ordering_then r t) ≡ false → is_lt r ≡ false
    go Less t e = e
    go Equal t e = refl
    go Greater t e = refl

-- where the price of an order does not cross, no worse one does
pub crosses-worse : (side : Side) (own a b : Price) → is_lt (price_cmp (opposite side) b a) ≡ false → crosses side own a ≡ false → crosses side own b ≡ false
crosses-worse Buy own a b worse none =
    false_from_ne_true (int_le b.0 own.0) (λ h. let least = not_before a.0 b.0 worse in true≢false (sym (le_too a.0 b.0 own.0 least h) ∙ none))
  where
    le_too : (x y z : ℤ) → x ≤ℤ y → int_le y z ≡ true → int_le x z ≡ true
    le_too x y z least h = grind (arith, least, h)
crosses-worse Sell own a b worse none =
    false_from_ne_true (int_le own.0 b.0) (λ h. let least = not_before b.0 a.0 worse in true≢false (sym (le_too own.0 b.0 a.0 least h) ∙ none))
  where
    le_too : (x y z : ℤ) → y ≤ℤ z → int_le x y ≡ true → int_le x z ≡ true
    le_too x y z least h = grind (arith, least, h)

-- ---- orders

-- the zones of a trade depend on the zone of the other order alone
one_way : (own a b : Standing) → b.order.zone ≡ a.order.zone
    → (seller_zone own b ≡ seller_zone own a) × (buyer_zone own b ≡ buyer_zone own a)
one_way own a b same = go own.order.side refl
  where
    go : (s : Side) → own.order.side ≡ s → (seller_zone own b ≡ seller_zone own a) × (buyer_zone own b ≡ buyer_zone own a)
    go Buy is = rw is (same, refl)
    go Sell is = rw is (refl, same)

-- of what stands behind an order of its zone an order can trade with no more than with that
can_trade-worse : (graph : Graph) (events : List Event) (own a b : Standing) → is_lt (priority_cmp (opposite own.order.side) b a) ≡ false → b.order.zone ≡ a.order.zone
    → can_trade graph (rooms_for events own) own a ≡ false → can_trade graph (rooms_for events own) own b ≡ false
can_trade-worse graph events own a b behind same none =
    false_from_ne_true (can_trade graph (rooms_for events own) own b) (λ h.
    let parts = and_parts (crosses own.order.side own.price b.price) (reaches graph (rooms_for events own) (seller_zone own b) (buyer_zone own b)) h in
    let zones = one_way own a b same in
    let reach : reaches graph (rooms_for events own) (seller_zone own a) (buyer_zone own a) ≡ true =
    ap (λ z. reaches graph (rooms_for events own) z (buyer_zone own a)) (sym zones.0)
    ∙ ap (λ z. reaches graph (rooms_for events own) (seller_zone own b) z) (sym zones.1) ∙ parts.1 in
    crossing reach parts.0 (crosses own.order.side own.price a.price) refl)
  where
    crossing : reaches graph (rooms_for events own) (seller_zone own a) (buyer_zone own a) ≡ true → crosses own.order.side own.price b.price ≡ true
        → (c : Bool) → crosses own.order.side own.price a.price ≡ c → ⊥
    crossing reach h true e =
        true≢false (sym (and_from (crosses own.order.side own.price a.price) (reaches graph (rooms_for events own) (seller_zone own a) (buyer_zone own a)) e reach) ∙ none)
    crossing reach h false e =
        true≢false (sym h ∙ crosses-worse own.order.side own.price a.price b.price (price-first (opposite own.order.side) a b behind) e)

-- so does a worse buy of the same zone
buy-worse : (graph : Graph) (events : List Event) (a b s : Standing) → a.order.side ≡ Buy → b.order.side ≡ Buy → b.order.contract ≡ a.order.contract → b.order.zone ≡ a.order.zone
    → is_lt (priority_cmp Buy b a) ≡ false → can_trade graph (rooms_for events a) a s ≡ false → can_trade graph (rooms_for events b) b s ≡ false
buy-worse graph events a b s on_a on_b contract zone behind none =
    false_from_ne_true (can_trade graph (rooms_for events b) b s) (λ h.
    let own : can_trade graph (rooms_for events b) b s ≡ (crosses Buy b.price s.price && reaches graph (room events (contract_quarters a.order.contract)) s.order.zone a.order.zone) =
    rw (on_b, contract, zone) refl in
    let its : can_trade graph (rooms_for events a) a s ≡ (crosses Buy a.price s.price && reaches graph (room events (contract_quarters a.order.contract)) s.order.zone a.order.zone) =
    rw on_a refl in
    let parts = and_parts (crosses Buy b.price s.price) (reaches graph (room events (contract_quarters a.order.contract)) s.order.zone a.order.zone) (sym own ∙ h) in
    let dearer = crosses-worse Sell s.price a.price b.price (price-first Buy a b behind) in
    crossing its parts.1 parts.0 dearer (crosses Buy a.price s.price) refl)
  where
    crossing : can_trade graph (rooms_for events a) a s ≡ (crosses Buy a.price s.price && reaches graph (room events (contract_quarters a.order.contract)) s.order.zone a.order.zone)
        → reaches graph (room events (contract_quarters a.order.contract)) s.order.zone a.order.zone ≡ true → crosses Buy b.price s.price ≡ true
        → (crosses Buy a.price s.price ≡ false → crosses Buy b.price s.price ≡ false) → (c : Bool) → crosses Buy a.price s.price ≡ c → ⊥
    crossing its reach h dearer true e =
        true≢false (sym (and_from (crosses Buy a.price s.price) (reaches graph (room events (contract_quarters a.order.contract)) s.order.zone a.order.zone) e reach) ∙ sym its ∙ none)
    crossing its reach h dearer false e = true≢false (sym h ∙ dearer e)

-- ---- partners

passes-none : (p : Standing → Bool) (order : Standing) → if_passes p order ≡ None → p order ≡ false
passes-none p order none = go (p order) none
  where
    go : (b : Bool) → (if b then Some order else None) ≡ None → b ≡ false
    go true e = cc
    go false e = refl

none-passes : (p : Standing → Bool) (order : Standing) → p order ≡ false → if_passes p order ≡ None
none-passes p order none = ap (λ b. if b then Some order else None) none

line-worse : (graph : Graph) (events : List Event) (own : Standing) (orders : List Standing)
    → Ascends (priority_cmp (opposite own.order.side)) (priority_weak (opposite own.order.side)) orders
    → WorseBehind (if_passes (can_trade graph (rooms_for events own) own)) orders
line-worse graph events own [] up = tt
line-worse graph events own (order ∷ orders) up = (
  λ other i same none.
      none-passes (can_trade graph (rooms_for events own) own) other
      (can_trade-worse graph events own order other (up.0 other i) same (passes-none (can_trade graph (rooms_for events own) own) order none)),
  line-worse graph events own orders up.1,
)

pub in_front : PartnersStandInFront
unfolding partner
in_front graph events own =
    let orders : List Standing = line events own.order.contract (opposite own.order.side) in
    found-in_fronts (can_trade graph (rooms_for events own) own) orders (line-worse graph events own orders (line-ascends events own.order.contract (opposite own.order.side)))

-- a buy with no partner can trade with no sell, and the other way round
nothing-found : (p : Standing → Bool) (orders : List Standing) → ((x : Standing) → IsIn x orders → p x ≡ false) → find p orders ≡ None
nothing-found p [] none = refl
nothing-found p (order ∷ orders) none =
    ap (λ b. cond b (Some order) (find p orders)) (none order (inl refl)) ∙ nothing-found p orders (λ x i. none x (inr i))

-- ---- sweeps

module _ (graph : Graph) (events : List Event) (contract : Contract) where
  abbrev buys : List Standing
  buys = line events contract Buy

  abbrev sells : List Standing
  sells = line events contract Sell

  -- what stands in the line of buys
  pub is_buy : (buy : Standing) → IsIn buy buys → (buy.order.side ≡ Buy) × (buy.order.contract ≡ contract)
  is_buy buy i =
      let stands = from_line events contract Buy buy i in
      (ap (λ (s : Standing). s.order.side) stands.is ∙ stands.on_side, ap (λ (s : Standing). s.order.contract) stands.is ∙ stands.of_contract)

  -- a buy that can trade with none has no leg, and the other way round
  pub with_none : (buy : Standing) → IsIn buy buys → ((sell : Standing) → IsIn sell sells → can_trade graph (rooms_for events buy) buy sell ≡ false) → partner graph events buy ≡ None
  unfolding partner
  with_none buy i none =
      let is = is_buy buy i in
      nothing-found (can_trade graph (rooms_for events buy) buy) (line events buy.order.contract (opposite buy.order.side))
      (λ sell j. none sell (subst (λ s. IsIn sell (line events contract (opposite s))) is.0 (subst (λ c. IsIn sell (line events c (opposite buy.order.side))) is.1 j)))

  pub trades-none : (buy : Standing) → IsIn buy buys → leg_of_buy graph events buy ≡ None → (sell : Standing) → IsIn sell sells → can_trade graph (rooms_for events buy) buy sell ≡ false
  unfolding partner
  trades-none buy i none sell j =
      let stands = from_line events contract Buy buy i in
      let is = is_buy buy i in
      let alone : partner graph events buy ≡ None =
      subst (λ s. leg_of_buy graph events s ≡ None → partner graph events s ≡ None) (sym stands.is) (no_partner graph events stands.order stands.on_side) none in
      find-none (can_trade graph (rooms_for events buy) buy) (line events buy.order.contract (opposite buy.order.side)) alone sell
      (subst (λ s. IsIn sell (line events buy.order.contract (opposite s))) (sym is.0) (subst (λ c. IsIn sell (line events c Sell)) (sym is.1) j))

  pub no_leg : (buy : Standing) → partner graph events buy ≡ None → leg_of_buy graph events buy ≡ None
  no_leg buy alone = ap (λ o. option_and_then (resting_trade graph events buy) o) alone

  buys-worse : (orders : List Standing) → Ascends (priority_cmp Buy) (priority_weak Buy) orders → ((buy : Standing) → IsIn buy orders → IsIn buy buys)
      → WorseBehind (leg_of_buy graph events) orders
  buys-worse [] up there = tt
  buys-worse (a ∷ orders) up there = (
    λ b i same none.
        let is_a = is_buy a (there a (inl refl)) in
        let is_b = is_buy b (there b (inr i)) in
        no_leg b (with_none b (there b (inr i)) (λ sell j.
        buy-worse graph events a b sell is_a.0 is_b.0 (is_b.1 ∙ sym is_a.1) same (up.0 b i) (trades-none a (there a (inl refl)) none sell j))),
    buys-worse orders up.1 (λ b i. there b (inr i)),
  )

  pub decide : leg_in graph events contract ≡ first_answer (λ buy. option_and_then (resting_trade graph events buy) (front_partner graph events buy)) (fronts buys)
  decide =
      fronts-decide (leg_of_buy graph events) buys (buys-worse buys (line-ascends events contract Buy) (λ buy i. i))
      ∙ first_answer-same (leg_of_buy graph events) (λ buy. option_and_then (resting_trade graph events buy) (front_partner graph events buy)) (fronts buys)
      (λ buy i. ap (λ o. option_and_then (resting_trade graph events buy) o) (in_front graph events buy))

  -- ---- prices that do not cross

  pub asked-none : (orders : List Standing) → ((buy : Standing) → IsIn buy orders → leg_of_buy graph events buy ≡ None) → first_answer (leg_of_buy graph events) orders ≡ None
  asked-none [] none = refl
  asked-none (order ∷ orders) none = ap (λ o. or_else o (λ _. first_answer (leg_of_buy graph events) orders)) (none order (inl refl)) ∙ asked-none orders (λ b i. none b (inr i))

  -- behind the first of an ascending line all are worse
  first-worse : (side : Side) (first other : Standing) (orders : List Standing) → Ascends (priority_cmp side) (priority_weak side) (first ∷ orders)
      → IsIn other (first ∷ orders) → is_lt (price_cmp side other.price first.price) ≡ false
  first-worse side first other orders up i = elim i [
    | inl same ↦ subst (λ (s : Standing). is_lt (price_cmp side s.price first.price) ≡ false) (sym same) (price-first side first first (itself (priority_cmp side) (priority_weak side) first))
    | inr j ↦ price-first side first other (up.0 other j)
  ]

  apart : (b s : List Standing) → Ascends (priority_cmp Buy) (priority_weak Buy) b → Ascends (priority_cmp Sell) (priority_weak Sell) s → firsts_cross b s ≡ false
      → (buy sell : Standing) → IsIn buy b → IsIn sell s → crosses Buy buy.price sell.price ≡ false
  apart [] s up_b up_s none buy sell i j = absurd i
  apart (first ∷ b) [] up_b up_s none buy sell i j = absurd j
  apart (first ∷ b) (other ∷ s) up_b up_s none buy sell i j =
      crosses-worse Sell sell.price first.price buy.price (first-worse Buy first buy b up_b i)
      (crosses-worse Buy first.price other.price sell.price (first-worse Sell other sell s up_s j) none)

  pub none-trade : firsts_cross buys sells ≡ false → leg_in graph events contract ≡ None
  none-trade none =
      asked-none buys (λ buy i. no_leg buy (with_none buy i (λ sell j.
      let is = is_buy buy i in
      let across = apart buys sells (line-ascends events contract Buy) (line-ascends events contract Sell) none buy sell i j in
      ap (λ c. c && reaches graph (rooms_for events buy) (seller_zone buy sell) (buyer_zone buy sell)) (ap (λ s. crosses s buy.price sell.price) is.0 ∙ across))))

pub first_buys : FirstBuysDecide
first_buys graph events contract = decide graph events contract

pub uncrossed : UncrossedContractsHaveNoLeg
uncrossed graph events contract none = none-trade graph events contract none
