-- A deal of two blocks is made in a kept hour.
use Rattle.std.proofs.Common.{◌≡◌, ◌≢◌, ◌∙◌, ℕ, ◌≤◌, ◌==◌, Bool, true, false, List, [], ◌∷◌, ◌++◌, append_assoc, map, None, eqb-true, eq-eqb, refl, sym, ap, subst, if◌then◌else◌, arith}
use Rattle.std.proofs.lemmas.Bool.{true≢false}
use Rattle.std.proofs.lemmas.List.{append-nil}
use Rattle.order_kinds.specs.declared.order.OrderName.{OrderName}
use Rattle.zone_graph.specs.declared.route.RouteLeg.{RouteLeg}
use Rattle.zone_graph.specs.Graph.{Graph}
use Rattle.block_book.specs.Book as block_books
use Rattle.laws_of_books.specs.BlocksOf.{blocks_of}
use Rattle.laws_of_books.specs.LegLaws.{without_both}
use Rattle.block_match.specs.declared.deal.BlockDeal.{BlockDeal}
use Rattle.block_match.specs.Market.{deal_events, leg_event}
use Rattle.laws_of_books.specs.BookOf.{book_of}
use Rattle.flow_netting.specs.Flows.{Flows}
use Rattle.laws_of_hours.specs.Standing.{Stands}
use Rattle.market_model.specs.declared.event.Event.{Event}
use Rattle.market_model.specs.declared.event.Leg.{Leg}
use Rattle.market_model.specs.Board.{IsHourOf}
use Rattle.market_model.specs.History.{and_then}
use Rattle.market_model.specs.Orders.{is_open, next_name}
use Rattle.laws_of_hours.specs.BlockLegEvents.{IsCarriedThrough}
use Rattle.laws_of_hours.specs.OrderEvents.{resting_count}
use Rattle.laws_of_hours.proofs.BlockLegs.{carried, closed_gone}
use Rattle.laws_of_hours.proofs.NextEvents.{first_of_many}
use Rattle.hour_store.specs.Store.{StillLeadsBack, Store}
use Rattle.kept_hour.specs.Deals.{AreCarried, CanCarryAll, ClosesBoth, IsDealtIn, NotesDeal}
use Rattle.kept_hour.specs.Kept.{Keeps}
use Rattle.kept_hour.specs.Planned.{CanFollow, after_events}
use Rattle.kept_hour.specs.State.{HourState}
use Rattle.kept_hour.proofs.Changing.{bare-book, few-before}
use Rattle.kept_hour.proofs.Noting.{deal-flows, noted-next, notes-plain}

-- ---- the legs, one after the other

module _ (grid : Graph) (hour first last : ℕ) (deal : BlockDeal) where
  abbrev trade : RouteLeg → Event
  trade leg = leg_event first last deal leg

  abbrev trades : List RouteLeg → List Event
  trades legs = map trade legs

  -- the leg of the market over a route
  abbrev leg_over : RouteLeg → Leg
  leg_over leg = record {
    taker = record { hour = first; number = deal.taker };
    maker = record { hour = first; number = deal.maker };
    lots = leg.lots;
    price = deal.price;
    route = leg.route;
  }

  -- the first leg of several is made, and the others can follow
  record IsFirst (leg : RouteLeg) (legs : List RouteLeg) (events : List Event) : Type 0 where
    whole : and_then events (trade leg) ++ trades legs ≡ events ++ trades (leg ∷ legs)
    rest : IsHourOf grid hour (and_then events (trade leg) ++ trades legs)
    one : IsCarriedThrough grid hour events (and_then events (trade leg)) first (leg_over leg)

  is-first : (leg : RouteLeg) (legs : List RouteLeg) (events : List Event) → IsHourOf grid hour (events ++ trades (leg ∷ legs)) → IsFirst leg legs events
  is-first leg legs events stands =
      let whole = append_assoc events (trade leg ∷ []) (trades legs) in
      let rest : IsHourOf grid hour (and_then events (trade leg) ++ trades legs) = subst (IsHourOf grid hour) (sym whole) stands in
      record {
        whole = whole;
        rest = rest;
        one = carried grid hour events first last (leg_over leg) (first_of_many grid hour (and_then events (trade leg)) (trades legs) rest);
      }

  -- what legs make of the books of an hour
  pub record IsDealt (events after : List Event) : Type 0 where
    pub book : book_of after hour ≡ book_of events hour
    pub later : hour ≢ first → blocks_of after hour ≡ blocks_of events hour
    pub others : hour ≡ first → without_both (blocks_of after hour) deal.taker deal.maker ≡ without_both (blocks_of events hour) deal.taker deal.maker
    pub few : resting_count after hour None ≤ resting_count events hour None
    pub same_next : next_name after hour ≡ next_name events hour

  pub dealt : (legs : List RouteLeg) (events : List Event) → IsHourOf grid hour (events ++ trades legs) → IsDealt events (events ++ trades legs)
  dealt [] events stands = subst (IsDealt events) (sym (append-nil events)) (record {
    book = refl;
    later = λ apart. refl;
    others = λ is. refl;
    few = omega arith;
    same_next = refl;
  })
  dealt (leg ∷ legs) events stands =
      let start = is-first leg legs events stands in
      let one = start.one in
      let rest = dealt legs (and_then events (trade leg)) start.rest in
      subst (IsDealt events) start.whole (record {
        book = rest.book ∙ one.book;
        later = λ apart. rest.later apart ∙ one.later apart;
        others = λ is. rest.others is ∙ one.others is;
        few = (let less = rest.few in let first_less = one.few in omega (arith, less, first_less));
        same_next = rest.same_next ∙ one.same_next;
      })

  -- where the two blocks start, and nothing is left of them, both are gone
  pub both-out : (events : List Event) → IsHourOf grid hour (events ++ trades deal.legs) → hour ≡ first
      → is_open (events ++ trades deal.legs) (record { hour = first; number = deal.taker }) ≡ false
      → is_open (events ++ trades deal.legs) (record { hour = first; number = deal.maker }) ≡ false
      → blocks_of (events ++ trades deal.legs) hour ≡ without_both (blocks_of events hour) deal.taker deal.maker
  both-out events stands here taker maker =
      let after : List Event = events ++ trades deal.legs in
      let gone : (number : ℕ) → is_open after (record { hour = first; number = number }) ≡ false → block_books.without (blocks_of after hour) number ≡ blocks_of after hour =
      λ number none. closed_gone grid hour after number stands (subst (λ h. is_open after (record { hour = h; number = number }) ≡ false) (sym here) none) in
      sym (ap (λ b. block_books.without b deal.maker) (gone deal.taker taker) ∙ gone deal.maker maker) ∙ (dealt deal.legs events stands).others here

  -- and of its flows
  pub can-carry : (legs : List RouteLeg) (events : List Event) (flows : Flows) → IsHourOf grid hour (events ++ trades legs) → Stands grid events hour flows
      → CanCarryAll flows legs
  can-carry [] events flows stands is = tt
  can-carry (leg ∷ legs) events flows stands is =
      let start = is-first leg legs events stands in (
        λ set of_hour. start.one.can_carry set flows is of_hour,
        λ set next of_hour carries. can-carry legs (and_then events (trade leg)) next start.rest (start.one.flows set flows next is of_hour carries),
      )

  pub stand-after : (legs : List RouteLeg) (events : List Event) (old new : Flows) → IsHourOf grid hour (events ++ trades legs) → Stands grid events hour old
      → AreCarried legs old new → Stands grid (events ++ trades legs) hour new
  stand-after [] events old new stands is same =
      subst (λ es. Stands grid es hour new) (sym (append-nil events)) (subst (Stands grid events hour) (sym same) is)
  stand-after (leg ∷ legs) events old new stands is carries =
      let start = is-first leg legs events stands in
      subst (λ es. Stands grid es hour new) start.whole
      (stand-after legs (and_then events (trade leg)) carries.1 new start.rest (start.one.flows carries.0 old carries.1 is carries.2 carries.3) carries.4)

-- ---- the hour

module _ (hour : HourState) (numbers settled_numbers : ℕ) (store : Store) (keeps : Keeps hour numbers settled_numbers store) (free : hour.board.hand ≡ None)
    (first last : ℕ) (deal : BlockDeal) (next : CanFollow hour (deal_events first last deal)) where
  abbrev after : List Event
  after = hour.board.events ++ deal_events first last deal

  pub can-carry-all : CanCarryAll store.contents.flows deal.legs
  can-carry-all = can-carry hour.board.grid hour.board.hour first last deal deal.legs hour.board.events store.contents.flows next keeps.contents.flows

  is-dealt : IsDealt hour.board.grid hour.board.hour first last deal hour.board.events after
  is-dealt = dealt hour.board.grid hour.board.hour first last deal deal.legs hour.board.events next

  blocks-after : (hour.board.hour ≡ first → ClosesBoth hour first last deal) → (starts : Bool) → (hour.board.hour == first) ≡ starts
      → (if starts then without_both store.contents.blocks deal.taker deal.maker else store.contents.blocks) ≡ blocks_of after hour.board.hour
  blocks-after whole true e =
      let out : hour.board.hour ≡ first → blocks_of after hour.board.hour ≡ without_both (blocks_of hour.board.events hour.board.hour) deal.taker deal.maker =
      λ here. both-out hour.board.grid hour.board.hour first last deal hour.board.events next here (whole here).taker (whole here).maker in
      ap (λ b. without_both b deal.taker deal.maker) keeps.contents.blocks ∙ sym (out (eqb-true hour.board.hour first e))
  blocks-after whole false e =
      keeps.contents.blocks ∙ sym (is-dealt.later (λ same. true≢false (sym (eq-eqb hour.board.hour first same) ∙ e)))

  pub dealt-keeps : (hour.board.hour ≡ first → ClosesBoth hour first last deal) → (new : Store)
      → IsDealtIn (hour.board.hour == first) deal store.contents new.contents → StillLeadsBack store new
      → NotesDeal deal store.changes new.changes → Keeps (after_events hour (deal_events first last deal)) numbers settled_numbers new
  dealt-keeps whole new made back noted = record {
    board = record {
      stands = next;
      few = (let less = is-dealt.few in let few = few-before hour numbers settled_numbers store keeps free in omega (arith, less, few));
    };
    contents = record {
      book = made.book ∙ bare-book hour numbers settled_numbers store keeps free ∙ sym is-dealt.book;
      blocks = made.blocks ∙ blocks-after whole (hour.board.hour == first) refl;
      flows = stand-after hour.board.grid hour.board.hour first last deal deal.legs hour.board.events store.contents.flows new.contents.flows next keeps.contents.flows made.flows;
    };
    numbered = (let same = ap (λ (n : OrderName). n.number) is-dealt.same_next in let now = keeps.numbered in omega (arith, same, now));
    in_hand = λ number holds. absurd (let no : ⊥ = cc in no);
    settled = keeps.settled;
    settled_numbered = keeps.settled_numbered;
    target = keeps.target;
    back = back keeps.target keeps.back;
    target_of = keeps.target_of;
    noted = noted-next hour (deal_events first last deal) None store.changes new.changes keeps.noted
        (notes-plain hour (deal_events first last deal) store.changes new.changes noted.orders (deal-flows first last deal store.changes new.changes noted));
  }
