-- What is known of every order and block that entered, from the event that entered it.
use Rattle.std.proofs.Common.{◌≡◌, ◌∙◌, ◌⊎◌, inl, inr, ◌<◌, true, List, [], ◌∷◌, ◌++◌, length, Option, Some, None, refl, sym, ap, subst}
use Rattle.std.proofs.lemmas.List.{append-nil}
use Rattle.std.proofs.lemmas.List.Elements.{filter_map-append}
use Rattle.std.specs.List.{cons_option, filter_map}
use Rattle.order_kinds.specs.declared.order.OrderName.{OrderName}
use Rattle.order_kinds.specs.Contract.{is_known}
use Rattle.order_kinds.specs.Order.{block_fault, order_fault}
use Rattle.order_kinds.specs.Period.{is_within}
use Rattle.zone_graph.specs.Graph.{HasZone}
use Rattle.zone_graph.specs.Route.{IsIn}
use Rattle.zone_graph.proofs.Membership.{IsIn-append, IsIn-left}
use Rattle.market_model.specs.declared.event.Event.{Event}
use Rattle.market_model.specs.declared.event.Event.TheVariants as event
use Rattle.market_model.specs.declared.setup.Setup.{Setup}
use Rattle.market_model.specs.Grid.{graph_of}
use Rattle.market_model.specs.History.{and_then}
use Rattle.market_model.specs.Orders.{Placed, PlacedBlock, block_placed_by, blocks_placed, placed, placed_by}
use Rattle.market_model.specs.Rules.{is_block_period}
use Rattle.market_model.specs.WellFormed.{FitAfter, Fits}
use Rattle.laws_of_market.proofs.Growing.{grows}

-- what one more event picks is its own or was picked before
pub from_picked-more : {Y : Type 0} (pick : Event → Option Y) (y : Y) (events : List Event) (e : Event)
    → IsIn y (filter_map pick (and_then events e)) → IsIn y (filter_map pick events) ⊎ (pick e ≡ Some y)
from_picked-more {Y} pick y events e h =
    elim (IsIn-append y (filter_map pick events) (filter_map pick (e ∷ [])) (subst (IsIn y) (filter_map-append pick events (e ∷ [])) h)) [
      | inl i ↦ inl i
      | inr i ↦ inr (own (pick e) refl i)
    ]
  where
    own : (o : Option Y) → pick e ≡ o → IsIn y (cons_option o []) → pick e ≡ Some y
    own None is i = absurd i
    own (Some z) is i = elim i [ inl s ↦ is ∙ ap Some (sym s) | inr j ↦ absurd j ]

-- what was picked stays picked
pub picked-stays : {Y : Type 0} (pick : Event → Option Y) (y : Y) (events more : List Event)
    → IsIn y (filter_map pick events) → IsIn y (filter_map pick (events ++ more))
picked-stays pick y events more h =
    subst (IsIn y) (sym (filter_map-append pick events more)) (IsIn-left y (filter_map pick events) (filter_map pick more) h)

-- an event that picks nothing changes nothing
pub picked-same : {Y : Type 0} (pick : Event → Option Y) (events : List Event) (e : Event) → pick e ≡ None
    → filter_map pick (and_then events e) ≡ filter_map pick events
picked-same pick events e none =
    rw (filter_map-append pick events (e ∷ []), none) (simp append-nil)

-- an order that entered: in an hour, a part and a zone that there are, named by its hour, with sound
-- numbers, by a known caller
pub record OrderIsSound (setup : Setup) (order : Placed) : Type 0 where
  pub named : order.name.hour ≡ order.order.contract.hour
  pub of_caller : order.caller < length setup.callers
  pub in_hour : is_within 1 setup.hours order.order.contract.hour ≡ true
  pub in_part : is_known order.order.contract.part ≡ true
  pub in_zone : HasZone (graph_of setup) order.order.zone
  pub sound : order_fault order.order ≡ None

pub record BlockIsSound (setup : Setup) (block : PlacedBlock) : Type 0 where
  pub named : block.name.hour ≡ block.order.first
  pub of_caller : block.caller < length setup.callers
  pub from_hour : is_within 1 setup.hours block.order.first ≡ true
  pub to_hour : is_within 1 setup.hours block.order.last ≡ true
  pub of_period : is_block_period block.order.first block.order.last ≡ true
  pub in_zone : HasZone (graph_of setup) block.order.zone
  pub sound : block_fault block.order ≡ None

pub record AllAreSound (setup : Setup) (events : List Event) : Type 0 where
  pub orders : (order : Placed) → IsIn order (placed events) → OrderIsSound setup order
  pub blocks : (block : PlacedBlock) → IsIn block (blocks_placed events) → BlockIsSound setup block

order_enters-sound : (setup : Setup) (before : List Event) (e : Event) (order : Placed) → Fits setup before e → placed_by e ≡ Some order → OrderIsSound setup order
order_enters-sound setup before (event.Entered name caller entering) order fits is =
    let same : record { name = name; caller = caller; order = entering } ≡ order = cc in
    subst (λ (o : Placed). OrderIsSound setup o) same (record {
      named = ap (λ (n : OrderName). n.hour) fits.named;
      of_caller = fits.of_caller;
      in_hour = fits.in_hour;
      in_part = fits.in_part;
      in_zone = fits.in_zone;
      sound = fits.sound;
    })
order_enters-sound setup before _ order fits is = absurd (cc)

block_enters-sound : (setup : Setup) (before : List Event) (e : Event) (block : PlacedBlock) → Fits setup before e → block_placed_by e ≡ Some block → BlockIsSound setup block
block_enters-sound setup before (event.EnteredBlock name caller entering) block fits is =
    let same : record { name = name; caller = caller; order = entering } ≡ block = cc in
    subst (λ (b : PlacedBlock). BlockIsSound setup b) same (record {
      named = ap (λ (n : OrderName). n.hour) fits.named;
      of_caller = fits.of_caller;
      from_hour = fits.from_hour;
      to_hour = fits.to_hour;
      of_period = fits.of_period;
      in_zone = fits.in_zone;
      sound = fits.sound;
    })
block_enters-sound setup before _ block fits is = absurd (cc)

sound-fit : (setup : Setup) (before : List Event) (e : Event) → AllAreSound setup before → Fits setup before e → AllAreSound setup (and_then before e)
sound-fit setup before e sound fits = record {
  orders = λ order h. elim (from_picked-more placed_by order before e h) [
    | inl i ↦ sound.orders order i
    | inr is ↦ order_enters-sound setup before e order fits is
  ];
  blocks = λ block h. elim (from_picked-more block_placed_by block before e h) [
    | inl i ↦ sound.blocks block i
    | inr is ↦ block_enters-sound setup before e block fits is
  ];
}

-- all that entered in a history whose events fit is sound
pub all_are_sound : (setup : Setup) (events : List Event) → FitAfter setup [] events → AllAreSound setup events
all_are_sound setup events fit =
    grows setup (AllAreSound setup) (sound-fit setup) [] events fit (record { orders = λ order h. absurd h; blocks = λ block h. absurd h })
