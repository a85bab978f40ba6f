-- What is known of commands that no early rule and no rule on the state refuses, and which refusal each
-- command has.
use Rattle.std.proofs.Common.{◌≡◌, ◌∙◌, inl, inr, ℕ, ◌&&◌, true, List, [], ◌∷◌, ◌++◌, length, map, nat_lt, None, refl, sym, ap, subst}
use Rattle.std.proofs.lemmas.Bool.{ltb-true, and_parts}
use Rattle.std.specs.List.{list_all}
use Rattle.order_kinds.specs.declared.order.BlockOrder.{BlockOrder}
use Rattle.order_kinds.specs.declared.order.Order.{Order}
use Rattle.order_kinds.specs.Contract.{is_known}
use Rattle.order_kinds.specs.Order.{is_fill_or_kill}
use Rattle.order_kinds.specs.Period.{is_within}
use Rattle.order_kinds.specs.Price.{lots_in_range, price_in_range}
use Rattle.zone_graph.specs.Graph.{Graph, zone_count}
use Rattle.zone_graph.proofs.Membership.{IsIn-map}
use Rattle.market_model.specs.declared.command.Command.{Command}
use Rattle.market_model.specs.declared.command.Command.TheVariants as command
use Rattle.market_model.specs.declared.event.Event.{Event}
use Rattle.market_model.specs.declared.setup.Setup.{Setup}
use Rattle.market_model.specs.Blocks.{enter_block}
use Rattle.market_model.specs.Entering.{enter, enter_all, name_of_next}
use Rattle.market_model.specs.Grid.{graph_of}
use Rattle.market_model.specs.Market.{events_done}
use Rattle.market_model.specs.Refusals.{refusal_of_command}
use Rattle.market_model.specs.Rules.{ascends, basket_is_good}
use Rattle.market_model.specs.Sweep.{all_parts}
use Rattle.market_model.specs.WellFormed.{IsHistory, IsMarketSetup, OrderEnters}
use Rattle.market_model.specs.LetIn.{IsLetIn, IsNoEntry}
use Rattle.laws_of_market.proofs.Admitted.{NamesWhatIs, NumbersAreGood, all-pass, naming-none, numbers-none, refusal-none}
use Rattle.laws_of_market.proofs.Replies.{done-history, kills-peaks, right-within}
use Rattle.laws_of_market.proofs.Soundness.{block_fault-sound, order_fault-sound}
use Rattle.laws_of_market.proofs.Admitting.{let_in-refusal, no_entry-rules}
use Rattle.plain_matching.specs.BlockEntering.{CanEnterBlock}
use Rattle.plain_market.specs.Entering.{CanEnter}

-- ---- what the commands name

pub order-enters : (graph : Graph) (setup : Setup) (events : List Event) (caller : ℕ) (order : Order) → graph ≡ graph_of setup → IsHistory setup events
    → IsLetIn setup events caller (command.Enter order) → CanEnter graph events caller (order ∷ [])
order-enters graph setup events caller order over history let_in =
    let names : NamesWhatIs setup caller (command.Enter order) = naming-none setup caller (command.Enter order) let_in.naming in
    let numbers : NumbersAreGood (command.Enter order) = numbers-none (command.Enter order) let_in.numbers in
    let enters : (before : List Event) → OrderEnters setup before (name_of_next before order) caller order = λ before. record {
      named = refl;
      of_caller = right-within setup caller (command.Enter order) names.right;
      in_hour = all-pass (is_within 1 setup.hours) (order.contract.hour ∷ []) names.hours order.contract.hour (inl refl);
      in_part = all-pass is_known (order.contract.part ∷ []) names.parts order.contract.part (inl refl);
      in_zone = ltb-true order.zone (zone_count (graph_of setup)) (all-pass (λ zone. nat_lt zone (zone_count (graph_of setup))) (order.zone ∷ []) names.zones order.zone (inl refl));
      sound = order_fault-sound order (all-pass price_in_range (order.price ∷ []) numbers.prices order.price (inl refl))
          (all-pass lots_in_range (order.quantity ∷ []) numbers.quantities order.quantity (inl refl)) numbers.peaks;
    } in
    record {
      setup = setup;
      over = over;
      fit = history.fit;
      each = λ before other i. elim i [
        | inl is ↦ subst (λ o. OrderEnters setup before (name_of_next before o) caller o) (sym is) (enters before)
        | inr none ↦ absurd none
      ];
    }

pub block-enters : (graph : Graph) (setup : Setup) (events : List Event) (caller : ℕ) (order : BlockOrder) → graph ≡ graph_of setup → IsHistory setup events
    → IsLetIn setup events caller (command.EnterBlock order) → CanEnterBlock graph events caller order
block-enters graph setup events caller order over history let_in =
    let names : NamesWhatIs setup caller (command.EnterBlock order) = naming-none setup caller (command.EnterBlock order) let_in.naming in
    let numbers : NumbersAreGood (command.EnterBlock order) = numbers-none (command.EnterBlock order) let_in.numbers in
    record {
      setup = setup;
      over = over;
      history = history;
      enters = record {
        named = refl;
        of_caller = right-within setup caller (command.EnterBlock order) names.right;
        from_hour = all-pass (is_within 1 setup.hours) (order.first ∷ order.last ∷ []) names.hours order.first (inl refl);
        to_hour = all-pass (is_within 1 setup.hours) (order.first ∷ order.last ∷ []) names.hours order.last (inr (inl refl));
        of_period = names.period;
        in_zone = ltb-true order.zone (zone_count (graph_of setup)) (all-pass (λ zone. nat_lt zone (zone_count (graph_of setup))) (order.zone ∷ []) names.zones order.zone (inl refl));
        sound = block_fault-sound order (all-pass price_in_range (order.price ∷ []) numbers.prices order.price (inl refl))
            (all-pass lots_in_range (order.quantity ∷ []) numbers.quantities order.quantity (inl refl));
      };
    }

pub basket-good : (setup : Setup) (events : List Event) (caller : ℕ) (orders : List Order) → IsLetIn setup events caller (command.EnterBasket orders)
    → basket_is_good (command.EnterBasket orders) ≡ true
basket-good setup events caller orders let_in = (naming-none setup caller (command.EnterBasket orders) let_in.naming).basket

pub basket-enters : (graph : Graph) (setup : Setup) (events : List Event) (caller : ℕ) (orders : List Order) → graph ≡ graph_of setup → IsHistory setup events
    → IsLetIn setup events caller (command.EnterBasket orders) → CanEnter graph events caller orders
basket-enters graph setup events caller orders over history let_in =
    let given : Command = command.EnterBasket orders in
    let names : NamesWhatIs setup caller given = naming-none setup caller given let_in.naming in
    let numbers : NumbersAreGood given = numbers-none given let_in.numbers in
    let kills = (and_parts (is_within 2 8 (length orders) && ascends (map (λ (o : Order). o.contract.hour) orders))
    (list_all (λ (o : Order). is_fill_or_kill o.kind) orders) names.basket).1 in
    record {
      setup = setup;
      over = over;
      fit = history.fit;
      each = λ before order i. record {
        named = refl;
        of_caller = right-within setup caller given names.right;
        in_hour = all-pass (is_within 1 setup.hours) (map (λ (o : Order). o.contract.hour) orders) names.hours order.contract.hour
            (IsIn-map (λ (o : Order). o.contract.hour) order orders i);
        in_part = all-pass is_known (map (λ (o : Order). o.contract.part) orders) names.parts order.contract.part (IsIn-map (λ (o : Order). o.contract.part) order orders i);
        in_zone = ltb-true order.zone (zone_count (graph_of setup))
            (all-pass (λ zone. nat_lt zone (zone_count (graph_of setup))) (map (λ (o : Order). o.zone) orders) names.zones order.zone (IsIn-map (λ (o : Order). o.zone) order orders i));
        sound = order_fault-sound order
            (all-pass price_in_range (map (λ (o : Order). o.price) orders) numbers.prices order.price (IsIn-map (λ (o : Order). o.price) order orders i))
            (all-pass lots_in_range (map (λ (o : Order). o.quantity) orders) numbers.quantities order.quantity (IsIn-map (λ (o : Order). o.quantity) order orders i))
            (kills-peaks order (all-pass (λ (o : Order). is_fill_or_kill o.kind) orders kills order i));
      };
    }

-- ---- commands that enter nothing

-- whoever gives one, the same happens
whoever : (setup : Setup) (events : List Event) (one other : ℕ) (given : Command) → IsNoEntry given → events_done all_parts setup events one given ≡ events_done all_parts setup events other given
unfolding events_done
whoever setup events one other (command.Enter order) entry = absurd entry
whoever setup events one other (command.EnterBlock order) entry = absurd entry
whoever setup events one other (command.EnterBasket orders) entry = absurd entry
whoever setup events one other (command.Cancel name) entry = refl
whoever setup events one other (command.Reduce name to) entry = refl
whoever setup events one other (command.Blocks first last) entry = refl
whoever setup events one other (command.Offer from to first last lots) entry = refl
whoever setup events one other (command.Request from to first last lots) entry = refl
whoever setup events one other (command.Halt from to first last) entry = refl
whoever setup events one other (command.Resume from to first last) entry = refl
whoever setup events one other (command.Gate hour phase) entry = refl
whoever setup events one other (command.View contract side zone) entry = refl

pub no_entry-history : (setup : Setup) → IsMarketSetup setup → (events : List Event) (caller : ℕ) (given : Command) → IsHistory setup events
    → IsLetIn setup events caller given → IsNoEntry given → (anyone : ℕ) → IsHistory setup (events ++ events_done all_parts setup events anyone given)
no_entry-history setup is_setup events caller given history let_in entry anyone =
    let none : refusal_of_command setup events caller given ≡ None =
    let_in-refusal setup events caller given let_in ∙ no_entry-rules (graph_of setup) events caller given entry in
    subst (λ done. IsHistory setup (events ++ done)) (whoever setup events caller anyone given entry)
    (done-history setup is_setup all_parts events caller history given (refusal-none setup events caller given none))

-- ---- what entries bring about

pub order-done : (graph : Graph) (setup : Setup) (events : List Event) (caller : ℕ) (given : Command) (order : Order) → graph ≡ graph_of setup
    → given ≡ command.Enter order → enter all_parts graph caller order events ≡ events_done all_parts setup events caller given
unfolding events_done
order-done graph setup events caller given order over is =
    ap (λ g. enter all_parts g caller order events) over ∙ ap (events_done all_parts setup events caller) (sym is)

pub block-done : (graph : Graph) (setup : Setup) (events : List Event) (caller : ℕ) (given : Command) (order : BlockOrder) → graph ≡ graph_of setup
    → given ≡ command.EnterBlock order → enter_block all_parts graph caller order events ≡ events_done all_parts setup events caller given
unfolding events_done
block-done graph setup events caller given order over is =
    ap (λ g. enter_block all_parts g caller order events) over ∙ ap (events_done all_parts setup events caller) (sym is)

pub basket-done : (graph : Graph) (setup : Setup) (events : List Event) (caller : ℕ) (given : Command) (orders : List Order) → graph ≡ graph_of setup
    → given ≡ command.EnterBasket orders → enter_all all_parts graph caller orders events ≡ events_done all_parts setup events caller given
unfolding events_done
basket-done graph setup events caller given orders over is =
    ap (λ g. enter_all all_parts g caller orders events) over ∙ ap (events_done all_parts setup events caller) (sym is)
