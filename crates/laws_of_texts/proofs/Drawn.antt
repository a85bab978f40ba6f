-- Whatever is drawn, the line of each command is read.
use Rattle.std.proofs.Common.{◌≡◌, ℕ, zero, suc, ◌+◌, ◌/◌, ◌^◌, ◌<◌, ◌≤◌, Bool, true, false, List, [], ◌∷◌, ◌++◌, refl, arith, lit<, codes, decimal}
use Rattle.std.specs.Prelude.{nat_lt, if◌then◌else◌}
use Rattle.std.specs.List.{list_all}
use Rattle.std.proofs.Math.Nat.{mod-lt}
use Rattle.std.proofs.lemmas.Bool.Decides.{nat_tests}
use Rattle.order_kinds.specs.declared.contract.Part.{Part}
use Rattle.order_kinds.specs.declared.contract.Part.TheVariants as part
use Rattle.order_kinds.specs.declared.order.BlockOrder.{BlockOrder}
use Rattle.order_kinds.specs.declared.order.Kind.{Kind}
use Rattle.order_kinds.specs.declared.order.Kind.TheVariants as kind
use Rattle.order_kinds.specs.declared.order.Order.{Order}
use Rattle.order_kinds.specs.declared.price.Lots.{Lots}
use Rattle.order_kinds.specs.Contract.{hour_text, quarter_text, contract_text}
use Rattle.order_kinds.specs.Price.{lots_text, price_text}
use Rattle.order_kinds.specs.Side.{side_text}
use Rattle.market_spelling.specs.Hours.{hour_of, contract_of}
use Rattle.market_spelling.specs.Numbers.{quantity_of, price_of}
use Rattle.market_spelling.specs.declared.words.Verb.TheVariants as verb
use Rattle.command_lines.specs.Names.{place_of}
use Rattle.load_maker.specs.Draws.{number_of, state_after, draw}
use Rattle.load_maker.specs.Commands.{order_on, block_on, first_hour, entry_of, terms_from, form_of, entry_from, offer_from}
use Rattle.load_maker.specs.Lines.{spaced, zone_name, trader_name, kind_words, order_line, block_line, line_of}
use Rattle.load_maker.specs.Session.{state_before, command_line}
use Rattle.laws_of_texts.proofs.Words.{is_plain, IsRead, IsNameWord, trader_word, hour_word, whole_word, quarter_word, first_quarter, last_quarter, zone_word, arc_text, arc_word, lots_word, price_word}
use Rattle.laws_of_texts.proofs.Commands.{value_of, caller_names, IsCommand, IsKind, offer_found, enter_found, block_found, enter_verb, block_verb, offer_verb, side_plain, block_plain, iceberg, limit_words, ioc_words, fok_words, iceberg_words, operator_declared, trader_declared}

-- the words of a command with single spaces between them, of a caller whose name begins with `t`
pub record IsCommandLine (line : List ℕ) : Type 0 where
  pub name : List ℕ
  pub verb_word : List ℕ
  pub words : List (List ℕ)
  pub laid_out : line ≡ spaced ((116 ∷ name) ∷ verb_word ∷ words)
  pub plain : list_all is_plain ((116 ∷ name) ∷ verb_word ∷ words) ≡ true
  pub command : IsCommand (116 ∷ name) verb_word words

-- a draw is below its bound
draw_below : (state place bound : ℕ) → 0 < bound → draw state place bound < bound
unfolding number_of
draw_below state place bound some = mod-lt (state_after state place / 2 ^ 33) some

-- an offer
offer_line : (place state : ℕ) → place < 40 → IsCommandLine (line_of (offer_from place state))
offer_line place state few =
    let first : List ℕ = quarter_text (record { hour = 1; number = 1 }) in
    let last : List ℕ = quarter_text (record { hour = 24; number = 4 }) in
    let amount : List ℕ = lots_text (record { 0 = 500 + draw state 1 500 }) in
    let arc = arc_word place few in
    let lots = lots_word (500 + draw state 1 500) (omega (arith, draw_below state 1 500 (lit< tt))) in
    record {
      name = codes "so";
      verb_word = codes "offer";
      words = arc_text place ∷ first ∷ last ∷ amount ∷ [];
      laid_out = refl;
      plain = rw (arc.plain, first_quarter.plain, last_quarter.plain, lots.plain) refl;
      command = record {
        caller = 6;
        declared = operator_declared;
        verb = verb.Offer;
        is_verb = offer_verb;
        no_clock = refl;
        found = offer_found (arc_text place) first last amount arc first_quarter last_quarter lots;
      };
    }

-- an order of a trader
order_line_is : (trader : ℕ) (order : Order) → 1 ≤ trader → trader < 7 → IsRead contract_of (contract_text order.contract)
    → IsNameWord (zone_name order.zone) → IsRead quantity_of (lots_text order.quantity) → IsRead price_of (price_text order.price)
    → IsKind (kind_words order.kind) → IsCommandLine (order_line trader order)
order_line_is trader order from to contract zone lots price kinds =
    let caller = value_of (place_of caller_names (trader_name trader)) (trader_declared trader from to) in
    record {
      name = decimal trader;
      verb_word = side_text order.side;
      words = contract_text order.contract ∷ zone_name order.zone ∷ lots_text order.quantity ∷ price_text order.price ∷ kind_words order.kind;
      laid_out = refl;
      plain = rw (trader_word trader from to, side_plain order.side, contract.plain, zone.plain, lots.plain, price.plain, kinds.plain) refl;
      command = record {
        caller = caller.0;
        declared = caller.1;
        verb = verb.Enter order.side;
        is_verb = enter_verb order.side;
        no_clock = refl;
        found = enter_found order.side (kind_words order.kind) (contract_text order.contract) (zone_name order.zone) (lots_text order.quantity)
            (price_text order.price) kinds contract zone lots price;
      };
    }

-- a block of a trader
block_line_is : (trader : ℕ) (order : BlockOrder) → 1 ≤ trader → trader < 7 → IsRead hour_of (hour_text order.first)
    → IsRead hour_of (hour_text order.last) → IsNameWord (zone_name order.zone) → IsRead quantity_of (lots_text order.quantity)
    → IsRead price_of (price_text order.price) → IsCommandLine (block_line trader order)
block_line_is trader order from to first last zone lots price =
    let caller = value_of (place_of caller_names (trader_name trader)) (trader_declared trader from to) in
    record {
      name = decimal trader;
      verb_word = side_text order.side ++ codes "block";
      words = hour_text order.first ∷ hour_text order.last ∷ zone_name order.zone ∷ lots_text order.quantity ∷ price_text order.price ∷ [];
      laid_out = refl;
      plain = rw (trader_word trader from to, block_plain order.side, first.plain, last.plain, zone.plain, lots.plain, price.plain) refl;
      command = record {
        caller = caller.0;
        declared = caller.1;
        verb = verb.EnterBlock order.side;
        is_verb = block_verb order.side;
        no_clock = refl;
        found = block_found order.side (hour_text order.first) (hour_text order.last) (zone_name order.zone) (lots_text order.quantity)
            (price_text order.price) first last zone lots price;
      };
    }

-- what the terms that are drawn keep
record IsDrawn (state : ℕ) : Type 0 where
  trader_from : 1 ≤ (terms_from state).trader
  trader_to : (terms_from state).trader < 7
  hour_from : 1 ≤ (terms_from state).hour
  hour_to : (terms_from state).hour < 25
  zone : (terms_from state).zone < 12
  lots : (terms_from state).lots.0 < 101
  price : IsRead price_of (price_text (terms_from state).price)

terms_drawn : (state : ℕ) → IsDrawn state
terms_drawn state = record {
  trader_from = omega arith;
  trader_to = omega (arith, draw_below state 1 6 (lit< tt));
  hour_from = omega arith;
  hour_to = omega (arith, draw_below state 2 24 (lit< tt));
  zone = draw_below state 3 12 (lit< tt);
  lots = omega (arith, draw_below state 5 100 (lit< tt));
  price = price_word (4000 + draw state 6 2001) (omega arith) (omega (arith, draw_below state 6 2001 (lit< tt)));
}

-- an order on such terms
order_on_is : (state : ℕ) (own : Part) (quantity : Lots) (kind : Kind)
    → IsRead contract_of (contract_text (record { hour = (terms_from state).hour; part = own })) → quantity.0 < 1000
    → IsKind (kind_words kind) → IsCommandLine (line_of (order_on (terms_from state) own quantity kind))
order_on_is state own quantity kind contract few kinds =
    let drawn = terms_drawn state in
    let order : Order = record {
      contract = record { hour = (terms_from state).hour; part = own };
      zone = (terms_from state).zone;
      side = (terms_from state).side;
      price = (terms_from state).price;
      quantity = quantity;
      kind = kind;
    } in
    order_line_is (terms_from state).trader order drawn.trader_from drawn.trader_to contract (zone_word (terms_from state).zone drawn.zone)
    (lots_word quantity.0 few) drawn.price kinds

-- the hours of a block
first_from : (hour : ℕ) → 1 ≤ hour → 1 ≤ first_hour hour
first_from hour from = grind (arith, nat_tests)

first_to : (hour : ℕ) → hour < 25 → first_hour hour < 24
first_to hour to = grind (arith, nat_tests)

-- a block on such terms
block_on_is : (state : ℕ) → IsCommandLine (line_of (block_on (terms_from state)))
block_on_is state =
    let drawn = terms_drawn state in
    let hour : ℕ = (terms_from state).hour in
    let from = first_from hour drawn.hour_from in
    let to = first_to hour drawn.hour_to in
    let block : BlockOrder = record {
      first = first_hour hour;
      last = first_hour hour + 1;
      zone = (terms_from state).zone;
      side = (terms_from state).side;
      price = (terms_from state).price;
      quantity = record { 0 = 50 };
    } in
    block_line_is (terms_from state).trader block drawn.trader_from drawn.trader_to (hour_word (first_hour hour) from (omega (arith, to)))
    (hour_word (first_hour hour + 1) (omega arith) (omega (arith, to))) (zone_word (terms_from state).zone drawn.zone)
    (lots_word 50 (lit< tt)) drawn.price

-- an entry of each form: a limit order for an hour or for a quarter, another order for an hour, a block
entry_is_read : (form state quarter : ℕ) → form < 10 → 1 ≤ quarter → quarter < 5
    → IsCommandLine (line_of (entry_of (form_of form) (terms_from state) quarter))
entry_is_read form state quarter few from to = by form few
  where
    drawn : IsDrawn state
    drawn = terms_drawn state

    whole : IsRead contract_of (contract_text (record { hour = (terms_from state).hour; part = part.Hour }))
    whole = whole_word (terms_from state).hour drawn.hour_from drawn.hour_to

    lots : (terms_from state).lots.0 < 1000
    lots = omega (arith, drawn.lots)

    limit : IsCommandLine (line_of (order_on (terms_from state) part.Hour (terms_from state).lots kind.Limit))
    limit = order_on_is state part.Hour (terms_from state).lots kind.Limit whole lots limit_words

    by : (form : ℕ) → form < 10 → IsCommandLine (line_of (entry_of (form_of form) (terms_from state) quarter))
    by zero few = limit
    by (suc zero) few = limit
    by (suc (suc zero)) few = limit
    by (suc (suc (suc zero))) few = limit
    by (suc (suc (suc (suc zero)))) few = limit
    by (suc (suc (suc (suc (suc zero))))) few =
        order_on_is state (part.Quarter quarter) (terms_from state).lots kind.Limit
        (quarter_word (terms_from state).hour quarter drawn.hour_from drawn.hour_to from to) lots limit_words
    by (suc (suc (suc (suc (suc (suc zero)))))) few =
        order_on_is state part.Hour (terms_from state).lots kind.Ioc whole lots ioc_words
    by (suc (suc (suc (suc (suc (suc (suc zero))))))) few =
        order_on_is state part.Hour (terms_from state).lots kind.Fok whole lots fok_words
    by (suc (suc (suc (suc (suc (suc (suc (suc zero)))))))) few =
        order_on_is state part.Hour (record { 0 = (terms_from state).lots.0 + 10 }) iceberg whole (omega (arith, drawn.lots)) iceberg_words
    by (suc (suc (suc (suc (suc (suc (suc (suc (suc zero))))))))) few = block_on_is state
    by (suc (suc (suc (suc (suc (suc (suc (suc (suc (suc more)))))))))) few = absurd (omega arith)

-- the command of each place
pub command_is_read : (place : ℕ) → IsCommandLine (command_line place)
unfolding command_line
command_is_read place = by (nat_lt place 40) refl
  where
    by : (first : Bool) → nat_lt place 40 ≡ first
        → IsCommandLine (line_of (if first then offer_from place (state_before place) else entry_from (state_before place)))
    by true is = let few : place < 40 = grind (arith, nat_tests) in offer_line place (state_before place) few
    by false is =
        entry_is_read (draw (state_before place) 7 10) (state_before place) (draw (state_before place) 8 4 + 1)
        (draw_below (state_before place) 7 10 (lit< tt)) (omega arith) (omega (arith, draw_below (state_before place) 8 4 (lit< tt)))
