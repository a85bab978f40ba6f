-- All values of a list, as it grows.
use Rattle.std.proofs.Common.{◌≡◌, ℕ, zero, suc, ◌+◌, ◌*◌, ◌<◌, List, [], ◌∷◌, ◌++◌, length, drop, map, get_or, refl, ap, ◌∙◌, arith, Option, Some, None}
use Rattle.std.specs.List.{range_with_len}
use Rattle.std.proofs.lemmas.List.FromFn.{map-range_with_len_more, length-map-range_with_len, get_or-map-range_with_len}
use Rattle.order_kinds.specs.declared.order.Order.{Order}
use Rattle.market_model.specs.declared.command.Command.TheVariants as command
use Rattle.market_spelling.specs.Chain.{◌>>=◌}
use Rattle.command_lines.specs.CommandLines.{all_values, item_of, items_of, item_count, basket_of}

-- one value more
all_push : {A : Type 0} (options : List (Option A)) (values : List A) (value : A) → all_values options ≡ Some values
    → all_values (options ++ Some value ∷ []) ≡ Some (values ++ value ∷ [])
all_push [] values value h = let none : [] ≡ values = cc in ap (λ vs. Some (vs ++ value ∷ [])) none
all_push (None ∷ options) values value h = absurd cc
all_push {A} (Some first ∷ options) values value h = by (all_values options) h (λ vs e. all_push options vs value e) refl
  where
    by : (rest : Option (List A)) → (rest >>= λ vs. Some (first ∷ vs)) ≡ Some values
        → ((vs : List A) → all_values options ≡ Some vs → all_values (options ++ Some value ∷ []) ≡ Some (vs ++ value ∷ []))
        → all_values options ≡ rest
        → (all_values (options ++ Some value ∷ []) >>= λ vs. Some (first ∷ vs)) ≡ Some (values ++ value ∷ [])
    by None none more is = absurd cc
    by (Some vs) some more is =
        let longer : first ∷ vs ≡ values = cc in
        ap (λ o. o >>= λ ws. Some (first ∷ ws)) (more vs is) ∙ ap (λ ws. Some (ws ++ value ∷ [])) longer

-- a place without a value
all_none : {A : Type 0} (options : List (Option A)) (k : ℕ) → k < length options → get_or options k None ≡ None
    → all_values options ≡ None
all_none [] k lt none = absurd (omega arith)
all_none (None ∷ options) k lt none = refl
all_none (Some first ∷ options) zero lt none = absurd cc
all_none (Some first ∷ options) (suc k) lt none =
    ap (λ o. o >>= λ vs. Some (first ∷ vs)) (all_none options k (omega arith) none)

-- one item more
pub item_more : (count : ℕ) (zones words : List (List ℕ)) (orders : List Order) (order : Order)
    → items_of count zones words ≡ Some orders → item_of zones (drop (5 * count) words) ≡ Some order
    → items_of (count + 1) zones words ≡ Some (orders ++ order ∷ [])
unfolding items_of
item_more count zones words orders order before is =
    let item = λ (place : ℕ). item_of zones (drop (5 * place) words) in
    ap all_values (map-range_with_len_more item 0 count count (omega arith) ∙ ap (λ o. map item (range_with_len 0 count) ++ o ∷ []) is)
    ∙ all_push (map item (range_with_len 0 count)) orders order before

-- words that are no item
pub no_item : (count place : ℕ) (zones words : List (List ℕ)) → place < count → item_of zones (drop (5 * place) words) ≡ None
    → items_of count zones words ≡ None
unfolding items_of
no_item count place zones words lt none =
    let item = λ (place : ℕ). item_of zones (drop (5 * place) words) in
    let some : length (map item (range_with_len 0 count)) ≡ count = length-map-range_with_len item 0 count in
    all_none (map item (range_with_len 0 count)) place (omega arith)
    (get_or-map-range_with_len item 0 count place place None lt (omega arith) ∙ none)

-- no items
pub no_items : (zones words : List (List ℕ)) → items_of 0 zones words ≡ Some []
unfolding items_of
no_items zones words = refl

-- a basket of these items
pub basket_read : (zones words : List (List ℕ)) (size count : ℕ) (orders : List Order) → size ≡ length words
    → item_count size ≡ Some count → items_of count zones words ≡ Some orders
    → basket_of zones words ≡ Some (command.EnterBasket orders)
unfolding basket_of
basket_read zones words size count orders is counted read = rw (← is, counted, read) refl

-- words that are no items
pub basket_refused : (zones words : List (List ℕ)) (size count : ℕ) → size ≡ length words
    → item_count size ≡ Some count → items_of count zones words ≡ None → basket_of zones words ≡ None
unfolding basket_of
basket_refused zones words size count is counted none = rw (← is, counted, none) refl

-- so many words that they are no items
pub basket_unsized : (zones words : List (List ℕ)) (size : ℕ) → size ≡ length words → item_count size ≡ None
    → basket_of zones words ≡ None
unfolding basket_of
basket_unsized zones words size is none = rw (← is, none) refl
