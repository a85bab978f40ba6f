-- Worked sessions and their journals.
use Rattle.std.specs.Prelude.{ℕ, List, [], ◌∷◌, codes}
use Rattle.order_kinds.specs.Period.{quarter_of}
use Rattle.market_model.specs.Market.{Turn}
use Rattle.market_examples.specs.Words.{A, B, C, D, DE, FR, ann, basket, bob, buy, buys, by, cancel, cat, fill_or_kill, hour, iceberg, immediate, item, limit, offer, order, reduce, sell, sells, tso, view_of}

-- A fill-or-kill order that cannot be filled leaves nothing but its certificate: the zones in reach and the bound.
abbrev pub unfilled_fill_or_kill : List Turn
unfilled_fill_or_kill =
    by tso (offer DE FR (quarter_of 12 1) (quarter_of 12 4) 50)
    ∷ by ann (sell limit (hour 12) DE 200 4000)
    ∷ by ann (sell limit (hour 12) FR 20 4100)
    ∷ by bob (buy fill_or_kill (hour 12) FR 100 5000)
    ∷ by bob (buy fill_or_kill (hour 12) FR 70 5000)
    ∷ []

abbrev pub unfilled_fill_or_kill_journal : List (List ℕ)
unfilled_fill_or_kill_journal =
    codes "{\"caller\":\"tso\",\"command\":1,\"done\":[[\"offered\",\"DE>FR\",\"h12q1\",\"h12q4\",\"5.0\"]],\"entry\":1}\n"
    ∷ codes "{\"caller\":\"ann\",\"command\":1,\"done\":[[\"entered\",\"h12#1\",\"h12\"]],\"entry\":2}\n"
    ∷ codes "{\"caller\":\"ann\",\"command\":2,\"done\":[[\"entered\",\"h12#2\",\"h12\"]],\"entry\":3}\n"
    ∷ codes "{\"caller\":\"bob\",\"command\":1,\"entry\":4,\"refused\":[\"Unfilled\",[\"FR\"],\"7.0\"]}\n"
    ∷ codes "{\"caller\":\"bob\",\"command\":2,\"done\":[[\"entered\",\"h12#3\",\"h12\"],[\"leg\",\"h12#3\",\"h12#1\",\"5.0\",\"40.00\",[\"DE>FR\"]],[\"leg\",\"h12#3\",\"h12#2\",\"2.0\",\"41.00\",[]]],\"entry\":5}\n"
    ∷ []

-- An iceberg shows one peak at a time, and a new peak goes behind the orders of its price.
abbrev pub iceberg_peaks : List Turn
iceberg_peaks =
    by ann (sell (iceberg 30 0) (hour 12) DE 100 5000)
    ∷ by cat (sell limit (hour 12) DE 50 5000)
    ∷ by bob (buy limit (hour 12) DE 90 5000)
    ∷ by cat (view_of (hour 12) sells DE)
    ∷ []

abbrev pub iceberg_peaks_journal : List (List ℕ)
iceberg_peaks_journal =
    codes "{\"caller\":\"ann\",\"command\":1,\"done\":[[\"entered\",\"h12#1\",\"h12\"]],\"entry\":1}\n"
    ∷ codes "{\"caller\":\"cat\",\"command\":1,\"done\":[[\"entered\",\"h12#2\",\"h12\"]],\"entry\":2}\n"
    ∷ codes "{\"caller\":\"bob\",\"command\":1,\"done\":[[\"entered\",\"h12#3\",\"h12\"],[\"leg\",\"h12#3\",\"h12#1\",\"3.0\",\"50.00\",[]],[\"leg\",\"h12#3\",\"h12#2\",\"5.0\",\"50.00\",[]],[\"leg\",\"h12#3\",\"h12#1\",\"1.0\",\"50.00\",[]]],\"entry\":3}\n"
    ∷ codes "{\"caller\":\"cat\",\"command\":2,\"entry\":4,\"rows\":[[\"50.00\",\"2.0\"]]}\n"
    ∷ []

-- Each peak of an iceberg with a delta has its own price.
abbrev pub iceberg_with_a_delta : List Turn
iceberg_with_a_delta =
    by ann (sell (iceberg 30 10) (hour 12) DE 100 5000)
    ∷ by bob (buy limit (hour 12) DE 100 5020)
    ∷ by cat (view_of (hour 12) sells DE)
    ∷ by ann (sell (iceberg 30 10) (hour 12) DE 100 999870)
    ∷ by ann (sell (iceberg 30 10) (hour 12) DE 100 999880)
    ∷ by ann (sell (iceberg 30 0) (hour 12) DE 30 6000)
    ∷ []

abbrev pub iceberg_with_a_delta_journal : List (List ℕ)
iceberg_with_a_delta_journal =
    codes "{\"caller\":\"ann\",\"command\":1,\"done\":[[\"entered\",\"h12#1\",\"h12\"]],\"entry\":1}\n"
    ∷ codes "{\"caller\":\"bob\",\"command\":1,\"done\":[[\"entered\",\"h12#2\",\"h12\"],[\"leg\",\"h12#2\",\"h12#1\",\"3.0\",\"50.00\",[]],[\"leg\",\"h12#2\",\"h12#1\",\"3.0\",\"50.10\",[]],[\"leg\",\"h12#2\",\"h12#1\",\"3.0\",\"50.20\",[]]],\"entry\":2}\n"
    ∷ codes "{\"caller\":\"cat\",\"command\":1,\"entry\":3,\"rows\":[[\"50.30\",\"1.0\"]]}\n"
    ∷ codes "{\"caller\":\"ann\",\"command\":2,\"done\":[[\"entered\",\"h12#3\",\"h12\"]],\"entry\":4}\n"
    ∷ codes "{\"caller\":\"ann\",\"command\":3,\"entry\":5,\"refused\":[\"BadPeak\"]}\n"
    ∷ codes "{\"caller\":\"ann\",\"command\":4,\"entry\":6,\"refused\":[\"BadPeak\"]}\n"
    ∷ []

-- A view shows what a taker of any quantity would take, of what is shown.
abbrev pub views : List Turn
views =
    by tso (offer DE FR (quarter_of 12 1) (quarter_of 12 4) 40)
    ∷ by ann (sell limit (hour 12) DE 100 4000)
    ∷ by ann (sell (iceberg 20 0) (hour 12) FR 90 4500)
    ∷ by bob (view_of (hour 12) sells FR)
    ∷ by bob (view_of (hour 12) buys FR)
    ∷ []

abbrev pub views_journal : List (List ℕ)
views_journal =
    codes "{\"caller\":\"tso\",\"command\":1,\"done\":[[\"offered\",\"DE>FR\",\"h12q1\",\"h12q4\",\"4.0\"]],\"entry\":1}\n"
    ∷ codes "{\"caller\":\"ann\",\"command\":1,\"done\":[[\"entered\",\"h12#1\",\"h12\"]],\"entry\":2}\n"
    ∷ codes "{\"caller\":\"ann\",\"command\":2,\"done\":[[\"entered\",\"h12#2\",\"h12\"]],\"entry\":3}\n"
    ∷ codes "{\"caller\":\"bob\",\"command\":1,\"entry\":4,\"rows\":[[\"40.00\",\"4.0\"],[\"45.00\",\"2.0\"]]}\n"
    ∷ codes "{\"caller\":\"bob\",\"command\":2,\"entry\":5,\"rows\":[]}\n"
    ∷ []

-- What is left of an order is withdrawn or reduced by its owner alone.
abbrev pub cancel_and_reduce : List Turn
cancel_and_reduce =
    by ann (sell limit (hour 12) DE 100 5000)
    ∷ by ann (cancel (order 12 1))
    ∷ by ann (cancel (order 12 1))
    ∷ by ann (sell limit (hour 12) DE 100 5000)
    ∷ by bob (cancel (order 12 2))
    ∷ by ann (reduce (order 12 2) 100)
    ∷ by ann (reduce (order 12 2) 40)
    ∷ []

abbrev pub cancel_and_reduce_journal : List (List ℕ)
cancel_and_reduce_journal =
    codes "{\"caller\":\"ann\",\"command\":1,\"done\":[[\"entered\",\"h12#1\",\"h12\"]],\"entry\":1}\n"
    ∷ codes "{\"caller\":\"ann\",\"command\":2,\"done\":[[\"withdrawn\",\"h12#1\",\"10.0\"]],\"entry\":2}\n"
    ∷ codes "{\"caller\":\"ann\",\"command\":3,\"entry\":3,\"refused\":[\"UnknownOrder\"]}\n"
    ∷ codes "{\"caller\":\"ann\",\"command\":4,\"done\":[[\"entered\",\"h12#2\",\"h12\"]],\"entry\":4}\n"
    ∷ codes "{\"caller\":\"bob\",\"command\":1,\"entry\":5,\"refused\":[\"UnknownOrder\"]}\n"
    ∷ codes "{\"caller\":\"ann\",\"command\":5,\"entry\":6,\"refused\":[\"QuantityOutOfRange\"]}\n"
    ∷ codes "{\"caller\":\"ann\",\"command\":6,\"done\":[[\"reduced\",\"h12#2\",\"6.0\"]],\"entry\":7}\n"
    ∷ []

-- What an immediate-or-cancel order leaves is withdrawn.
abbrev pub immediate_or_cancel : List Turn
immediate_or_cancel =
    by ann (sell limit (hour 12) DE 30 5000)
    ∷ by bob (buy immediate (hour 12) DE 50 5100)
    ∷ by bob (buy immediate (hour 12) DE 50 5100)
    ∷ []

abbrev pub immediate_or_cancel_journal : List (List ℕ)
immediate_or_cancel_journal =
    codes "{\"caller\":\"ann\",\"command\":1,\"done\":[[\"entered\",\"h12#1\",\"h12\"]],\"entry\":1}\n"
    ∷ codes "{\"caller\":\"bob\",\"command\":1,\"done\":[[\"entered\",\"h12#2\",\"h12\"],[\"leg\",\"h12#2\",\"h12#1\",\"3.0\",\"50.00\",[]],[\"withdrawn\",\"h12#2\",\"2.0\"]],\"entry\":2}\n"
    ∷ codes "{\"caller\":\"bob\",\"command\":2,\"done\":[[\"entered\",\"h12#3\",\"h12\"],[\"withdrawn\",\"h12#3\",\"5.0\"]],\"entry\":3}\n"
    ∷ []

-- The zones in reach and their bound on four zones.
abbrev pub zones_of_an_unfilled_order : List Turn
zones_of_an_unfilled_order =
    by tso (offer A B (quarter_of 12 1) (quarter_of 12 4) 60)
    ∷ by tso (offer B D (quarter_of 12 1) (quarter_of 12 4) 30)
    ∷ by tso (offer C D (quarter_of 12 1) (quarter_of 12 4) 20)
    ∷ by ann (sell limit (hour 12) A 200 4000)
    ∷ by bob (buy fill_or_kill (hour 12) D 100 5000)
    ∷ by bob (buy fill_or_kill (hour 12) D 30 5000)
    ∷ []

abbrev pub zones_of_an_unfilled_order_journal : List (List ℕ)
zones_of_an_unfilled_order_journal =
    codes "{\"caller\":\"tso\",\"command\":1,\"done\":[[\"offered\",\"A>B\",\"h12q1\",\"h12q4\",\"6.0\"]],\"entry\":1}\n"
    ∷ codes "{\"caller\":\"tso\",\"command\":2,\"done\":[[\"offered\",\"B>D\",\"h12q1\",\"h12q4\",\"3.0\"]],\"entry\":2}\n"
    ∷ codes "{\"caller\":\"tso\",\"command\":3,\"done\":[[\"offered\",\"C>D\",\"h12q1\",\"h12q4\",\"2.0\"]],\"entry\":3}\n"
    ∷ codes "{\"caller\":\"ann\",\"command\":1,\"done\":[[\"entered\",\"h12#1\",\"h12\"]],\"entry\":4}\n"
    ∷ codes "{\"caller\":\"bob\",\"command\":1,\"entry\":5,\"refused\":[\"Unfilled\",[\"C\",\"D\"],\"3.0\"]}\n"
    ∷ codes "{\"caller\":\"bob\",\"command\":2,\"done\":[[\"entered\",\"h12#2\",\"h12\"],[\"leg\",\"h12#2\",\"h12#1\",\"3.0\",\"40.00\",[\"A>B\",\"B>D\"]]],\"entry\":6}\n"
    ∷ []

-- The orders of a basket are all filled or all refused.
abbrev pub baskets : List Turn
baskets =
    by ann (sell limit (hour 10) DE 50 4000)
    ∷ by ann (sell limit (hour 11) DE 30 4100)
    ∷ by bob (basket (item buys (hour 10) DE 50 4500 ∷ item buys (hour 11) DE 40 4500 ∷ []))
    ∷ by bob (basket (item buys (hour 11) DE 30 4500 ∷ item buys (hour 10) DE 50 4500 ∷ []))
    ∷ by bob (basket (item buys (hour 10) DE 50 4500 ∷ item buys (hour 11) DE 30 4500 ∷ []))
    ∷ []

abbrev pub baskets_journal : List (List ℕ)
baskets_journal =
    codes "{\"caller\":\"ann\",\"command\":1,\"done\":[[\"entered\",\"h10#1\",\"h10\"]],\"entry\":1}\n"
    ∷ codes "{\"caller\":\"ann\",\"command\":2,\"done\":[[\"entered\",\"h11#1\",\"h11\"]],\"entry\":2}\n"
    ∷ codes "{\"caller\":\"bob\",\"command\":1,\"entry\":3,\"refused\":[\"BasketUnfilled\",\"h11\",[\"DE\"],\"3.0\"]}\n"
    ∷ codes "{\"caller\":\"bob\",\"command\":2,\"entry\":4,\"refused\":[\"BadBasket\"]}\n"
    ∷ codes "{\"caller\":\"bob\",\"command\":3,\"done\":[[\"entered\",\"h10#2\",\"h10\"],[\"leg\",\"h10#2\",\"h10#1\",\"5.0\",\"40.00\",[]],[\"entered\",\"h11#2\",\"h11\"],[\"leg\",\"h11#2\",\"h11#1\",\"3.0\",\"41.00\",[]]],\"entry\":5}\n"
    ∷ []
