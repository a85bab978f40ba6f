-- Worked sessions and their journals.
use Rattle.std.specs.Prelude.{ℕ, List, [], ◌∷◌, codes}
use Rattle.order_kinds.specs.Period.{quarter_of}
use Rattle.market_model.specs.Market.{Turn}
use Rattle.market_examples.specs.Words.{A, B, C, D, DE, FR, ann, bob, buy, by, cat, hour, limit, offer, quarter, request, sell, tso}

-- A buyer takes over the best route until it is full, and then over the next best.
abbrev pub two_routes : List Turn
two_routes =
    by tso (offer A B (quarter_of 12 1) (quarter_of 12 4) 60)
    ∷ by tso (offer A C (quarter_of 12 1) (quarter_of 12 4) 60)
    ∷ by tso (offer B D (quarter_of 12 1) (quarter_of 12 4) 60)
    ∷ by tso (offer C D (quarter_of 12 1) (quarter_of 12 4) 60)
    ∷ by ann (sell limit (hour 12) A 100 4000)
    ∷ by bob (buy limit (hour 12) D 100 4500)
    ∷ []

abbrev pub two_routes_journal : List (List ℕ)
two_routes_journal =
    codes "{\"caller\":\"tso\",\"command\":1,\"done\":[[\"offered\",\"A>B\",\"h12q1\",\"h12q4\",\"6.0\"]],\"entry\":1}\n"
    ∷ codes "{\"caller\":\"tso\",\"command\":2,\"done\":[[\"offered\",\"A>C\",\"h12q1\",\"h12q4\",\"6.0\"]],\"entry\":2}\n"
    ∷ codes "{\"caller\":\"tso\",\"command\":3,\"done\":[[\"offered\",\"B>D\",\"h12q1\",\"h12q4\",\"6.0\"]],\"entry\":3}\n"
    ∷ codes "{\"caller\":\"tso\",\"command\":4,\"done\":[[\"offered\",\"C>D\",\"h12q1\",\"h12q4\",\"6.0\"]],\"entry\":4}\n"
    ∷ codes "{\"caller\":\"ann\",\"command\":1,\"done\":[[\"entered\",\"h12#1\",\"h12\"]],\"entry\":5}\n"
    ∷ codes "{\"caller\":\"bob\",\"command\":1,\"done\":[[\"entered\",\"h12#2\",\"h12\"],[\"leg\",\"h12#2\",\"h12#1\",\"6.0\",\"40.00\",[\"A>B\",\"B>D\"]],[\"leg\",\"h12#2\",\"h12#1\",\"4.0\",\"40.00\",[\"A>C\",\"C>D\"]]],\"entry\":6}\n"
    ∷ []

-- A trade in one direction opens the other one, and the flow is netted.
abbrev pub netting : List Turn
netting =
    by tso (offer DE FR (quarter_of 12 1) (quarter_of 12 4) 50)
    ∷ by ann (sell limit (hour 12) DE 50 4000)
    ∷ by bob (buy limit (hour 12) FR 50 4000)
    ∷ by ann (sell limit (hour 12) FR 50 4000)
    ∷ by bob (buy limit (hour 12) DE 50 4000)
    ∷ by cat (request DE FR (quarter_of 12 1) (quarter_of 12 4) 50)
    ∷ []

abbrev pub netting_journal : List (List ℕ)
netting_journal =
    codes "{\"caller\":\"tso\",\"command\":1,\"done\":[[\"offered\",\"DE>FR\",\"h12q1\",\"h12q4\",\"5.0\"]],\"entry\":1}\n"
    ∷ codes "{\"caller\":\"ann\",\"command\":1,\"done\":[[\"entered\",\"h12#1\",\"h12\"]],\"entry\":2}\n"
    ∷ codes "{\"caller\":\"bob\",\"command\":1,\"done\":[[\"entered\",\"h12#2\",\"h12\"],[\"leg\",\"h12#2\",\"h12#1\",\"5.0\",\"40.00\",[\"DE>FR\"]]],\"entry\":3}\n"
    ∷ codes "{\"caller\":\"ann\",\"command\":2,\"done\":[[\"entered\",\"h12#3\",\"h12\"]],\"entry\":4}\n"
    ∷ codes "{\"caller\":\"bob\",\"command\":2,\"done\":[[\"entered\",\"h12#4\",\"h12\"],[\"leg\",\"h12#4\",\"h12#3\",\"5.0\",\"40.00\",[\"FR>DE\"]]],\"entry\":5}\n"
    ∷ codes "{\"caller\":\"cat\",\"command\":1,\"done\":[[\"granted\",\"DE>FR\",\"h12q1\",\"h12q4\",\"5.0\"]],\"entry\":6}\n"
    ∷ []

-- An hour goes over a border as far as its tightest quarter lets it, and its quarters over what is left.
abbrev pub quarters_share_a_border : List Turn
quarters_share_a_border =
    by tso (offer DE FR (quarter_of 12 1) (quarter_of 12 2) 80)
    ∷ by tso (offer DE FR (quarter_of 12 3) (quarter_of 12 3) 30)
    ∷ by tso (offer DE FR (quarter_of 12 4) (quarter_of 12 4) 80)
    ∷ by ann (sell limit (hour 12) DE 100 4000)
    ∷ by bob (buy limit (hour 12) FR 100 4000)
    ∷ by ann (sell limit (quarter 12 1) DE 60 3000)
    ∷ by bob (buy limit (quarter 12 1) FR 60 3000)
    ∷ by ann (sell limit (quarter 12 3) DE 60 3000)
    ∷ by bob (buy limit (quarter 12 3) FR 60 3000)
    ∷ []

abbrev pub quarters_share_a_border_journal : List (List ℕ)
quarters_share_a_border_journal =
    codes "{\"caller\":\"tso\",\"command\":1,\"done\":[[\"offered\",\"DE>FR\",\"h12q1\",\"h12q2\",\"8.0\"]],\"entry\":1}\n"
    ∷ codes "{\"caller\":\"tso\",\"command\":2,\"done\":[[\"offered\",\"DE>FR\",\"h12q3\",\"h12q3\",\"3.0\"]],\"entry\":2}\n"
    ∷ codes "{\"caller\":\"tso\",\"command\":3,\"done\":[[\"offered\",\"DE>FR\",\"h12q4\",\"h12q4\",\"8.0\"]],\"entry\":3}\n"
    ∷ codes "{\"caller\":\"ann\",\"command\":1,\"done\":[[\"entered\",\"h12#1\",\"h12\"]],\"entry\":4}\n"
    ∷ codes "{\"caller\":\"bob\",\"command\":1,\"done\":[[\"entered\",\"h12#2\",\"h12\"],[\"leg\",\"h12#2\",\"h12#1\",\"3.0\",\"40.00\",[\"DE>FR\"]]],\"entry\":5}\n"
    ∷ codes "{\"caller\":\"ann\",\"command\":2,\"done\":[[\"entered\",\"h12#3\",\"h12q1\"]],\"entry\":6}\n"
    ∷ codes "{\"caller\":\"bob\",\"command\":2,\"done\":[[\"entered\",\"h12#4\",\"h12q1\"],[\"leg\",\"h12#4\",\"h12#3\",\"5.0\",\"30.00\",[\"DE>FR\"]]],\"entry\":7}\n"
    ∷ codes "{\"caller\":\"ann\",\"command\":3,\"done\":[[\"entered\",\"h12#5\",\"h12q3\"]],\"entry\":8}\n"
    ∷ codes "{\"caller\":\"bob\",\"command\":3,\"done\":[[\"entered\",\"h12#6\",\"h12q3\"]],\"entry\":9}\n"
    ∷ []

-- A dearer order at home is taken before a cheaper one that no capacity reaches, and then the remote one.
abbrev pub local_and_remote : List Turn
local_and_remote =
    by ann (sell limit (hour 12) DE 50 4000)
    ∷ by ann (sell limit (hour 12) FR 50 5000)
    ∷ by bob (buy limit (hour 12) FR 50 5500)
    ∷ by tso (offer DE FR (quarter_of 12 1) (quarter_of 12 4) 50)
    ∷ by bob (buy limit (hour 12) FR 50 4100)
    ∷ []

abbrev pub local_and_remote_journal : List (List ℕ)
local_and_remote_journal =
    codes "{\"caller\":\"ann\",\"command\":1,\"done\":[[\"entered\",\"h12#1\",\"h12\"]],\"entry\":1}\n"
    ∷ codes "{\"caller\":\"ann\",\"command\":2,\"done\":[[\"entered\",\"h12#2\",\"h12\"]],\"entry\":2}\n"
    ∷ codes "{\"caller\":\"bob\",\"command\":1,\"done\":[[\"entered\",\"h12#3\",\"h12\"],[\"leg\",\"h12#3\",\"h12#2\",\"5.0\",\"50.00\",[]]],\"entry\":3}\n"
    ∷ codes "{\"caller\":\"tso\",\"command\":1,\"done\":[[\"offered\",\"DE>FR\",\"h12q1\",\"h12q4\",\"5.0\"]],\"entry\":4}\n"
    ∷ codes "{\"caller\":\"bob\",\"command\":2,\"done\":[[\"entered\",\"h12#4\",\"h12\"],[\"leg\",\"h12#4\",\"h12#1\",\"5.0\",\"40.00\",[\"DE>FR\"]]],\"entry\":5}\n"
    ∷ []

-- An offer is not lowered below what flows.
abbrev pub below_the_flow : List Turn
below_the_flow =
    by tso (offer DE FR (quarter_of 12 1) (quarter_of 12 4) 100)
    ∷ by ann (sell limit (hour 12) DE 50 4000)
    ∷ by bob (buy limit (hour 12) FR 50 4000)
    ∷ by tso (offer DE FR (quarter_of 12 1) (quarter_of 12 4) 40)
    ∷ by tso (offer DE FR (quarter_of 12 1) (quarter_of 12 4) 50)
    ∷ by cat (request DE FR (quarter_of 12 1) (quarter_of 12 1) 1)
    ∷ []

abbrev pub below_the_flow_journal : List (List ℕ)
below_the_flow_journal =
    codes "{\"caller\":\"tso\",\"command\":1,\"done\":[[\"offered\",\"DE>FR\",\"h12q1\",\"h12q4\",\"10.0\"]],\"entry\":1}\n"
    ∷ codes "{\"caller\":\"ann\",\"command\":1,\"done\":[[\"entered\",\"h12#1\",\"h12\"]],\"entry\":2}\n"
    ∷ codes "{\"caller\":\"bob\",\"command\":1,\"done\":[[\"entered\",\"h12#2\",\"h12\"],[\"leg\",\"h12#2\",\"h12#1\",\"5.0\",\"40.00\",[\"DE>FR\"]]],\"entry\":3}\n"
    ∷ codes "{\"caller\":\"tso\",\"command\":2,\"entry\":4,\"refused\":[\"BelowFlow\",\"h12q1\",\"5.0\"]}\n"
    ∷ codes "{\"caller\":\"tso\",\"command\":3,\"done\":[[\"offered\",\"DE>FR\",\"h12q1\",\"h12q4\",\"5.0\"]],\"entry\":5}\n"
    ∷ codes "{\"caller\":\"cat\",\"command\":1,\"entry\":6,\"refused\":[\"NoRoom\",\"h12q1\",\"0.0\"]}\n"
    ∷ []
