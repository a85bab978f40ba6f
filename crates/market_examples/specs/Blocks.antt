-- Worked sessions and their journals.
use Rattle.std.specs.Prelude.{ℕ, List, [], ◌∷◌, codes}
use Rattle.order_kinds.specs.Period.{quarter_of}
use Rattle.market_model.specs.Market.{Turn}
use Rattle.market_examples.specs.Words.{A, B, C, D, DE, FR, ann, blocks, bob, buy_block, by, cat, closed, gate, offer, request, sell_block, tso}

-- Blocks that rest trade once capacity is there in every quarter, when they are asked to.
abbrev pub blocks_matched_later : List Turn
blocks_matched_later =
    by tso (offer DE FR (quarter_of 10 1) (quarter_of 13 4) 50)
    ∷ by tso (offer DE FR (quarter_of 12 3) (quarter_of 12 3) 49)
    ∷ by ann (sell_block 10 13 DE 50 4000)
    ∷ by bob (buy_block 10 13 FR 50 4500)
    ∷ by tso (offer DE FR (quarter_of 12 3) (quarter_of 12 3) 50)
    ∷ by bob (blocks 10 13)
    ∷ by cat (request DE FR (quarter_of 10 1) (quarter_of 13 4) 1)
    ∷ by tso (gate 13 closed)
    ∷ by bob (blocks 10 13)
    ∷ []

abbrev pub blocks_matched_later_journal : List (List ℕ)
blocks_matched_later_journal =
    codes "{\"caller\":\"tso\",\"command\":1,\"done\":[[\"offered\",\"DE>FR\",\"h10q1\",\"h13q4\",\"5.0\"]],\"entry\":1}\n"
    ∷ codes "{\"caller\":\"tso\",\"command\":2,\"done\":[[\"offered\",\"DE>FR\",\"h12q3\",\"h12q3\",\"4.9\"]],\"entry\":2}\n"
    ∷ codes "{\"caller\":\"ann\",\"command\":1,\"done\":[[\"entered\",\"h10#1\",\"h10\",\"h13\"]],\"entry\":3}\n"
    ∷ codes "{\"caller\":\"bob\",\"command\":1,\"done\":[[\"entered\",\"h10#2\",\"h10\",\"h13\"]],\"entry\":4}\n"
    ∷ codes "{\"caller\":\"tso\",\"command\":3,\"done\":[[\"offered\",\"DE>FR\",\"h12q3\",\"h12q3\",\"5.0\"]],\"entry\":5}\n"
    ∷ codes "{\"caller\":\"bob\",\"command\":2,\"done\":[[\"blockleg\",\"h10#2\",\"h10#1\",\"5.0\",\"40.00\",[\"DE>FR\"]]],\"entry\":6}\n"
    ∷ codes "{\"caller\":\"cat\",\"command\":1,\"entry\":7,\"refused\":[\"NoRoom\",\"h10q1\",\"0.0\"]}\n"
    ∷ codes "{\"caller\":\"tso\",\"command\":4,\"done\":[[\"gated\",\"h13\",\"closed\"]],\"entry\":8}\n"
    ∷ codes "{\"caller\":\"bob\",\"command\":3,\"entry\":9,\"refused\":[\"Closed\",\"h13\"]}\n"
    ∷ []

-- A block is poured over as many routes as it takes, or does not trade.
abbrev pub block_over_two_routes : List Turn
block_over_two_routes =
    by tso (offer A B (quarter_of 10 1) (quarter_of 11 4) 30)
    ∷ by tso (offer A C (quarter_of 10 1) (quarter_of 11 4) 30)
    ∷ by tso (offer B D (quarter_of 10 1) (quarter_of 11 4) 30)
    ∷ by tso (offer C D (quarter_of 10 1) (quarter_of 11 4) 30)
    ∷ by ann (sell_block 10 11 A 50 4000)
    ∷ by bob (buy_block 10 11 D 50 4500)
    ∷ []

abbrev pub block_over_two_routes_journal : List (List ℕ)
block_over_two_routes_journal =
    codes "{\"caller\":\"tso\",\"command\":1,\"done\":[[\"offered\",\"A>B\",\"h10q1\",\"h11q4\",\"3.0\"]],\"entry\":1}\n"
    ∷ codes "{\"caller\":\"tso\",\"command\":2,\"done\":[[\"offered\",\"A>C\",\"h10q1\",\"h11q4\",\"3.0\"]],\"entry\":2}\n"
    ∷ codes "{\"caller\":\"tso\",\"command\":3,\"done\":[[\"offered\",\"B>D\",\"h10q1\",\"h11q4\",\"3.0\"]],\"entry\":3}\n"
    ∷ codes "{\"caller\":\"tso\",\"command\":4,\"done\":[[\"offered\",\"C>D\",\"h10q1\",\"h11q4\",\"3.0\"]],\"entry\":4}\n"
    ∷ codes "{\"caller\":\"ann\",\"command\":1,\"done\":[[\"entered\",\"h10#1\",\"h10\",\"h11\"]],\"entry\":5}\n"
    ∷ codes "{\"caller\":\"bob\",\"command\":1,\"done\":[[\"entered\",\"h10#2\",\"h10\",\"h11\"],[\"blockleg\",\"h10#2\",\"h10#1\",\"3.0\",\"40.00\",[\"A>B\",\"B>D\"]],[\"blockleg\",\"h10#2\",\"h10#1\",\"2.0\",\"40.00\",[\"A>C\",\"C>D\"]]],\"entry\":6}\n"
    ∷ []
