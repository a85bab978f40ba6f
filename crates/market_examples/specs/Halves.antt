-- Worked sessions and their journals.
use Rattle.std.specs.Prelude.{ℕ, List, [], ◌∷◌, codes}
use Rattle.order_kinds.specs.Period.{quarter_of}
use Rattle.market_model.specs.Market.{Turn}
use Rattle.market_examples.specs.Words.{DE, FR, ann, bob, buy, by, half, limit, offer, quarter, sell, tso}

-- A half hour uses the two quarters that it has.
abbrev pub half_hours : List Turn
half_hours =
    by tso (offer DE FR (quarter_of 12 1) (quarter_of 12 4) 80)
    ∷ by tso (offer DE FR (quarter_of 12 3) (quarter_of 12 3) 30)
    ∷ by ann (sell limit (half 12 2) DE 100 4000)
    ∷ by bob (buy limit (half 12 2) FR 100 4000)
    ∷ by ann (sell limit (half 12 1) DE 100 4000)
    ∷ by bob (buy limit (half 12 1) FR 100 4000)
    ∷ by ann (buy limit (half 12 3) DE 10 1000)
    ∷ []

abbrev pub half_hours_journal : List (List ℕ)
half_hours_journal =
    codes "{\"caller\":\"tso\",\"command\":1,\"done\":[[\"offered\",\"DE>FR\",\"h12q1\",\"h12q4\",\"8.0\"]],\"entry\":1}\n"
    ∷ codes "{\"caller\":\"tso\",\"command\":2,\"done\":[[\"offered\",\"DE>FR\",\"h12q3\",\"h12q3\",\"3.0\"]],\"entry\":2}\n"
    ∷ codes "{\"caller\":\"ann\",\"command\":1,\"done\":[[\"entered\",\"h12#1\",\"h12f2\"]],\"entry\":3}\n"
    ∷ codes "{\"caller\":\"bob\",\"command\":1,\"done\":[[\"entered\",\"h12#2\",\"h12f2\"],[\"leg\",\"h12#2\",\"h12#1\",\"3.0\",\"40.00\",[\"DE>FR\"]]],\"entry\":4}\n"
    ∷ codes "{\"caller\":\"ann\",\"command\":2,\"done\":[[\"entered\",\"h12#3\",\"h12f1\"]],\"entry\":5}\n"
    ∷ codes "{\"caller\":\"bob\",\"command\":2,\"done\":[[\"entered\",\"h12#4\",\"h12f1\"],[\"leg\",\"h12#4\",\"h12#3\",\"8.0\",\"40.00\",[\"DE>FR\"]]],\"entry\":6}\n"
    ∷ codes "{\"caller\":\"ann\",\"command\":3,\"entry\":7,\"refused\":[\"UnknownContract\"]}\n"
    ∷ []

-- A sweep tries the halves before the quarters.
abbrev pub halves_before_quarters : List Turn
halves_before_quarters =
    by ann (sell limit (quarter 12 1) DE 50 4000)
    ∷ by bob (buy limit (quarter 12 1) FR 50 4500)
    ∷ by ann (sell limit (half 12 1) DE 50 4000)
    ∷ by bob (buy limit (half 12 1) FR 50 4500)
    ∷ by tso (offer DE FR (quarter_of 12 1) (quarter_of 12 4) 50)
    ∷ []

abbrev pub halves_before_quarters_journal : List (List ℕ)
halves_before_quarters_journal =
    codes "{\"caller\":\"ann\",\"command\":1,\"done\":[[\"entered\",\"h12#1\",\"h12q1\"]],\"entry\":1}\n"
    ∷ codes "{\"caller\":\"bob\",\"command\":1,\"done\":[[\"entered\",\"h12#2\",\"h12q1\"]],\"entry\":2}\n"
    ∷ codes "{\"caller\":\"ann\",\"command\":2,\"done\":[[\"entered\",\"h12#3\",\"h12f1\"]],\"entry\":3}\n"
    ∷ codes "{\"caller\":\"bob\",\"command\":2,\"done\":[[\"entered\",\"h12#4\",\"h12f1\"]],\"entry\":4}\n"
    ∷ codes "{\"caller\":\"tso\",\"command\":1,\"done\":[[\"offered\",\"DE>FR\",\"h12q1\",\"h12q4\",\"5.0\"],[\"leg\",\"h12#4\",\"h12#3\",\"5.0\",\"40.00\",[\"DE>FR\"]]],\"entry\":5}\n"
    ∷ []
