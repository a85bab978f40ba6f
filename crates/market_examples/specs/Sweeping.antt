-- Worked sessions and their journals.
use Rattle.std.specs.Prelude.{ℕ, List, [], ◌∷◌, codes}
use Rattle.order_kinds.specs.Period.{quarter_of}
use Rattle.market_model.specs.Market.{Turn}
use Rattle.market_examples.specs.Words.{DE, FR, ann, bob, buy, by, cat, halt, hour, limit, offer, quarter, request, resume, sell, tso}

-- A trade over a border opens the other direction, and the sweep trades the quarter that waited for it.
abbrev pub sweep_after_netting : List Turn
sweep_after_netting =
    by tso (offer DE FR (quarter_of 12 1) (quarter_of 12 4) 50)
    ∷ by ann (sell limit (quarter 12 1) FR 50 4000)
    ∷ by bob (buy limit (quarter 12 1) DE 50 4500)
    ∷ by cat (sell limit (hour 12) DE 50 5000)
    ∷ by ann (buy limit (hour 12) FR 50 5000)
    ∷ []

abbrev pub sweep_after_netting_journal : List (List ℕ)
sweep_after_netting_journal =
    codes "{\"caller\":\"tso\",\"command\":1,\"done\":[[\"offered\",\"DE>FR\",\"h12q1\",\"h12q4\",\"5.0\"]],\"entry\":1}\n"
    ∷ codes "{\"caller\":\"ann\",\"command\":1,\"done\":[[\"entered\",\"h12#1\",\"h12q1\"]],\"entry\":2}\n"
    ∷ codes "{\"caller\":\"bob\",\"command\":1,\"done\":[[\"entered\",\"h12#2\",\"h12q1\"]],\"entry\":3}\n"
    ∷ codes "{\"caller\":\"cat\",\"command\":1,\"done\":[[\"entered\",\"h12#3\",\"h12\"]],\"entry\":4}\n"
    ∷ codes "{\"caller\":\"ann\",\"command\":2,\"done\":[[\"entered\",\"h12#4\",\"h12\"],[\"leg\",\"h12#4\",\"h12#3\",\"5.0\",\"50.00\",[\"DE>FR\"]],[\"leg\",\"h12#2\",\"h12#1\",\"5.0\",\"40.00\",[\"FR>DE\"]]],\"entry\":5}\n"
    ∷ []

-- A halted border has no room; once it is resumed the sweep trades what waited.
abbrev pub halt_and_resume : List Turn
halt_and_resume =
    by tso (offer DE FR (quarter_of 12 1) (quarter_of 12 4) 50)
    ∷ by tso (halt FR DE 12 12)
    ∷ by ann (sell limit (hour 12) DE 40 4000)
    ∷ by bob (buy limit (hour 12) FR 40 4500)
    ∷ by cat (request DE FR (quarter_of 12 1) (quarter_of 12 1) 10)
    ∷ by tso (resume DE FR 12 12)
    ∷ []

abbrev pub halt_and_resume_journal : List (List ℕ)
halt_and_resume_journal =
    codes "{\"caller\":\"tso\",\"command\":1,\"done\":[[\"offered\",\"DE>FR\",\"h12q1\",\"h12q4\",\"5.0\"]],\"entry\":1}\n"
    ∷ codes "{\"caller\":\"tso\",\"command\":2,\"done\":[[\"halted\",\"DE>FR\",\"h12\",\"h12\"]],\"entry\":2}\n"
    ∷ codes "{\"caller\":\"ann\",\"command\":1,\"done\":[[\"entered\",\"h12#1\",\"h12\"]],\"entry\":3}\n"
    ∷ codes "{\"caller\":\"bob\",\"command\":1,\"done\":[[\"entered\",\"h12#2\",\"h12\"]],\"entry\":4}\n"
    ∷ codes "{\"caller\":\"cat\",\"command\":1,\"entry\":5,\"refused\":[\"NoRoom\",\"h12q1\",\"0.0\"]}\n"
    ∷ codes "{\"caller\":\"tso\",\"command\":3,\"done\":[[\"resumed\",\"DE>FR\",\"h12\",\"h12\"],[\"leg\",\"h12#2\",\"h12#1\",\"4.0\",\"40.00\",[\"DE>FR\"]]],\"entry\":6}\n"
    ∷ []
