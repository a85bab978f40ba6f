-- Worked sessions and their journals.
use Rattle.std.specs.Prelude.{ℕ, List, [], ◌∷◌, codes}
use Rattle.order_kinds.specs.Period.{quarter_of}
use Rattle.market_model.specs.Market.{Turn}
use Rattle.market_examples.specs.Words.{DE, FR, ann, buy, buy_block, by, hour, limit, nowhere, offer, quarter, request, tso}

-- The first rule that a command breaks names its refusal.
abbrev pub named_refusals : List Turn
named_refusals =
    by ann (offer DE FR (quarter_of 12 1) (quarter_of 12 4) 50)
    ∷ by tso (buy limit (hour 99) nowhere 0 1000000)
    ∷ by ann (buy limit (quarter 12 5) DE 10 1000)
    ∷ by ann (buy limit (hour 12) nowhere 10 1000)
    ∷ by ann (request DE DE (quarter_of 12 1) (quarter_of 12 1) 10)
    ∷ by ann (buy_block 10 10 DE 10 1000)
    ∷ []

abbrev pub named_refusals_journal : List (List ℕ)
named_refusals_journal =
    codes "{\"caller\":\"ann\",\"command\":1,\"entry\":1,\"refused\":[\"WrongRole\"]}\n"
    ∷ codes "{\"caller\":\"tso\",\"command\":1,\"entry\":2,\"refused\":[\"WrongRole\"]}\n"
    ∷ codes "{\"caller\":\"ann\",\"command\":2,\"entry\":3,\"refused\":[\"UnknownContract\"]}\n"
    ∷ codes "{\"caller\":\"ann\",\"command\":3,\"entry\":4,\"refused\":[\"UnknownZone\"]}\n"
    ∷ codes "{\"caller\":\"ann\",\"command\":4,\"entry\":5,\"refused\":[\"UnknownBorder\"]}\n"
    ∷ codes "{\"caller\":\"ann\",\"command\":5,\"entry\":6,\"refused\":[\"BadPeriod\"]}\n"
    ∷ []
