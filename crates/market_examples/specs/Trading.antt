-- Worked sessions and their journals.
use Rattle.std.specs.Prelude.{ℕ, List, [], ◌∷◌, codes}
use Rattle.market_model.specs.Market.{Turn}
use Rattle.market_examples.specs.Words.{DE, ann, bob, buy, by, hour, limit, sell}

-- A sale within one zone, at the resting order's price.
abbrev pub one_sale : List Turn
one_sale =
    by ann (sell limit (hour 12) DE 100 5000)
    ∷ by bob (buy limit (hour 12) DE 40 5500)
    ∷ []

abbrev pub one_sale_journal : List (List ℕ)
one_sale_journal =
    codes "{\"caller\":\"ann\",\"command\":1,\"done\":[[\"entered\",\"h12#1\",\"h12\"]],\"entry\":1}\n"
    ∷ codes "{\"caller\":\"bob\",\"command\":1,\"done\":[[\"entered\",\"h12#2\",\"h12\"],[\"leg\",\"h12#2\",\"h12#1\",\"4.0\",\"50.00\",[]]],\"entry\":2}\n"
    ∷ []
