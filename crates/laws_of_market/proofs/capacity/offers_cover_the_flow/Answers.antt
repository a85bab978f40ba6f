use Rattle.market_model.specs.declared.event.Event.TheVariants as event
use Rattle.laws_of_market.proofs.Told.{told-fits}
use Rattle.laws_of_market.proofs.capacity.offers_cover_the_flow.Goals as goal

pub returns : goal.returns
returns c = λ setup parts events caller given before after arc first last lots quarter is_setup history is i.
    (told-fits setup is_setup parts events caller given history before after (event.Offered arc first last lots) is).1.covers_flow quarter i
