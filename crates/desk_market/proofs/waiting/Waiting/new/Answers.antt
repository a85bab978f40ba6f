use Rattle.std.proofs.Common.{◌≡◌, ◌∙◌, ◌++◌, [], ap, sym}
use Rattle.std.proofs.lemmas.List.{append-nil}
use Rattle.desk_market.proofs.Waits.{none-left}
use Rattle.desk_market.proofs.waiting.Waiting.new.Goals as goal

-- at the end all wait
pub returns : goal.returns
returns c =
    let rest = c.loop-own.own-iterator.rest in
    let no_more : rest.items ≡ [] = none-left rest.items (sym rest.ok.0 ∙ c.in-None.ensures.steps.0) in
    c.loop-own.invariant.waits
    ∙ sym (append-nil c.loop-own.yielded) ∙ ap (λ items. c.loop-own.yielded ++ items) (sym no_more) ∙ c.loop-own.invariant.parts
