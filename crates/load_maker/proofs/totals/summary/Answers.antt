use Rattle.std.proofs.Common.{◌^◌, ◌<◌, ◌∙◌, length, ap, refl, arith}
use Rattle.load_maker.proofs.Summaries.{summary_written}
use Rattle.load_maker.proofs.totals.summary.Goals as goal

pub returns : goal.returns
returns c =
    let few : length c.args.entries.now < 2 ^ 64 = omega arith in
    let traded = c.traded_in-traded.ensures in
    c.from.ensures ∙ ap (λ bytes. bytes.items) c.into_bytes.ensures.value
    ∙ summary_written c.args.entries.now _ _ _ _ _ _ few refl c.refusals_in-refused.ensures traded.legs traded.block_legs traded.lots
    c.in_ok-text.ensures.ok
