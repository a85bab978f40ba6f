use Rattle.std.proofs.Common.{◌≡◌, ◌∙◌, ◌-◌, Some, map, min, unwrap_or, ap, arith, if◌then◌else◌}
use Rattle.std.specs.Option.{option_map_or}
use Rattle.quarter_capacity.specs.Row as rows
use Rattle.market_model.specs.Room.{lots_of}
use Rattle.flow_netting.specs.Border.{row_in}
use Rattle.flow_netting.specs.QuarterSet.{has, quarters_in}
use Rattle.flow_netting.proofs.RoomLemmas.{first_of, least_of, least_of-more, unwrap_or-least_of}
use Rattle.flow_netting.proofs.border.BorderFlows.least_remaining.Goals as goal

pub loop-number-preserved : goal.loop-number-preserved
loop-number-preserved c =
    let lots : c.remaining.result ≡ lots_of (rows.remaining (row_in c.args.self.now c.loop-number.number) c.args.forward) =
    ap lots_of (c.remaining.ensures.value ∙ ap (λ row. rows.remaining row c.args.forward) c.row.ensures) in
    record {
      so_far = c.lesser-least.ensures.value
          ∙ ap (λ b. if b then Some (option_map_or (λ least. min least c.remaining.result) c.loop-number.least c.remaining.result) else c.loop-number.least) c.contains.ensures
          ∙ ap (λ lots. if has c.args.set c.loop-number.number then Some (option_map_or (λ least. min least lots) c.loop-number.least lots) else c.loop-number.least) lots
          ∙ least_of-more (has c.args.set) (λ number. lots_of (rows.remaining (row_in c.args.self.now number) c.args.forward)) c.loop-number.number c.loop-number.least (omega arith) c.loop-number.invariant.so_far;
      most = c.lesser-least.ensures.most;
    }

pub returns-clause-least : goal.returns-clause-least
returns-clause-least c =
    let last : c.loop-number.number ≡ 5 = omega arith in
    c.unwrap_or.ensures
    ∙ ap (λ least. unwrap_or least 0) c.loop-number.invariant.so_far
    ∙ ap (λ n. unwrap_or (least_of (map (λ number. lots_of (rows.remaining (row_in c.args.self.now number) c.args.forward)) (first_of (has c.args.set) (n - 1)))) 0) last
    ∙ unwrap_or-least_of (map (λ number. lots_of (rows.remaining (row_in c.args.self.now number) c.args.forward)) (quarters_in c.args.set))
