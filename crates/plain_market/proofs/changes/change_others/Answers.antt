use Rattle.std.proofs.Common.{◌∙◌, ◌++◌, sym, ap}
use Rattle.std.proofs.lemmas.List.{append-nil}
use Rattle.plain_market.specs.Borders.{border_event}
use Rattle.plain_market.proofs.Happenings.{blocks-is, cancelled-is, gate-is, gated-legal, nothing-done, on-ok, reduced-is, reduced-less}
use Rattle.plain_market.proofs.changes.change_others.Goals as goal

pub reduce-requires-clause-less : goal.reduce-requires-clause-less
reduce-requires-clause-less c =
    reduced-less c.args.setup.now c.args.events.now 0 c.args.command.now c.in-Reduce.name c.in-Reduce.to c.in-Reduce.is (c.requires.after 0)

pub move_hour-requires-clause-moved : goal.move_hour-requires-clause-moved
move_hour-requires-clause-moved c =
    gated-legal c.args.grid.now c.args.setup.now c.args.events.now 0 c.args.command.now c.in-Gate.hour c.in-Gate.phase c.requires.grid c.in-Gate.is (c.requires.after 0)

pub returns-in-Cancel-clause-ok : goal.returns-in-Cancel-clause-ok
returns-in-Cancel-clause-ok c caller = on-ok c.withdraw.result c.withdraw.ensures.ok
    (λ is. is ∙ ap (λ done. c.args.events.now ++ done) (cancelled-is c.args.setup.now c.args.events.now caller c.args.command.now c.in-Cancel.name c.in-Cancel.is))

pub returns-in-Reduce-clause-ok : goal.returns-in-Reduce-clause-ok
returns-in-Reduce-clause-ok c caller = on-ok c.reduce.result c.reduce.ensures.ok
    (λ is. is ∙ ap (λ done. c.args.events.now ++ done)
    (reduced-is c.args.setup.now c.args.events.now caller c.args.command.now c.in-Reduce.name c.in-Reduce.to c.in-Reduce.is))

pub returns-in-Blocks-clause-ok : goal.returns-in-Blocks-clause-ok
returns-in-Blocks-clause-ok c caller = on-ok c.match_blocks.result c.match_blocks.ensures.ok
    (λ is. is ∙ ap (λ done. c.args.events.now ++ done)
    (blocks-is c.args.grid.now c.args.setup.now c.args.events.now caller c.args.command.now c.in-Blocks.first c.in-Blocks.last c.requires.grid c.in-Blocks.is))

pub returns-in-Gate-clause-ok : goal.returns-in-Gate-clause-ok
returns-in-Gate-clause-ok c caller = on-ok c.move_hour.result c.move_hour.ensures.ok
    (λ is. is ∙ ap (λ done. c.args.events.now ++ done)
    (gate-is c.args.grid.now c.args.setup.now c.args.events.now caller c.args.command.now c.in-Gate.hour c.in-Gate.phase c.requires.grid c.in-Gate.is))

pub returns-in_default : goal.returns-in_default
returns-in_default c = record {
  ok = λ caller. sym (append-nil c.args.events.now)
      ∙ ap (λ done. c.args.events.now ++ done) (sym (nothing-done c.args.setup.now c.args.events.now caller c.args.command.now c.requires.no_entry
      (ap (λ g. border_event g c.args.command.now) (sym c.requires.grid) ∙ c.requires.no_border)
      c.in_default.not-Cancel c.in_default.not-Reduce c.in_default.not-Blocks c.in_default.not-Gate));
  err = tt;
  summed = c.requires.summed;
}
