use Rattle.std.proofs.Common.{◌≡◌, ◌∙◌, IfOk, OnOk, subst, sym}
use Rattle.plain_matching.proofs.Deals.{dealt-maker, either, matched, poured}
use Rattle.plain_matching.proofs.deal.deal.Goals as goal

pub returns-then-is_earlier-clause-found : goal.returns-then-is_earlier-clause-found
returns-then-is_earlier-clause-found c =
    let same = sym c.if-not-is_match.ensures in
    let pair = poured c.args.grid.now c.args.events.now c.args.own.now c.args.other.now c.requires.meet same in
    subst (λ v. IfOk c.pour_whole.result (λ found. found ≡ v))
    (sym (matched c.args.grid.now c.args.events.now c.args.own.now c.args.other.now same ∙ either c.args.grid.now c.args.events.now c.args.own.now c.args.other.now pair))
    c.pour_whole.ensures.found

pub returns-then-is_earlier-clause-ok : goal.returns-then-is_earlier-clause-ok
returns-then-is_earlier-clause-ok c =
    let same = sym c.if-not-is_match.ensures in
    let pair = poured c.args.grid.now c.args.events.now c.args.own.now c.args.other.now c.requires.meet same in
    subst (λ v. OnOk c.pour_whole.result (c.pour_whole.new.events ≡ v))
    (dealt-maker c.args.grid.now c.args.events.now c.args.own.now c.args.other.now pair same (sym c.if-is_earlier.ensures))
    c.pour_whole.ensures.ok
