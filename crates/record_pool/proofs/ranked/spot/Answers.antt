use Rattle.record_pool.proofs.LineLemmas.{AreLines-none}
use Rattle.std.proofs.Common.{◌≡◌, ◌∙◌, true, false, Some, sym, subst}
use Rattle.record_pool.specs.Keyed.{held_at}
use Rattle.record_pool.proofs.SpotLemmas.{Of, IsBefore, before-read, spot-from_front, spot-from_back, spot-at_end, back-not_ended}
use Rattle.record_pool.proofs.Walks.{walked_at-stands, walked_back_at-stands, IsWalked_at-next, IsWalkedBack_at-previous, left_from_at-next}
use Rattle.record_pool.proofs.ranked.spot.Goals as goal

pub get-requires : goal.get-requires
get-requires g c =
    c.requires.held c.in-Some.front (walked_at-stands c.args.lines.now c.requires.once c.args.line c.requires.line (Of (IsBefore (g.T.Ranked.cmp c.args.side) c.args.joining.now false) c.args.records.now) c.in-Some.front c.loop-ahead.ahead c.in-Some.is c.loop-ahead.invariant.0)

pub returns-then-goes_before : goal.returns-then-goes_before
returns-then-goes_before g c =
    spot-from_front (g.T.Ranked.cmp c.args.side) (g.met.T.Ranked.total c.args.side) c.args.records.now c.args.lines.now c.args.line c.requires.line c.requires.once c.requires.sorted c.args.joining.now
    c.in-Some.front c.get.result.now c.loop-ahead.ahead c.in-Some.is c.get.ensures (sym c.goes_before.ensures ∙ c.if-goes_before.true) c.loop-ahead.invariant.0

pub unreachable-requires : goal.unreachable-requires
unreachable-requires g c =
    back-not_ended (g.T.Ranked.cmp c.args.side) (g.met.T.Ranked.total c.args.side) c.args.records.now c.args.lines.now c.args.line c.requires.line c.requires.once c.requires.sorted c.args.joining.now
    c.in-Some.front c.get.result.now c.loop-ahead.ahead c.loop-ahead.behind c.in-Some.is c.in_default-behind.is c.get.ensures (sym c.goes_before.ensures ∙ c.if-goes_before.false) c.loop-ahead.invariant.0 c.loop-ahead.invariant.1

pub get-requires-in-Some : goal.get-requires-in-Some
get-requires-in-Some g c =
    c.requires.held c.in-Some-behind.back (walked_back_at-stands c.args.lines.now c.args.line c.requires.line (Of (IsBefore (g.T.Ranked.cmp c.args.side) c.args.joining.now true) c.args.records.now) c.in-Some-behind.back c.loop-ahead.behind c.in-Some-behind.is c.loop-ahead.invariant.1)

pub next-requires : goal.next-requires
next-requires g c =
    (c.args.line, walked_back_at-stands c.args.lines.now c.args.line c.requires.line (Of (IsBefore (g.T.Ranked.cmp c.args.side) c.args.joining.now true) c.args.records.now) c.in-Some-behind.back c.loop-ahead.behind c.in-Some-behind.is c.loop-ahead.invariant.1)

pub returns-then-not-goes_before : goal.returns-then-not-goes_before
returns-then-not-goes_before g c =
    spot-from_back (g.T.Ranked.cmp c.args.side) (g.met.T.Ranked.total c.args.side) c.args.records.now c.args.lines.now c.args.line c.requires.line c.requires.once c.requires.sorted c.args.joining.now
    c.in-Some-behind.back c.get-in-Some.result.now c.loop-ahead.behind c.next.result c.in-Some-behind.is c.get-in-Some.ensures (sym c.goes_before-in-Some.ensures ∙ c.if-not-goes_before.true) c.next.ensures c.loop-ahead.invariant.1

pub next-ahead-requires : goal.next-ahead-requires
next-ahead-requires g c =
    (c.args.line, walked_at-stands c.args.lines.now c.requires.once c.args.line c.requires.line (Of (IsBefore (g.T.Ranked.cmp c.args.side) c.args.joining.now false) c.args.records.now) c.in-Some.front c.loop-ahead.ahead c.in-Some.is c.loop-ahead.invariant.0)

pub previous-behind-requires : goal.previous-behind-requires
previous-behind-requires g c =
    (c.args.line, walked_back_at-stands c.args.lines.now c.args.line c.requires.line (Of (IsBefore (g.T.Ranked.cmp c.args.side) c.args.joining.now true) c.args.records.now) c.in-Some-behind.back c.loop-ahead.behind c.in-Some-behind.is c.loop-ahead.invariant.1)

pub loop-ahead-smaller : goal.loop-ahead-smaller
loop-ahead-smaller g c =
    left_from_at-next c.args.lines.now c.requires.once c.args.line c.requires.line (Of (IsBefore (g.T.Ranked.cmp c.args.side) c.args.joining.now false) c.args.records.now) c.in-Some.front c.loop-ahead.ahead c.in-Some.is c.loop-ahead.invariant.0 c.next-ahead.result c.next-ahead.ensures

pub loop-ahead-preserved : goal.loop-ahead-preserved
loop-ahead-preserved g c = (
  IsWalked_at-next c.args.lines.now c.requires.once c.args.line c.requires.line (Of (IsBefore (g.T.Ranked.cmp c.args.side) c.args.joining.now false) c.args.records.now) c.in-Some.front c.loop-ahead.ahead c.in-Some.is c.loop-ahead.invariant.0 c.next-ahead.result c.next-ahead.ensures
      (before-read (g.T.Ranked.cmp c.args.side) c.args.joining.now c.args.records.now c.in-Some.front c.get.result.now false c.get.ensures (sym c.goes_before.ensures ∙ c.if-goes_before.false)),
  IsWalkedBack_at-previous c.args.lines.now c.args.line c.requires.line (Of (IsBefore (g.T.Ranked.cmp c.args.side) c.args.joining.now true) c.args.records.now) c.in-Some-behind.back c.loop-ahead.behind c.in-Some-behind.is c.loop-ahead.invariant.1 c.previous-behind.result c.previous-behind.ensures
      (before-read (g.T.Ranked.cmp c.args.side) c.args.joining.now c.args.records.now c.in-Some-behind.back c.get-in-Some.result.now true c.get-in-Some.ensures (sym c.goes_before-in-Some.ensures ∙ c.if-not-goes_before.false)),
)

pub returns : goal.returns
returns g c =
    spot-at_end (g.T.Ranked.cmp c.args.side) (g.met.T.Ranked.total c.args.side) c.args.records.now c.args.lines.now c.args.line c.requires.line c.requires.once c.requires.sorted c.args.joining.now
    c.loop-ahead.ahead c.in_default.is c.loop-ahead.invariant.0
