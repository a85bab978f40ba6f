-- Line by line the next command of the caller that it names is played.
use Rattle.std.proofs.Common.{◌≡◌, ◌∙◌, ◌+◌, ◌++◌, ℕ, List, [], Ok, codes, get_or, ap, sym, subst}
use Rattle.std.proofs.lemmas.List.{get_or_default}
use Rattle.journal_audit.specs.Audit.{IsFirstWrongAmong}
use Rattle.journal_audit.specs.Course.{IsNextLine}
use Rattle.journal_audit.specs.Lines.{ended_lines}
use Rattle.session_storing.specs.Recovering.{IsPlayedLine}
use Rattle.session_storing.proofs.Recovers.{all-played, more-played, none-played, wrong-played}
use Rattle.session_storing.proofs.recovering.play_lines.Goals as goal

pub loop-index-init : goal.loop-index-init
loop-index-init g c = record {
  plays = c.requires.plays;
  played = λ session is. none-played session c.args.lines.now (g.P.Player.state c.args.player.now) is c.requires.begins;
}

pub returns-then-not-branch-clause-wrong : goal.returns-then-not-branch-clause-wrong
returns-then-not-branch-clause-wrong g c = λ session entry is same.
    let lines = c.args.lines.now in
    let i = c.loop-index.index in
    let so_far = c.loop-index.invariant.played session is in
    let line : c.bytes.result.now ≡ get_or lines i [] =
    c.bytes.ensures ∙ c.index-lines-index.is ∙ get_or_default lines i c.index-lines-index.result [] c.loop-index-test.true in
    let place : i + 1 ≡ entry = cc in
    subst (IsFirstWrongAmong session (ended_lines lines)) place
    (wrong-played session lines i (g.P.Player.state c.loop-index.player) so_far c.loop-index-test.true
    (λ other next. c.in_ok-play_line.ensures.wrong session other so_far.playing (ap Ok c.if-not-branch.true)
    (subst (λ (l : List ℕ). IsNextLine session (g.P.Player.state c.loop-index.player).entries (l ++ codes "\n") other) (sym line) next)))

pub loop-index-preserved : goal.loop-index-preserved
loop-index-preserved g c =
    let lines = c.args.lines.now in
    let i = c.loop-index.index in
    let old = g.P.Player.state c.loop-index.player in
    let new = g.P.Player.state c.play_line.new.player in
    let line : c.bytes.result.now ≡ get_or lines i [] =
    c.bytes.ensures ∙ c.index-lines-index.is ∙ get_or_default lines i c.index-lines-index.result [] c.loop-index-test.true in
    record {
      plays = (c.requires.plays.0, (c.in_ok-play_line.ensures.right c.requires.plays.0 (c.loop-index.invariant.played c.requires.plays.0 c.requires.plays.1).playing (ap Ok c.if-not-branch.false)).playing);
      played = λ session is.
          let so_far = c.loop-index.invariant.played session is in
          more-played session lines i old so_far c.loop-index-test.true new
          (subst (λ (l : List ℕ). IsPlayedLine session old l new) line (c.in_ok-play_line.ensures.right session so_far.playing (ap Ok c.if-not-branch.false)));
    }

pub returns-clause-played : goal.returns-clause-played
returns-clause-played g c = λ session is.
    all-played session c.args.lines.now c.loop-index.index (g.P.Player.state c.loop-index.player) (c.loop-index.invariant.played session is) c.loop-index-test.false
