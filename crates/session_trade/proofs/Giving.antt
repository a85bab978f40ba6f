-- Commands are given one after the other.
use Rattle.std.proofs.Common.{ℕ, ◌<◌, List, [], drop, length, take, take-append-drop, refl, sym}
use Rattle.std.proofs.lemmas.List.{append-nil}
use Rattle.market_model.specs.declared.command.Command.{Command}
use Rattle.trader_pass.specs.Passes.{PassState}
use Rattle.session_trade.specs.Working.{GaveAll, GaveSome}

pub gave-none : (pass : PassState) → GaveAll [] pass pass
gave-none pass = record {
  same_front = refl;
  same_setup = refl;
  same_caller = refl;
  known = refl;
  made = [];
  mine = sym (append-nil pass.mine);
  gave = refl;
  later = [];
  seen = sym (append-nil pass.seen);
  legal = λ some. absurd (some refl);
  none = λ same. refl;
}

module _ (commands : List Command) (count : ℕ) (old now : PassState) (so_far : GaveAll (take count commands) old now) (within : count < length commands) where
  -- or not
  pub gave-some : GaveSome commands old now
  gave-some = record { first = take count commands; left = drop count commands; whole = sym (take-append-drop count commands); gave = so_far }
