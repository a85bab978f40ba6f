-- What a caller's pass is once commands were given with it.
use Rattle.std.specs.Prelude.{◌≡◌, ◌≢◌, ℕ, ◌+◌, ◌≤◌, List, [], ◌++◌, length, map}
use Rattle.market_model.specs.declared.command.Command.{Command}
use Rattle.market_model.specs.declared.entry.Entry.{Entry}
use Rattle.trade_journal.specs.Journals.{IsJournal, room_of_caller}
use Rattle.trader_pass.specs.Passes.{PassState}

-- a pass's caller may have so many more entries
abbrev pub HasRoomFor : PassState → ℕ → Type 0
HasRoomFor pass count = length pass.mine + count ≤ room_of_caller pass.setup pass.caller

-- commands were given with a pass: its caller's entries grew by those of these commands, in their order; it is the
-- same caller's pass, which has seen more, and was told no more; what it has seen is a legal journal; where there were
-- no commands it is as it was
pub record GaveAll (commands : List Command) (old new : PassState) : Type 0 where
  pub same_front : new.front ≡ old.front
  pub same_setup : new.setup ≡ old.setup
  pub same_caller : new.caller ≡ old.caller
  pub known : new.known ≡ old.known
  pub made : List Entry
  pub mine : new.mine ≡ old.mine ++ made
  pub gave : map (λ entry. entry.command) made ≡ commands
  pub later : List Entry
  pub seen : new.seen ≡ old.seen ++ later
  pub legal : commands ≢ [] → IsJournal (record { setup = new.setup; entries = new.seen })
  pub none : commands ≡ [] → new ≡ old

-- a first part of some commands was given
pub record GaveSome (commands : List Command) (old new : PassState) : Type 0 where
  pub first : List Command
  pub left : List Command
  pub whole : commands ≡ first ++ left
  pub gave : GaveAll first old new
