-- The words in which the worked sessions are written: setups, callers, zones, contracts, commands.
-- Quantities are lots (tenths of a MW), prices cents per MWh.
use Rattle.std.specs.Prelude.{ℕ, List, [], ◌∷◌, codes, map, pos}
use Rattle.std.specs.List.{enumerate_from}
use Rattle.order_kinds.specs.declared.contract.Contract.{Contract}
use Rattle.order_kinds.specs.declared.contract.Part.TheVariants as part
use Rattle.order_kinds.specs.declared.order.Kind.{Kind}
use Rattle.order_kinds.specs.declared.order.Kind.TheVariants as kind
pub use Rattle.order_kinds.specs.declared.order.Kind.TheVariants.{Fok as fill_or_kill, Ioc as immediate, Limit as limit}
use Rattle.order_kinds.specs.declared.order.Order.{Order}
use Rattle.order_kinds.specs.declared.order.OrderName.{OrderName}
pub use Rattle.order_kinds.specs.declared.phase.Phase.TheVariants.{Closed as closed}
use Rattle.order_kinds.specs.declared.side.Side.{Side}
pub use Rattle.order_kinds.specs.declared.side.Side.TheVariants.{Buy as buys, Sell as sells}
use Rattle.market_model.specs.declared.command.Command.{Command}
use Rattle.market_model.specs.declared.command.Command.TheVariants as command
pub use Rattle.market_model.specs.declared.command.Command.TheVariants.{Blocks as blocks, Cancel as cancel, EnterBasket as basket, Gate as gate, Halt as halt, Offer as offer, Reduce as reduce, Request as request, Resume as resume, View as view_of}
use Rattle.market_model.specs.declared.setup.Caller.{Caller}
use Rattle.market_model.specs.declared.setup.Role.{Role}
use Rattle.market_model.specs.declared.setup.Role.TheVariants as role
use Rattle.market_model.specs.declared.setup.Setup.{Setup}
use Rattle.market_model.specs.Market.{Turn, run_of}
use Rattle.journal_print.specs.Line.{entry_line}

abbrev pub caller_named : List ℕ → Role → Caller
caller_named name role = record { name = name; role = role; room = 100 }

-- three traders and an operator, by number
abbrev pub ann : ℕ
ann = 0

abbrev pub bob : ℕ
bob = 1

abbrev pub cat : ℕ
cat = 2

abbrev pub tso : ℕ
tso = 3

abbrev pub four_callers : List Caller
four_callers =
    caller_named (codes "ann") role.Trader ∷ caller_named (codes "bob") role.Trader ∷ caller_named (codes "cat") role.Trader
    ∷ caller_named (codes "tso") role.Operator ∷ []

-- a day of 24 hours with the one zone DE
abbrev pub one_zone : Setup
one_zone = record { hours = 24; zones = codes "DE" ∷ []; borders = []; callers = four_callers }

-- zones DE and FR, and the border between them
abbrev pub two_zones : Setup
two_zones = record { hours = 24; zones = codes "DE" ∷ codes "FR" ∷ []; borders = (0, 1) ∷ []; callers = four_callers }

abbrev pub DE : ℕ
DE = 0

abbrev pub FR : ℕ
FR = 1

-- a zone that is not declared
abbrev pub nowhere : ℕ
nowhere = 2

-- zones A, B, C and D, and borders A B, A C, B D and C D
abbrev pub four_zones : Setup
four_zones = record {
  hours = 24;
  zones = codes "A" ∷ codes "B" ∷ codes "C" ∷ codes "D" ∷ [];
  borders = (0, 1) ∷ (0, 2) ∷ (1, 3) ∷ (2, 3) ∷ [];
  callers = four_callers;
}

abbrev pub A : ℕ
A = 0

abbrev pub B : ℕ
B = 1

abbrev pub C : ℕ
C = 2

abbrev pub D : ℕ
D = 3

-- an hour, and a quarter and a half of an hour
abbrev pub hour : ℕ → Contract
hour number = record { hour = number; part = part.Hour }

abbrev pub quarter : (hour number : ℕ) → Contract
quarter hour number = record { hour = hour; part = part.Quarter number }

abbrev pub half : (hour number : ℕ) → Contract
half hour number = record { hour = hour; part = part.Half number }

abbrev pub iceberg : (peak delta : ℕ) → Kind
iceberg peak delta = kind.Iceberg (record { 0 = peak }) delta

abbrev pub order : (hour number : ℕ) → OrderName
order hour number = record { hour = hour; number = number }

abbrev pub order_for : Side → Kind → Contract → (zone lots cents : ℕ) → Order
order_for side kind contract zone lots cents = record {
  contract = contract;
  zone = zone;
  side = side;
  price = record { 0 = pos cents };
  quantity = record { 0 = lots };
  kind = kind;
}

abbrev pub buy : Kind → Contract → (zone lots cents : ℕ) → Command
buy kind contract zone lots cents = command.Enter (order_for buys kind contract zone lots cents)

abbrev pub sell : Kind → Contract → (zone lots cents : ℕ) → Command
sell kind contract zone lots cents = command.Enter (order_for sells kind contract zone lots cents)

abbrev pub block_for : Side → (first last zone lots cents : ℕ) → Command
block_for side first last zone lots cents = command.EnterBlock (record {
  first = first;
  last = last;
  zone = zone;
  side = side;
  price = record { 0 = pos cents };
  quantity = record { 0 = lots };
})

abbrev pub buy_block : (first last zone lots cents : ℕ) → Command
buy_block first last zone lots cents = block_for buys first last zone lots cents

abbrev pub sell_block : (first last zone lots cents : ℕ) → Command
sell_block first last zone lots cents = block_for sells first last zone lots cents

-- an order of a basket
abbrev pub item : Side → Contract → (zone lots cents : ℕ) → Order
item side contract zone lots cents = order_for side fill_or_kill contract zone lots cents

-- a command and who gives it
abbrev pub by : (caller : ℕ) → Command → Turn
by caller given = record { caller = caller; command = given }

-- the lines of the journal of some turns
abbrev pub journal_lines : Setup → List Turn → List (List ℕ)
journal_lines setup turns = map (λ placed. entry_line setup placed.0 placed.1) (enumerate_from 1 (run_of setup turns))
