-- What no early rule refuses may enter.
use Rattle.std.proofs.Common.{◌≡◌, inl, inr, ℕ, List, [], ◌∷◌, Option, None, refl}
use Rattle.market_model.specs.declared.command.Command.{Command}
use Rattle.market_model.specs.declared.command.Command.TheVariants as command
use Rattle.market_model.specs.declared.refusal.Refusal.{Refusal}
use Rattle.market_model.specs.declared.setup.Setup.{Setup}
use Rattle.market_model.specs.Rules.{early_refusal, naming_refusal, numbers_refusal}
use Rattle.laws_of_market.proofs.Admitted.{NamesWhatIs, NumbersAreGood, naming-none, numbers-none}
use Rattle.laws_of_market.proofs.Members.{first_answer-none}
use Rattle.laws_of_market.proofs.BlockEntries.{block-may-enters}
use Rattle.laws_of_market.proofs.Entries.{may-enters}
use Rattle.laws_of_market.proofs.Replies.{basket-may, block-may, order-may}
use Rattle.laws_of_boards.specs.Entering.{BasketEntriesFit, BlockEntriesFit, EntriesFit}

-- what is known of a command that no early rule refuses
pub record IsInOrder (setup : Setup) (caller : ℕ) (given : Command) : Type 0 where
  pub names : NamesWhatIs setup caller given
  pub numbers : NumbersAreGood given

pub early-none : (setup : Setup) (caller : ℕ) (given : Command) → early_refusal setup caller given ≡ None → IsInOrder setup caller given
early-none setup caller given is =
    let rules : List (Unit {0} → Option Refusal) = (λ _. naming_refusal setup caller given) ∷ (λ _. numbers_refusal given) ∷ [] in
    record {
      names = naming-none setup caller given (first_answer-none (λ (rule : Unit {0} → Option Refusal). rule tt) rules is (λ _. naming_refusal setup caller given) (inl refl));
      numbers = numbers-none given (first_answer-none (λ (rule : Unit {0} → Option Refusal). rule tt) rules is (λ _. numbers_refusal given) (inr (inl refl)));
    }

pub orders : EntriesFit
orders setup before caller order is =
    let may = early-none setup caller (command.Enter order) is in may-enters setup caller order before (order-may setup caller order may.names may.numbers)

pub blocks : BlockEntriesFit
blocks setup before caller order is =
    let may = early-none setup caller (command.EnterBlock order) is in block-may-enters setup caller order before (block-may setup caller order may.names may.numbers)

pub baskets : BasketEntriesFit
baskets setup before caller orders order is i =
    let may = early-none setup caller (command.EnterBasket orders) is in
    may-enters setup caller order before (basket-may setup caller orders may.names may.numbers order i)
