-- Each deal leaves fewer blocks in the book of the first hour of its period.
use Rattle.std.proofs.Common.{◌≡◌, ◌⊎◌, inl, inr, ℕ, ◌<◌, ◌==◌, Bool, true, false, List, [], ◌∷◌, ◌++◌, filter, length, not, Some, eq-eqb, eqb-true, refl, sym, ap, subst, if◌then◌else◌, arith}
use Rattle.order_kinds.specs.declared.side.Side.TheVariants.{Buy}
use Rattle.zone_graph.specs.declared.route.Arc.{Arc}
use Rattle.zone_graph.specs.Graph.{Graph}
use Rattle.zone_graph.specs.Route.{IsIn}
use Rattle.zone_graph.proofs.Membership.{IsIn-filter, from_filter}
use Rattle.block_book.specs.declared.block.RestingBlock.{RestingBlock}
use Rattle.block_book.specs.Blocks.{block_cmp}
use Rattle.block_book.specs.Book.{has_number, is_of, line_of, without}
use Rattle.block_book.proofs.Lists.{from_ordered}
use Rattle.laws_of_books.specs.BlocksOf.{blocks_of}
use Rattle.laws_of_books.specs.LegLaws.{without_both}
use Rattle.block_match.specs.declared.deal.BlockDeal.{BlockDeal}
use Rattle.block_match.specs.Deals.{deal_of_buy, deal_of_period, deal_with, is_earlier, partner_of, resting_deal}
use Rattle.block_match.specs.Market.{deal_events}
use Rattle.market_model.specs.declared.event.Event.{Event}
use Rattle.market_model.specs.Board.{IsHourOf}
use Rattle.laws_of_market.proofs.Counts.{fewer-lt}
use Rattle.laws_of_market.proofs.Members.{from_first_answer}
use Rattle.laws_of_market.proofs.Repeats.{map-some}
use Rattle.laws_of_joint_commands.specs.EnteringBlocks.{AreClosed}
use Rattle.kept_hour.proofs.DealtEntries.{fewer-without}
use Rattle.kept_hour.proofs.MadeDeals.{both-out}

-- a book without the number of a block in it
one-fewer : (book : List RestingBlock) (block : RestingBlock) → IsIn block book → length (without book block.number) < length book
one-fewer book block i =
    let less = fewer-lt (λ b. not (has_number block.number b)) (λ b. true) book block i (λ b j stays. refl) refl (ap not (eq-eqb block.number block.number refl)) in
    let all = all-pass book in
    omega (arith, less, all)
  where
    all-pass : (blocks : List RestingBlock) → length (filter (λ (b : RestingBlock). true) blocks) ≡ length blocks
    all-pass [] = refl
    all-pass (b ∷ blocks) = let rest = all-pass blocks in omega (arith, rest)

-- a block is one of the two of a deal
abbrev IsOfDeal : RestingBlock → BlockDeal → Type 0
IsOfDeal block deal = (block.number ≡ deal.taker) ⊎ (block.number ≡ deal.maker)

-- a book without the two blocks of a deal
taker-fewer : (book : List RestingBlock) (deal : BlockDeal) (block : RestingBlock) → IsIn block book → block.number ≡ deal.taker
    → length (without_both book deal.taker deal.maker) < length book
taker-fewer book deal block i is =
    let less = subst (λ n. length (without book n) < length book) is (one-fewer book block i) in
    let less_too = fewer-without (without book deal.taker) deal.maker in
    omega (arith, less, less_too)

both-fewer : (book : List RestingBlock) (deal : BlockDeal) (block : RestingBlock) → IsIn block book → IsOfDeal block deal
    → length (without_both book deal.taker deal.maker) < length book
both-fewer book deal block i (inl is) = taker-fewer book deal block i is
both-fewer book deal block i (inr is) = by (block.number == deal.taker) refl
  where
    by : (b : Bool) → (block.number == deal.taker) ≡ b → length (without_both book deal.taker deal.maker) < length book
    by true same = taker-fewer book deal block i (eqb-true block.number deal.taker same)
    by false other =
        let stays : IsIn block (without book deal.taker) = IsIn-filter (λ b. not (has_number deal.taker b)) block book i (ap not other) in
        let less = subst (λ n. length (without (without book deal.taker) n) < length (without book deal.taker)) is (one-fewer (without book deal.taker) block stays) in
        let less_too = fewer-without book deal.taker in
        omega (arith, less, less_too)

-- the buy block of a deal that is found stands in the book
record IsFoundIn (book : List RestingBlock) (deal : BlockDeal) : Type 0 where
  block : RestingBlock
  there : IsIn block book
  of_deal : IsOfDeal block deal

buy-found : (graph : Graph) (room : Arc → ℕ) (book : List RestingBlock) (last : ℕ) (deal : BlockDeal) → Some deal ≡ deal_of_period graph room book last → IsFoundIn book deal
buy-found graph room book last deal found =
    let buy = from_first_answer (deal_of_buy graph room book) deal (line_of book last Buy) (sym found) in
    let pair = map-some (resting_deal graph room buy.0) (partner_of graph room book buy.0) deal buy.2 in
    record {
      block = buy.0;
      there = (from_filter (is_of last Buy) buy.0 book (from_ordered (block_cmp Buy) buy.0 (filter (is_of last Buy) book) buy.1)).0;
      of_deal = subst (IsOfDeal buy.0) pair.2 (by buy.0 pair.0 (is_earlier buy.0 pair.0));
    }
  where
    by : (buy sell : RestingBlock) (t : Bool) → IsOfDeal buy (if t then deal_with graph room sell buy else deal_with graph room buy sell)
    by buy sell true = inr refl
    by buy sell false = inl refl

pub fewer-blocks : (graph : Graph) (room : Arc → ℕ) (first last : ℕ) (events : List Event) (deal : BlockDeal)
    → Some deal ≡ deal_of_period graph room (blocks_of events first) last → IsHourOf graph first (events ++ deal_events first last deal)
    → AreClosed first deal (events ++ deal_events first last deal)
    → length (blocks_of (events ++ deal_events first last deal) first) < length (blocks_of events first)
fewer-blocks graph room first last events deal found follows closed =
    let buy = buy-found graph room (blocks_of events first) last deal found in
    subst (λ b. length b < length (blocks_of events first)) (sym (both-out graph first first last deal events follows refl closed.taker closed.maker))
    (both-fewer (blocks_of events first) deal buy.block buy.there buy.of_deal)
