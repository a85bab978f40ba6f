-- The deal of two blocks, whichever of them is the taker, and of a block with the first of a line.
use Rattle.std.proofs.Common.{◌≡◌, ◌∙◌, ℕ, zero, suc, ◌==◌, true, false, List, [], ◌++◌, length, take, eqb-true, refl, sym, ap, if◌then◌else◌}
use Rattle.std.proofs.lemmas.List.{append-nil}
use Rattle.std.proofs.Math.Dec.{eqb-suc-zero}
use Rattle.std.proofs.Math.Seq.{take-append_seam}
use Rattle.std.specs.Ordering.{is_lt}
use Rattle.std.proofs.lemmas.Bool.{and_parts}
use Rattle.order_kinds.specs.Side.{crosses}
use Rattle.zone_graph.specs.Graph.{Graph}
use Rattle.market_model.specs.declared.event.Event.{Event}
use Rattle.market_model.specs.Blocks.{StandingBlock, block_legs, block_time_cmp, can_trade_blocks, carries_whole, resting_block_legs}
use Rattle.laws_of_market.proofs.Roles.{same_pour}
use Rattle.plain_matching.specs.Meeting.{ArePoured, Meet, deal_if, is_match, legs_if}
use Rattle.plain_matching.proofs.Meetings.{equal-left}

-- the events up to a mark, where the legs behind it are taken away
pub cut-back : (old legs : List Event) (mark : ℕ) → mark ≡ length old → take mark (old ++ legs) ≡ old ++ []
cut-back old legs mark is = ap (λ n. take n (old ++ legs)) is ∙ take-append_seam old legs ∙ sym (append-nil old)

-- nothing is left, or something is
pub none-left : (lots : ℕ) → lots ≡ 0 → (lots == 0) ≡ true
none-left lots none = ap (λ n. n == 0) none

pub some-left : (lots : ℕ) → (lots ≡ 0 → ⊥) → (lots == 0) ≡ false
some-left zero some = absurd (some refl)
some-left (suc more) some = eqb-suc-zero more

module _ (graph : Graph) (events : List Event) (own other : StandingBlock) where
  -- blocks that match can where the pour carries all
  pub matched : is_match own other ≡ true → can_trade_blocks graph events own other ≡ carries_whole graph events own other
  matched same = ap (λ b. if b then carries_whole graph events own other else false) same

  pub poured : Meet graph events own other → is_match own other ≡ true → ArePoured graph events own other
  poured meet same =
      let both = and_parts (other.order.quantity.0 == own.order.quantity.0) (crosses own.order.side own.order.price other.order.price) same in
      let lots : other.order.quantity.0 ≡ own.order.quantity.0 = eqb-true other.order.quantity.0 own.order.quantity.0 both.0 in
      record { meet = meet; one_quantity = λ i. record { 0 = lots i } }

  -- the pour carries all whichever block is the taker
  pub either : ArePoured graph events own other → carries_whole graph events own other ≡ carries_whole graph events other own
  either pair =
      let meet = pair.meet in
      ap (λ n. n == 0) (same_pour graph own other meet.one_first meet.one_last meet.opposed events (equal-left graph events own other pair))

  -- the legs where the block, and where the other one, is the maker
  pub as-maker : is_lt (block_time_cmp own other) ≡ true → resting_block_legs graph events own other ≡ block_legs graph other own events
  as-maker earlier = ap (λ b. if b then block_legs graph other own events else block_legs graph own other events) earlier

  pub dealt-maker : ArePoured graph events own other → is_match own other ≡ true → is_lt (block_time_cmp own other) ≡ true
      → events ++ legs_if (carries_whole graph events other own) (block_legs graph other own events)
      ≡ events ++ deal_if (can_trade_blocks graph events own other) graph events own other
  dealt-maker pair same earlier =
      ap (λ b. events ++ legs_if b (block_legs graph other own events)) (sym (matched same ∙ either pair))
      ∙ ap (λ legs. events ++ legs_if (can_trade_blocks graph events own other) legs) (sym (as-maker earlier))
