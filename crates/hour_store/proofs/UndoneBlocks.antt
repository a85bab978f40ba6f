-- What takes a change of the book of blocks back.
use Rattle.std.proofs.Common.{◌≡◌, ◌∙◌, ℕ, suc, ◌<◌, ◌==◌, Bool, true, false, not, List, length, Some, None, refl, sym, ap, subst, arith, eqb-true}
use Rattle.std.proofs.lemmas.Bool.{true≢false}
use Rattle.std.proofs.lemmas.List.Sorted.{ranks_by}
use Rattle.zone_graph.proofs.Finding.{from_find}
use Rattle.block_book.specs.declared.block.RestingBlock.{RestingBlock}
use Rattle.block_book.specs.Blocks.{number_cmp}
use Rattle.block_book.specs.Book.{IsBook, block_of, has_number, with_block, without}
use Rattle.block_book.specs.Priority.{number_total}
use Rattle.block_book.proofs.Lists.{ascending-differ, find-block, find-none, from_without, has-number, has_not-number, number_absent}
use Rattle.hour_store.specs.declared.change.Change.TheVariants as change
use Rattle.hour_store.specs.Contents.{Contents}
use Rattle.hour_store.proofs.Alike.{alike-equal, alike-through}
use Rattle.hour_store.proofs.Leads.{IsUndoneBy}
use Rattle.hour_store.proofs.PutBack.{filter-all, filter-put, length-put, put-restores}

abbrev other_than : ℕ → RestingBlock → Bool
other_than number block = not (has_number number block)

has_number-not : (number : ℕ) (block : RestingBlock) → not (has_number number block) ≡ false → block.number ≡ number
has_number-not number block fails = go (block.number == number) refl fails
  where
    go : (b : Bool) → (block.number == number) ≡ b → not b ≡ false → block.number ≡ number
    go true e k = eqb-true block.number number e
    go false e k = absurd (true≢false k)

-- a block that came to rest
pub block-rest-undone : (block : RestingBlock) (old now : Contents) → block_of old.blocks block.number ≡ None → now.blocks ≡ with_block old.blocks block
    → now.book ≡ old.book → now.flows ≡ old.flows → IsUndoneBy (change.BlockRested block.number) old now
block-rest-undone block old now absent is book flows = record {
  can = tt;
  was = record { book = sym book; blocks_are = sym out; flows = alike-equal now.flows old.flows (sym flows) };
  back = λ before back. record {
    book = back.book ∙ book;
    blocks = back.blocks_are ∙ out;
    flows = alike-through old.flows now.flows before.flows (alike-equal old.flows now.flows flows) back.flows;
  };
}
  where
    out : without now.blocks block.number ≡ old.blocks
    out =
        ap (λ list. without list block.number) is
        ∙ filter-put (other_than block.number) number_cmp old.blocks block (ap not (has-number block block.number refl))
        ∙ filter-all (other_than block.number) old.blocks (λ y i. ap not (has_not-number y block.number (number_absent block.number old.blocks absent y i)))

module _ (blocks : List RestingBlock) (is_book : IsBook blocks) (block : RestingBlock) (found : block_of blocks block.number ≡ Some block) where
  -- put back it is where it was
  pub blocks-restored : with_block (without blocks block.number) block ≡ blocks
  blocks-restored =
      put-restores number_cmp (ranks_by number_total (λ (b : RestingBlock). b)) (other_than block.number) blocks block is_book.ascending
      (from_find (has_number block.number) block blocks found).0 (ap not (has-number block block.number refl))
      (λ y i fails.
      let other : block_of blocks block.number ≡ Some y = find-block block.number y blocks (ascending-differ blocks is_book.ascending) i (has_number-not block.number y fails) in
      cc)

  pub block-place : length (without blocks block.number) < 4096
  block-place =
      let one : suc (length (without blocks block.number)) ≡ length blocks = sym (length-put number_cmp (without blocks block.number) block) ∙ ap length blocks-restored in
      let few = is_book.few in
      omega (arith, one, few)

pub block_number : (blocks : List RestingBlock) (number : ℕ) (block : RestingBlock) → block_of blocks number ≡ Some block → block.number ≡ number
block_number blocks number block found = eqb-true block.number number (from_find (has_number number) block blocks found).1

-- a block that left
pub block-left-undone : (block : RestingBlock) (old now : Contents) → IsBook old.blocks → block_of old.blocks block.number ≡ Some block → now.blocks ≡ without old.blocks block.number
    → now.book ≡ old.book → now.flows ≡ old.flows → IsUndoneBy (change.BlockLeft block) old now
block-left-undone block old now is_book found is book flows = record {
  can = record {
    absent = subst (λ list. block_of list block.number ≡ None) (sym is) (find-none block.number (without old.blocks block.number) (λ y i. (from_without block.number y old.blocks i).1));
    place = subst (λ list. length list < 4096) (sym is) (block-place old.blocks is_book block found);
  };
  was = record { book = sym book; blocks_are = sym again; flows = alike-equal now.flows old.flows (sym flows) };
  back = λ before back. record {
    book = back.book ∙ book;
    blocks = back.blocks_are ∙ again;
    flows = alike-through old.flows now.flows before.flows (alike-equal old.flows now.flows flows) back.flows;
  };
}
  where
    again : with_block now.blocks block ≡ old.blocks
    again = ap (λ list. with_block list block) is ∙ blocks-restored old.blocks is_book block found

-- where no block is found, none is withdrawn
pub no_block-withdrawn : (blocks : List RestingBlock) (number : ℕ) → block_of blocks number ≡ None → without blocks number ≡ blocks
no_block-withdrawn blocks number none = filter-all (other_than number) blocks (λ y i. ap not (has_not-number y number (number_absent number blocks none y i)))
