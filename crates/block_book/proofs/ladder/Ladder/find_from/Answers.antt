use Rattle.std.proofs.Common.{◌∙◌, sym}
use Rattle.std.proofs.lemmas.Bool.{true≢false}
use Rattle.block_book.specs.Inside.{key_ring}
use Rattle.block_book.proofs.Ladders.{ring-live, walk-found, walk-less, walk-next, walk-passed}
use Rattle.block_book.proofs.ladder.Ladder.find_from.Goals as goal

pub get-block-requires : goal.get-block-requires
get-block-requires c = ring-live c.args.blocks.now c.args.self.now c.requires.sound (key_ring c.args.key) c.in-Some.place (c.loop-at.invariant.0 c.in-Some.place c.in-Some.is)

pub returns-then-is_key_of : goal.returns-then-is_key_of
returns-then-is_key_of c =
    let stands = c.loop-at.invariant.0 c.in-Some.place c.in-Some.is in
    sym (c.loop-at.invariant.1
    ∙ walk-found c.args.blocks.now c.args.self.now c.requires.sound c.args.key c.in-Some.place stands c.loop-at.at c.in-Some.is c.get-block.result.now c.get-block.ensures (c.is_key_of.ensures.0 c.if-is_key_of.true))

pub loop-at-smaller : goal.loop-at-smaller
loop-at-smaller c =
    let stands = c.loop-at.invariant.0 c.in-Some.place c.in-Some.is in
    walk-less c.args.blocks.now c.args.self.now c.requires.sound c.args.key c.in-Some.place stands c.loop-at.at c.in-Some.is c.next-at.result c.next-at.ensures

pub loop-at-preserved : goal.loop-at-preserved
loop-at-preserved c =
    let stands = c.loop-at.invariant.0 c.in-Some.place c.in-Some.is in (
      walk-next c.args.blocks.now c.args.self.now c.requires.sound c.args.key c.in-Some.place stands c.next-at.result c.next-at.ensures,
      c.loop-at.invariant.1
          ∙ walk-passed c.args.blocks.now c.args.self.now c.requires.sound c.args.key c.in-Some.place stands c.loop-at.at c.in-Some.is c.next-at.result c.next-at.ensures
          c.get-block.result.now c.get-block.ensures (λ same. true≢false (sym (c.is_key_of.ensures.1 same) ∙ c.if-is_key_of.false)),
    )
