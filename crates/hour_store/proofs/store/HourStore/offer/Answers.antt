use Rattle.std.proofs.Common.{◌∙◌, arith}
use Rattle.std.proofs.lemmas.Grind.{common_steps}
use Rattle.hour_store.proofs.Stores.{still-through}
use Rattle.hour_store.proofs.store.HourStore.offer.Goals as goal

pub loop-number-preserved : goal.loop-number-preserved
loop-number-preserved c = record {
  flows = grind (arith, common_steps);
  book = c.offer_if.ensures.book ∙ c.loop-number.invariant.book;
  blocks = c.offer_if.ensures.blocks ∙ c.loop-number.invariant.blocks;
  spare = (let before = c.loop-number.invariant.spare in let after = c.offer_if.ensures.spare in omega (arith, before, after));
  back = still-through c.args.self.now c.loop-number.self c.offer_if.new.self c.loop-number.invariant.back c.offer_if.ensures.back;
  noted = λ part side zone. c.offer_if.ensures.noted part side zone ∙ c.loop-number.invariant.noted part side zone;
}
