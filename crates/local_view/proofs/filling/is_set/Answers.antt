use Rattle.std.proofs.Common.{◌==◌, ap, sym}
use Rattle.std.proofs.lemmas.Nat.Bits.{bit_at_above}
use Rattle.local_view.proofs.filling.is_set.Goals as goal

pub returns-else-place-lt64 : goal.returns-else-place-lt64
returns-else-place-lt64 c = sym (ap (λ n. n == 1) (bit_at_above c.args.bits 64 c.args.place c.ranges.bits.fits c.if-place-lt64.false))
