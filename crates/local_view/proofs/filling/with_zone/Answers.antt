use Rattle.std.proofs.Common.{◌==◌, inl, inr, ◌∙◌, ap, sym}
use Rattle.std.proofs.lemmas.Bool.Decides.{eqb_tells}
use Rattle.std.proofs.lemmas.Nat.Bits.{bit_at_set_other}
use Rattle.std.specs.Int.{w64}
use Rattle.local_view.proofs.filling.with_zone.Goals as goal

pub returns-then-is : goal.returns-then-is
returns-then-is c = λ other held. elim (eqb_tells other c.args.zone) [
  | inl same ↦ inr (same.1, c.if-is.true)
  | inr apart ↦ inl (sym (ap (λ n. n == 1) (bit_at_set_other w64 c.args.zones c.args.zone c.requires other apart.1)) ∙ held)
]
