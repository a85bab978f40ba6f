-- How what is offered, allocated and remains add up.
use Rattle.std.proofs.Common.{◌≡◌, ℕ, pos, ◌+ℤ◌, arith}
use Rattle.std.proofs.lemmas.Int.{ints}
use Rattle.quarter_capacity.specs.Capacity.{flow_of, remaining_of}

pub adds-up : (offer there back : ℕ) → pos there +ℤ remaining_of offer (flow_of there back) ≡ pos offer +ℤ pos back
adds-up offer there back = omega (arith, ints)
