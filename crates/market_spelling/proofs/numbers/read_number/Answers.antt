use Rattle.std.proofs.Common.{arith, sym, refl, get_or}
use Rattle.market_spelling.proofs.Digits.{below_next_power, below_power, digit_there, digits_more, digits_value_more, digits_value_none, eight_digits, none_read}
use Rattle.market_spelling.proofs.numbers.read_number.Goals as goal

pub loop-byte-init : goal.loop-byte-init
loop-byte-init c = record { digits = refl; read = sym digits_value_none; small = omega arith }

pub overflow_mul-value : goal.overflow_mul-value
overflow_mul-value c =
    let few = eight_digits c.loop-byte.value c.loop-byte.byte-index c.loop-byte.invariant.small (omega arith) in
    omega arith

pub overflow_add-value : goal.overflow_add-value
overflow_add-value c =
    let few = eight_digits c.loop-byte.value c.loop-byte.byte-index c.loop-byte.invariant.small (omega arith) in
    omega (arith, c.in-Some.ensures.below)

pub loop-byte-preserved : goal.loop-byte-preserved
loop-byte-preserved c =
    let bytes = c.args.bytes.now in
    let there = digit_there (get_or bytes c.loop-byte.byte-index 0) c.in-Some.digit (sym c.in-Some.ensures.value) in
    let step = digits_value_more bytes c.loop-byte.byte-index c.loop-byte-test.true in
    record {
      digits = digits_more bytes c.loop-byte.byte-index c.loop-byte-test.true c.loop-byte.invariant.digits there.0;
      read = cc;
      small = below_next_power c.loop-byte.value c.loop-byte.byte-index c.in-Some.digit c.loop-byte.invariant.small (omega (arith, c.in-Some.ensures.below));
    }

pub returns-in-None-clause-value : goal.returns-in-None-clause-value
returns-in-None-clause-value c =
    none_read c.args.most c.args.bytes.now c.loop-byte.byte-index c.loop-byte-test.true (sym c.in-None.ensures.value)

pub returns-clause-below : goal.returns-clause-below
returns-clause-below c = below_power c.loop-byte.value c.loop-byte.byte-index c.args.most c.loop-byte.invariant.small (omega arith)
