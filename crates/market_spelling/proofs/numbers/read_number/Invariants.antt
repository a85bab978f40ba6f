use Rattle.std.proofs.Common.{◌≡◌, ◌<◌, ◌^◌, take, true}
use Rattle.std.specs.Char.{is_ascii_digit}
use Rattle.std.specs.List.{list_all}
use Rattle.market_spelling.specs.Numbers.{digits_value}
use Rattle.market_spelling.proofs.numbers.read_number.Given as goal

-- the bytes so far are digits, they are read, and the value has as many places
abbrev pub invariant-loop-byte : goal.invariant-loop-byte
invariant-loop-byte l = record {
  digits : list_all is_ascii_digit (take l.byte-index l.bytes) ≡ true;
  read : l.value ≡ digits_value (take l.byte-index l.bytes);
  small : l.value < 10 ^ l.byte-index;
}
