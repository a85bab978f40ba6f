-- Where a comma stands in a list of printed parts.
use Rattle.std.specs.Prelude.{ℕ, zero, suc, List, [], codes}

-- the comma in front of the part of this place, counted from 0; none stands in front of the first
abbrev pub comma_before : ℕ → List ℕ
comma_before zero = []
comma_before (suc place) = codes ","
