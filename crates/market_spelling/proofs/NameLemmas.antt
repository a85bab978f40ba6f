-- The test of a name, as a test and as a fact.
use Rattle.std.proofs.Common.{◌≡◌, ℕ, Bool, true, false, List, refl, sym, arith}
use Rattle.std.proofs.lemmas.Bool.Decides.{nat_tests}
use Rattle.std.specs.List.{list_all}
use Rattle.zone_graph.specs.Name.{is_name_byte, IsName}
use Rattle.market_spelling.specs.Words.{is_name}

-- what passes the test is a name
pub name_from_test : (bytes : List ℕ) → is_name bytes ≡ true → IsName bytes
unfolding is_name
name_from_test bytes is = record { some = grind (arith, nat_tests); few = grind (arith, nat_tests); each = grind (arith, nat_tests) }

-- a name passes the test
pub test_from_name : (bytes : List ℕ) → IsName bytes → is_name bytes ≡ true
unfolding is_name
test_from_name bytes name =
    let each : list_all is_name_byte bytes ≡ true = name.each in
    let some = name.some in
    let few = name.few in
    grind (arith, nat_tests)

-- an answer that is true exactly for names is the test
pub name_test : (bytes : List ℕ) (answer : Bool) → (answer ≡ true → IsName bytes) → (IsName bytes → answer ≡ true)
    → answer ≡ is_name bytes
name_test bytes true to from = sym (test_from_name bytes (to refl))
name_test bytes false to from = by (is_name bytes) refl
  where
    by : (b : Bool) → is_name bytes ≡ b → false ≡ is_name bytes
    by true e = let never : false ≡ true = from (name_from_test bytes e) in absurd cc
    by false e = sym e
