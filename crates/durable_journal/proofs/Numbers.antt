-- Numbers in eight bytes.
use Rattle.std.proofs.Common.{◌≡◌, ℕ, ◌<◌, ◌^◌, List, length, get_or, refl, sym, ◌∙◌, ap}
use Rattle.std.specs.Int.{w64, from_be_bytes}
use Rattle.std.proofs.lemmas.Nat.{be_bytes_8, from_be_bytes-to_be_bytes_8}
use Rattle.durable_journal.specs.Stored.{number_bytes}

pub length-number_bytes : (n : ℕ) → length (number_bytes n) ≡ 8
unfolding number_bytes
length-number_bytes n = refl

-- the number that they are
pub number_of : (n : ℕ) → n < 2 ^ 64 → from_be_bytes w64 (number_bytes n) ≡ n
unfolding number_bytes
number_of n small = from_be_bytes-to_be_bytes_8 n small

pub same_number : (n m : ℕ) → n < 2 ^ 64 → m < 2 ^ 64 → number_bytes n ≡ number_bytes m → n ≡ m
same_number n m small_n small_m same = sym (number_of n small_n) ∙ ap (λ (l : List ℕ). from_be_bytes w64 l) same ∙ number_of m small_m

pub bytes_of_number : (bytes : List ℕ) (n : ℕ) → length bytes ≡ 8 → ((i : ℕ) → get_or bytes i 0 < 256) → n ≡ from_be_bytes w64 bytes → number_bytes n ≡ bytes
unfolding number_bytes
bytes_of_number bytes n long small is = be_bytes_8 bytes n long small is
