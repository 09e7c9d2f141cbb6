-- The bits of the words that the code makes and tests.
use Rattle.std.proofs.Common.{◌≡◌, ℕ, ◌*◌, ◌/◌, ◌%◌, ◌^◌, ◌<◌, ◌≤◌, false, ◌||◌, eqb, bit_and, bit_or, arith}
use Rattle.std.proofs.lemmas.Bool.Decides.{nat_tests}
use Rattle.std.proofs.lemmas.Nat.{one_shl}
use Rattle.std.proofs.lemmas.Nat.Bits.{shr_and_one, bit_at_or, bit_at-lt, bit_at-zero, bit_at-pow_same, bit_at-pow_other, bit_at_above}
use Rattle.sets.specs.Members.{bit}

pub bit-zero : (i : ℕ) → bit 0 i ≡ false
unfolding bit
bit-zero i = grind (arith, nat_tests, bit_at-zero)

pub bit-one_shl : (e i : ℕ) → e < 64 → bit (1 * 2 ^ e % 2 ^ 64) i ≡ eqb i e
unfolding bit
bit-one_shl e i h = rw one_shl (grind (arith, nat_tests, bit_at-pow_same, bit_at-pow_other))

pub bit-or : (a b i : ℕ) → bit (bit_or a b) i ≡ bit a i || bit b i
unfolding bit
bit-or a b i = grind (arith, nat_tests, bit_at_or, bit_at-lt)

-- a word has 64 bits
pub bit_past : (w i : ℕ) → w < 2 ^ 64 → 64 ≤ i → bit w i ≡ false
unfolding bit
bit_past w i h l = grind (arith, nat_tests, bit_at_above w 64 i h l)

pub shr_and_one_is : (w i : ℕ) → eqb (bit_and (w / 2 ^ i) 1) 1 ≡ bit w i
unfolding bit
shr_and_one_is w i = grind (arith, nat_tests, shr_and_one)

pub ruleset bits_of_words = (bit-zero, bit-one_shl, bit-or, bit_past, shr_and_one_is)
