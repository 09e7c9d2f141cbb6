use Rattle.std.proofs.Common.{◌≡◌, ℕ, ◌^◌, ◌≤◌, ℤ, pos, ◌*ℤ◌, unsigned_abs, FitsSigned, arith, w32, w64, to_z, of_z}
use Rattle.std.proofs.lemmas.Int.{ints}
use Rattle.numbers.specs.Integers.{mul_bound, product_back}
use Rattle.numbers.specs.Nearest.{ten_most}
use Rattle.numbers.proofs.sig.Sig.counted.Goals as goal

-- a number that went to bits and is read again
abbrev back : ℤ → ℤ
back z = to_z w64 (of_z w64 z)

-- the mantissa times the power, as the code has it
record Count (m : ℤ) (e : ℕ) (n : ℤ) : Type 0 where
  fits : FitsSigned w64 n
  is : back n ≡ m *ℤ pos (10 ^ e)

made : (m x p : ℤ) (e i : ℕ) → unsigned_abs m ≤ 999999 → e ≤ 12 → x ≡ to_z w32 (of_z w32 m) → i ≡ e → p ≡ pos (10 ^ i) → Count m e (back x *ℤ back p)
made m x p e i digits small f g h =
    let ten = ten_most e small in
    let power : p ≡ pos (10 ^ e) = rw g at h in
    let xm : back x ≡ m = omega (arith, ints) in
    let pe : back p ≡ pos (10 ^ e) = omega (arith, ints, ten) in
    let size = mul_bound m (pos (10 ^ e)) 999999 1000000000000 digits ten in
    let fits : FitsSigned w64 (m *ℤ pos (10 ^ e)) = omega (arith, ints, size) in
    record { fits = rw (xm, pe) fits; is = product_back w64 m (pos (10 ^ e)) fits xm pe }

pub pow-requires : goal.pow-requires
pow-requires c = let p = ten_most c.args.self.exponent c.args.self.power in rw c.from-2.ensures (omega (arith, ints, p))

pub overflow_mul-result : goal.overflow_mul-result
overflow_mul-result c =
    (made c.args.self.mantissa c.from.result c.pow.result c.args.self.exponent c.from-2.result c.args.self.six c.args.self.power c.from.ensures c.from-2.ensures c.pow.ensures).fits

pub returns : goal.returns
returns c =
    (made c.args.self.mantissa c.from.result c.pow.result c.args.self.exponent c.from-2.result c.args.self.six c.args.self.power c.from.ensures c.from-2.ensures c.pow.ensures).is
