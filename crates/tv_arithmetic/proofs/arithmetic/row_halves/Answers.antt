use Rattle.tv_core.proofs.Common.{◌≡◌, inl, inr, refl, arith, cases_eq}
use Rattle.tv_arithmetic.proofs.arithmetic.row_halves.Goals as goal

pub returns-in-4-clause-low : goal.returns-in-4-clause-low
returns-in-4-clause-low g c = rw c.in-4.is c.sum.ensures.word

pub returns-in-14 : goal.returns-in-14
returns-in-14 g c = rw c.in-14.is c.difference_halves.ensures

pub returns-in-16 : goal.returns-in-16
returns-in-16 g c = rw c.in-16.is c.difference_halves-in-16.ensures

pub returns-in-17 : goal.returns-in-17
returns-in-17 g c = rw c.in-17.is c.difference_halves-in-17.ensures

pub returns-in-5 : goal.returns-in-5
returns-in-5 g c =
    let is = c.difference_halves-in-5.ensures in
    elim c.in-5.is [ inl e ↦ rw e is | inr (inl e) ↦ rw e is | inr (inr e) ↦ rw e is ]

pub returns-in-8 : goal.returns-in-8
returns-in-8 g c = rw c.in-8.is c.signed_product_halves.ensures

pub returns-in-11 : goal.returns-in-11
returns-in-11 g c = rw c.in-11.is c.left_halves.ensures

pub returns-in-12 : goal.returns-in-12
returns-in-12 g c = rw c.in-12.is c.right_halves.ensures

pub returns-in-6 : goal.returns-in-6
returns-in-6 g c =
    elim (cases_eq c.args.k 6) [
      | inl e ↦ rw e record { low = c.low_product.ensures.word; high = c.high_product.ensures.word }
      | inr some ↦ let e : c.args.k ≡ 7 = grind arith in rw e record { low = c.low_product.ensures.word; high = c.high_product.ensures.word }
    ]

pub returns-in-9 : goal.returns-in-9
returns-in-9 g c =
    elim (cases_eq c.args.k 9) [
      | inl e ↦ rw e record { low = c.remainder.ensures.word; high = c.quotient.ensures.word }
      | inr some ↦ let e : c.args.k ≡ 10 = omega arith in rw e record { low = c.remainder.ensures.word; high = c.quotient.ensures.word }
    ]

pub returns-in_default : goal.returns-in_default
returns-in_default g c = let e : c.args.k ≡ 3 = omega arith in rw e record { low = refl; high = refl }
