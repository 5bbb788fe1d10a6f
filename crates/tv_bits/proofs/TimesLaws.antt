-- The laws of a product, of a value kept, and of a ratio, as a new wire.
use Rattle.tv_core.proofs.Common.{◌≡◌, ℕ, ◌+◌, ◌*◌, ◌%◌, ◌<◌, [], refl, sym, ◌∙◌, ap, arith, mod-lt, zero-mul, cases_eq, value-wire, InField-none, InField-cons}
use Rattle.tv_core.proofs.Common.{fresh, put, pure, ◌>>=◌, constant, Combination, value}
use Rattle.std.proofs.Common.{mul_comm}
use Rattle.std.proofs.Math.Nat.{mul_assoc}
use Rattle.std.proofs.lemmas.Nat.{mul-mod_first, mul-mod_second}
use Rattle.tv_core.proofs.CombinationLaws.{value-once}
use Rattle.tv_core.proofs.InverseLaws.{mul-inverse_of}
use Rattle.tv_core.specs.Inverse.{inverse_of}
use Rattle.tv_core.specs.declared.field.TheConstants.{P}
use Rattle.tv_bits.specs.Times.{times_of, kept_of, TimesIsSound, TimesIsComplete, TimesSizes, KeptIsSound, KeptIsComplete, KeptSizes}
use Rattle.tv_bits.specs.Ratio.{ratio, ratio_of, RatioIsSound, RatioIsComplete, RatioDivides, RatioSizes}

-- ---- a product
pub times_answer : (x y : Combination) (next : ℕ) → (times_of x y next).answer ≡ next
unfolding times_of fresh put pure ◌>>=◌
times_answer x y next = refl

pub times_next : (x y : Combination) (next : ℕ) → (times_of x y next).next ≡ next + 1
unfolding times_of fresh put pure ◌>>=◌
times_next x y next = refl

pub times_sound : TimesIsSound
unfolding times_of fresh put pure ◌>>=◌
times_sound z next x y assigns meets = sym (value-wire assigns next) ∙ sym meets.0

pub times_complete : TimesIsComplete
unfolding times_of fresh put pure ◌>>=◌
times_complete z next x y assigns has = (sym has.0 ∙ sym (value-wire assigns next), tt)

pub residue_below : (a : ℕ) → a % P < P
residue_below a = mod-lt a (omega arith)

pub times_sizes : TimesSizes
times_sizes = record {
  answer = times_answer;
  end = times_next;
  fills = λ x y a b next. times_next x y next;
  in_field = λ a b. InField-cons (a * b % P) [] (residue_below (a * b)) InField-none;
}

-- ---- a value kept
pub kept_answer : (x : Combination) (next : ℕ) → (kept_of x next).answer ≡ next
kept_answer x next = times_answer x (constant 1) next

pub kept_next : (x : Combination) (next : ℕ) → (kept_of x next).next ≡ next + 1
kept_next x next = times_next x (constant 1) next

pub kept_sound : KeptIsSound
kept_sound z next x assigns meets = times_sound z next x (constant 1) assigns meets ∙ value-once z x assigns

pub kept_complete : KeptIsComplete
kept_complete z next x assigns has = times_complete z next x (constant 1) assigns (has.0 ∙ sym (value-once z x assigns), tt)

pub kept_sizes : KeptSizes
kept_sizes = record {
  answer = kept_answer;
  end = kept_next;
  fills = λ x v next. kept_next x next;
  in_field = λ v small. InField-cons v [] small InField-none;
}

-- ---- a ratio
pub ratio_sound : RatioIsSound
unfolding ratio_of fresh put pure ◌>>=◌
ratio_sound z next x y assigns meets = ap (λ n. value x z * n % P) (sym (value-wire assigns next)) ∙ meets.0

pub ratio_complete : RatioIsComplete
unfolding ratio_of fresh put pure ◌>>=◌
ratio_complete z next x y q assigns is has = (ap (λ n. value x z * n % P) (value-wire assigns next ∙ has.0) ∙ is, tt)

turned : (a b i : ℕ) → a * (b * i) ≡ a * i * b
turned a b i = ap (λ n. a * n) (mul_comm b i) ∙ sym (mul_assoc a i b)

times_one : (b : ℕ) → b < P → 1 * b % P ≡ b
times_one b small = omega arith

zero_times : (a n : ℕ) → a % P ≡ 0 → a * n % P ≡ 0
zero_times a n none = sym (mul-mod_first a n P) ∙ ap (λ k. k * n % P) none ∙ ap (λ k. k % P) (zero-mul n)

pub ratio_divides : RatioDivides
ratio_divides a b small zero = search (arith, cases_eq, zero_times, mul-mod_second, turned, mul-mod_first, mul-inverse_of, times_one)

pub ratio_sizes : RatioSizes
unfolding ratio_of fresh put pure ◌>>=◌
ratio_sizes = record {
  answer = λ x y next. refl;
  end = λ x y next. refl;
  fills = λ x y a b next. refl;
  in_field = λ a b. InField-cons (ratio a b) [] (residue_below (b * inverse_of a)) InField-none;
}

pub ruleset times_laws = (times_sound, times_complete, times_sizes)

pub ruleset kept_laws = (kept_sound, kept_complete, kept_sizes)

pub ruleset ratio_laws = (ratio_sound, ratio_complete, ratio_divides, ratio_sizes)
