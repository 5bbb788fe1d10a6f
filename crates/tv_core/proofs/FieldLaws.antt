-- Lists of numbers of the field, and words as its numbers.
use Rattle.std.proofs.Common.{ℕ, zero, suc, ◌+◌, ◌^◌, ◌<◌, List, [], ◌∷◌, ◌++◌, map, subst, sym, arith}
use Rattle.std.specs.List.{range_with_len}
use Rattle.std.proofs.lemmas.List.Elements.{All-nil, All-cons, All-append}
use Rattle.tv_core.proofs.JoinedLaws.{joined_below-zero, joined_below-suc}
use Rattle.tv_core.specs.Below.{each_below, joined_below}
use Rattle.tv_core.specs.Laws.{InField}
use Rattle.tv_core.specs.declared.field.TheConstants.{P}
use Rattle.tv_word.proofs.WidthLaws.{word_small}
use Rattle.tv_word.specs.Widths.{IsWidth}

pub word-below : (w : ℕ) → IsWidth w → (n : ℕ) → n < 2 ^ w → n < P
word-below w width n h = let small = word_small w width n h in omega arith

pub InField-none : InField []
InField-none = All-nil (λ v. v < P)

pub InField-cons : (v : ℕ) (rest : List ℕ) → v < P → InField rest → InField (v ∷ rest)
InField-cons v rest small others = All-cons (λ v. v < P) v rest small others

pub InField-append : (xs ys : List ℕ) → InField xs → InField ys → InField (xs ++ ys)
InField-append xs ys h k = All-append (λ v. v < P) xs ys h k

in_field_range : (f : ℕ → ℕ) → ((i : ℕ) → f i < P) → (a n : ℕ) → InField (map f (range_with_len a n))
in_field_range f small a zero = InField-none
in_field_range f small a (suc n) = InField-cons (f a) _ (small a) (in_field_range f small (a + 1) n)

pub InField-each_below : (f : ℕ → ℕ) → ((i : ℕ) → f i < P) → (n : ℕ) → InField (each_below n f)
unfolding each_below
InField-each_below f small n = in_field_range f small 0 n

pub InField-joined_below : (f : ℕ → List ℕ) (n : ℕ) → ((i : ℕ) → i < n → InField (f i)) → InField (joined_below n f)
InField-joined_below f zero each = subst InField (sym (joined_below-zero f)) InField-none
InField-joined_below f (suc n) each =
    subst InField (sym (joined_below-suc n f))
    (InField-append (joined_below n f) (f n) (InField-joined_below f n (λ i h. each i (omega arith))) (each n (omega arith)))
