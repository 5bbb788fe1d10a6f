-- Terms that are summed as they are read, with none kept.
use Rattle.tv_core.proofs.Common.{◌≡◌, ℕ, ◌+◌, ◌*◌, ◌%◌, ◌≤◌, List, [], ◌∷◌, ◌++◌, Result, Ok, refl, ap, sym, ◌∙◌, arith, ◌==◌, Bool, true, false}
use Rattle.tv_core.proofs.Common.{eqb-true, eq-eqb, ne_eqb, length-map, Combination, value}
use Rattle.std.proofs.Common.{◌<◌, length, length-append, slice_index, add-zero, zero-add}
use Rattle.std.proofs.lemmas.Bool.{eqb-false}
use Rattle.std.proofs.Math.Nat.{mod-mod}
use Rattle.std.proofs.lemmas.List.Sums.{sum_by-append}
use Rattle.std.proofs.lemmas.List.Elements.{All-append, All-nil, All-push}
use Rattle.tv_core.specs.declared.field.TheConstants.{P}
use Rattle.tv_core.proofs.Residues.{add-mod_same, add_cancel-mod, mul-mod_same, sum_by-map}
use Rattle.tv_container.specs.Places.{Fault, number}
use Rattle.tv_container.specs.Reading.{IsPiece, Piece}
use Rattle.tv_r1cs_read.specs.R1cs.{Read, term_at, combination_at, constraint_at}
use Rattle.tv_r1cs_read.specs.Rows.{combination_of, combination_read}
use Rattle.tv_r1cs_read.specs.Sums.{sum_of, Adds, SumsTo, IsTried}
use Rattle.tv_r1cs_read.specs.declared.terms.Bounds.{Bounds}
use Rattle.tv_r1cs_read.proofs.Ahead.{AreAt-append, combination_at-read, count_at-good}

sum_of-append : (z : List ℕ) (xs ys : List (ℕ × ℕ)) → sum_of z (xs ++ ys) ≡ sum_of z xs + sum_of z ys
sum_of-append z xs ys = sum_by-append (λ (t : ℕ × ℕ). t.1 * slice_index z t.0) xs ys

-- no term is added
pub adds_none : (piece : Piece) (bounds : Bounds) (z : List ℕ) (at sum : ℕ) → Adds piece bounds z at 0 sum sum
adds_none piece bounds z at sum = record { terms = []; count = refl; below = All-nil _; there = λ file held. tt; so = sym (add-zero sum) }

-- one term that a window holds, and one after others
pub adds_one : (piece : Piece) (bounds : Bounds) (z : List ℕ) (at old wire coefficient : ℕ) → wire < bounds.wires →
    ((file : List ℕ) → IsPiece piece file → term_at file bounds.wires bounds.end at ≡ Ok (coefficient, wire)) →
    Adds piece bounds z at 1 old (old + coefficient * slice_index z wire)
adds_one piece bounds z at old wire coefficient below term = record {
  terms = (wire, coefficient) ∷ [];
  count = refl;
  below = All-push (λ (t : ℕ × ℕ). t.0 < bounds.wires) [] (wire, coefficient) (All-nil _) below;
  there = λ file held. (term file held, tt);
  so = omega arith;
}

pub adds_more : (piece : Piece) (bounds : Bounds) (z : List ℕ) (at count old sum new here : ℕ) → Adds piece bounds z at count old sum →
    here ≡ at + 12 * count → Adds piece bounds z here 1 sum new → Adds piece bounds z at (count + 1) old new
adds_more piece bounds z at count old sum new here before is one = record {
  terms = before.terms ++ one.terms;
  count = omega (arith, length-append before.terms one.terms, before.count, one.count);
  below = All-append (λ (t : ℕ × ℕ). t.0 < bounds.wires) _ _ before.below one.below;
  there = λ file held. AreAt-append file bounds at here before.terms one.terms (omega (arith, is, before.count)) (before.there file held) (one.there file held);
  so = omega (arith, before.so, one.so, sum_of-append z before.terms one.terms);
}

-- a combination that was read was added
pub sums_to : (answer : Result (Read Combination) Fault) (z : List ℕ) (terms : List (ℕ × ℕ)) (first sum at next : ℕ) →
    answer ≡ Ok (combination_read terms next) → sum ≡ first + sum_of z terms → next ≡ at + 4 + 12 * length terms → SumsTo answer z first sum at next
sums_to answer z terms first sum at next is added size = record {
  terms = combination_of terms;
  size = size ∙ ap (λ n. at + 4 + 12 * n) (sym (length-map {B = ℕ × ℕ} terms (λ (t : ℕ × ℕ). (t.1, t.0))));
  read = is;
  is = added ∙ ap (λ s. first + s) (sym (sum_by-map (λ (t : ℕ × ℕ). t.0 * slice_index z t.1) (λ (t : ℕ × ℕ). (t.1, t.0)) terms));
}

-- so was one that a window holds
pub held : (piece : Piece) (bounds : Bounds) (z file : List ℕ) (at count first sum : ℕ) → IsPiece piece file → at + 4 + 12 * count ≤ bounds.end →
    count ≡ number file 4 at → count ≤ 1048576 → Adds piece bounds z (at + 4) count first sum →
    SumsTo (combination_at file bounds.wires bounds.end at) z first sum at (at + 4 + 12 * count)
held piece bounds z file at count first sum is_piece within is narrow added =
    let size : at + 4 + 12 * count ≡ at + 4 + 12 * length added.terms = omega (arith, added.count) in
    sums_to _ z added.terms first sum at _
    (combination_at-read file bounds at count _ added.terms (count_at-good file _ _ _ (omega (arith, within)) (sym is) narrow) added.count
    (omega (arith, added.count)) (added.there file is_piece)) added.so size

-- a constraint is its three combinations
pub three : (file : List ℕ) (wires end at : ℕ) (z : List ℕ) (a b c v r first second third : ℕ) (holds : Bool)
    (is_a : SumsTo (combination_at file wires end at) z 0 a at first) (is_b : SumsTo (combination_at file wires end first) z 0 b first second)
    (is_c : SumsTo (combination_at file wires end second) z r c second third) → holds ≡ (a % P * (b % P) % P == v) → v ≡ value is_c.terms z →
    IsTried (constraint_at file wires end at) z holds at third
unfolding constraint_at
three file wires end at z a b c v r first second third holds is_a is_b is_c is v_is = record {
  constraint = record { a = is_a.terms; b = is_b.terms; c = is_c.terms };
  size = omega (arith, is_a.size, is_b.size, is_c.size);
  read = rw (is_a.read, is_b.read, is_c.read) refl;
  is = is ∙ rw (v_is, is_a.is, is_b.is, zero-add, zero-add) refl;
}

same_test : (a b c d : ℕ) → (a ≡ b → c ≡ d) → (c ≡ d → a ≡ b) → (a == b) ≡ (c == d)
same_test a b c d there back = by_test (a == b) refl
  where
    by_test : (test : Bool) → (a == b) ≡ test → test ≡ (c == d)
    by_test true e = sym (eq-eqb c d (there (eqb-true a b e)))
    by_test false e = sym (ne_eqb c d (λ same. eqb-false a b e (back same)))

-- what a product leaves of a number makes it again exactly where the product is added
product_added : (rest x y s whole : ℕ) → rest + x * y ≡ whole → ((rest + s) % P == whole % P) ≡ (x * y % P == s % P)
product_added rest x y s whole is =
    same_test _ _ _ _
    (λ same. sym (add_cancel-mod rest s (x * y) P (same ∙ ap (λ n. n % P) (sym is))))
    (λ same. add-mod_same rest rest s (x * y) P refl (sym same) ∙ ap (λ n. n % P) is)

-- a constraint is its three combinations, the last added to what the product of the others leaves of a number
pub three_added : (file : List ℕ) (wires end at : ℕ) (z : List ℕ) (a b c x y rest whole first second third : ℕ) (holds : Bool) →
    SumsTo (combination_at file wires end at) z 0 a at first → SumsTo (combination_at file wires end first) z 0 b first second →
    SumsTo (combination_at file wires end second) z rest c second third → x % P ≡ a % P → y % P ≡ b % P → rest + x * y ≡ whole →
    holds ≡ (c % P == whole % P) → IsTried (constraint_at file wires end at) z holds at third
three_added file wires end at z a b c x y rest whole first second third holds is_a is_b is_c x_is y_is left is =
    let product : x * y % P ≡ a % P * (b % P) % P = mul-mod_same x (a % P) y (b % P) P (x_is ∙ sym (mod-mod a P)) (y_is ∙ sym (mod-mod b P)) in
    three file wires end at z a b c _ rest first second third holds is_a is_b is_c
    (is ∙ ap (λ s. s % P == whole % P) is_c.is ∙ product_added rest x y _ whole left ∙ ap (λ n. n == value is_c.terms z) product) refl
