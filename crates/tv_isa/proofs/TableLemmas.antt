-- Searches in the table of instructions.
use Rattle.std.proofs.Common.{◌≡◌, ℕ, ◌<◌, nat_lt, Bool, true, false, cond, ◌&&◌, List, [], ◌∷◌, map, Option, Some, None, refl, sym}
use Rattle.std.proofs.lemmas.Bool.{ltb-true}
use Rattle.std.specs.List.{find, list_all}
use Rattle.std.specs.Option.{option_map, IfSome}
use Rattle.std.specs.Str.{bytes_eq}
use Rattle.tv_isa.specs.Table.{instructions, row_of, with_name}
use Rattle.tv_isa.specs.declared.operation.Operation.{Operation}

chosen : {A B : Type 0} (f : A → B) (b : Bool) (x : A) (m : Option A) (n : Option B) → n ≡ option_map f m
    → cond b (Some (f x)) n ≡ option_map f (cond b (Some x) m)
chosen f true x m n e = refl
chosen f false x m n e = e

pub find-map : {A B : Type 0} (f : A → B) (p : B → Bool) (xs : List A) → find p (map f xs) ≡ option_map f (find (λ x. p (f x)) xs)
find-map f p [] = refl
find-map f p (x ∷ xs) = chosen f (p (f x)) x (find (λ y. p (f y)) xs) (find p (map f xs)) (find-map f p xs)

found : {A : Type 0} (q : A → Bool) (x y : A) (here passes all : Bool) (rest : Option A) → cond here (Some y) rest ≡ Some x → (passes && all) ≡ true
    → q y ≡ passes → (all ≡ true → rest ≡ Some x → q x ≡ true) → q x ≡ true
found q x y true true all rest f h e more = cc
found q x y false true all rest f h e more = more h f
found q x y here false all rest f h e more = cc

-- what holds of each row holds of the row that is found
pub find-all : {A : Type 0} (p q : A → Bool) (xs : List A) (x : A) → list_all q xs ≡ true → find p xs ≡ Some x → q x ≡ true
find-all p q [] x h f = cc
find-all p q (y ∷ ys) x h f = found q x y (p y) (q y) (list_all q ys) (find p ys) f h refl (find-all p q ys x)

-- each opcode of the table is below 32
opcodes : list_all (λ r. nat_lt r.op 32) instructions ≡ true
unfolding instructions
opcodes = refl

-- so is the opcode of an operation that is found by its name
pub with_name-used : (name : List ℕ) (o : Option Operation) → option_map row_of o ≡ with_name name → IfSome o (λ operation. operation.op < 32)
unfolding with_name
with_name-used name None e = tt
with_name-used name (Some operation) e =
    ltb-true operation.op 32 (find-all (λ r. bytes_eq r.name name) (λ r. nat_lt r.op 32) instructions (row_of operation) opcodes (sym e))
