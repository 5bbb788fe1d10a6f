-- Cases over the opcodes that are used, and over the entries of a table.
use Rattle.tv_core.proofs.Common.{◌≡◌, ℕ, zero, suc, ◌<◌, ◌==◌, Bool, true, false, if◌then◌else◌, List, [], ◌∷◌, ◌++◌, inl, inr, refl, sym, ◌∙◌, ap, subst}
use Rattle.tv_core.proofs.Common.{arith, cases_eq, cond_both, eqb-true}
use Rattle.std.proofs.Common.{◌&&◌, ◌||◌}
use Rattle.std.proofs.Common.{true≢false}
use Rattle.std.proofs.lemmas.Bool.{and_parts}
use Rattle.tv_isa.specs.Opcodes.{among, Entry, chosen, unused_ops}
use Rattle.tv_isa.specs.declared.opcode.TheConstants.{USED}

pub out : {A : Type 0} → false ≡ true → A
out e = absurd (true≢false (sym e))

-- ---- one proof for each opcode of a group
abbrev pub EachOf : (ℕ → Type 0) → List ℕ → Type 0
EachOf Q [] = Unit {0}
EachOf Q (k ∷ ks) = Q k × EachOf Q ks

pub each_of : (Q : ℕ → Type 0) (ks : List ℕ) → EachOf Q ks → (k : ℕ) → among ks k ≡ true → Q k
each_of Q [] each k t = out t
each_of Q (i ∷ ks) each k t = by_test (i == k) refl each.0 (each_of Q ks each.1 k) t
  where
    by_test : (b : Bool) → (i == k) ≡ b → Q i → (among ks k ≡ true → Q k) → among (i ∷ ks) k ≡ true → Q k
    by_test true e here rest t = subst Q (eqb-true i k e) here
    by_test false e here rest t = rest (sym (ap (λ b. if b then true else among ks k) e) ∙ t)

each_both : (Q : ℕ → Type 0) (ks js : List ℕ) → EachOf Q ks → EachOf Q js → EachOf Q (ks ++ js)
each_both Q [] js a b = b
each_both Q (k ∷ ks) js a b = (a.0, each_both Q ks js a.1 b)

pub each_map : (Q R : ℕ → Type 0) → ((k : ℕ) → Q k → R k) → (ks : List ℕ) → EachOf Q ks → EachOf R ks
each_map Q R f [] each = tt
each_map Q R f (k ∷ ks) each = (f k each.0, each_map Q R f ks each.1)

-- the used ones in four groups: the operations on two words, the comparisons, the moves and jumps, and the others
abbrev pub word_ops : List ℕ
word_ops = 0 ∷ 1 ∷ 2 ∷ 3 ∷ 4 ∷ 5 ∷ 6 ∷ 7 ∷ 8 ∷ 9 ∷ 10 ∷ 11 ∷ 12 ∷ []

abbrev pub compare_ops : List ℕ
compare_ops = 13 ∷ 14 ∷ 15 ∷ 16 ∷ 17 ∷ []

abbrev pub jump_ops : List ℕ
jump_ops = 18 ∷ 19 ∷ 20 ∷ 21 ∷ 22 ∷ []

abbrev pub other_ops : List ℕ
other_ops = 26 ∷ 27 ∷ 28 ∷ 29 ∷ 30 ∷ 31 ∷ []

-- a test of each number below n
abbrev all_below : ℕ → (ℕ → Bool) → Bool
all_below zero test = true
all_below (suc n) test = test n && all_below n test

passes : (n : ℕ) (test : ℕ → Bool) → all_below n test ≡ true → (k : ℕ) → k < n → test k ≡ true
passes zero test is k h = absurd (omega arith)
passes (suc n) test is k h =
    let parts = and_parts (test n) (all_below n test) is in
    elim (cases_eq k n) [ inl same ↦ ap test same ∙ parts.0 | inr apart ↦ passes n test parts.1 k (omega arith) ]

pub for_opcode : (Q : ℕ → Type 0) → EachOf Q word_ops → EachOf Q compare_ops → EachOf Q jump_ops → EachOf Q other_ops
    → (k : ℕ) → k < 32 → among unused_ops k ≡ false → Q k
for_opcode Q words compares jumps others k within used =
    let later = each_both Q compare_ops (jump_ops ++ other_ops) compares (each_both Q jump_ops other_ops jumps others) in
    let each = each_both Q word_ops (compare_ops ++ (jump_ops ++ other_ops)) words later in
    each_of Q USED each k (sym (ap (λ b. b || among USED k) used) ∙ passes 32 (λ j. among unused_ops j || among USED j) refl k within)

-- ---- the entries of a table
-- a proof for the value of each entry
abbrev pub EachGives : (ℕ → Type 0) → List (Entry ℕ) → Type 0
EachGives P [] = Unit {0}
EachGives P (e ∷ es) = P e.gives × EachGives P es

-- what holds of 0 and of all values in a table holds of its value for an opcode
pub chosen_in : (P : ℕ → Type 0) (table : List (Entry ℕ)) (op : ℕ) → P 0 → EachGives P table → P (chosen table op)
chosen_in P [] op none each = none
chosen_in P (e ∷ es) op none each = cond_both (among e.ops op) e.gives (chosen es op) P (λ _. each.0) (λ _. chosen_in P es op none each.1)
