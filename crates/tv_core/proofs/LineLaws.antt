-- The two ways to say that lines are honest are one, and pairs are the same by their numbers.
use Rattle.std.proofs.Common.{◌≡◌, ℕ, List, [], ◌∷◌, ◌++◌, fold, refl, ap, ap₂, subst}
use Rattle.tv_core.specs.Lines.{Line, written, HonestFrom}
use Rattle.tv_core.specs.declared.lines.PairNum.{PairNum}

pub Honest-from_HonestFrom : (memory : ℕ → ℕ) (lines earlier : List Line) (line : Line) (later : List Line)
    → HonestFrom memory lines → lines ≡ earlier ++ line ∷ later → line.old ≡ fold written memory earlier line.cell
Honest-from_HonestFrom memory [] [] line later h e = cc
Honest-from_HonestFrom memory [] (x ∷ earlier) line later h e = cc
Honest-from_HonestFrom memory (first ∷ rest) [] line later h e = let same : first ≡ line = cc in subst (λ l. l.old ≡ memory l.cell) same h.0
Honest-from_HonestFrom memory (first ∷ rest) (x ∷ earlier) line later h e =
    let same : first ≡ x = cc in
    let others : rest ≡ earlier ++ line ∷ later = cc in
    Honest-from_HonestFrom (written memory x) rest earlier line later (subst (λ l. HonestFrom (written memory l) rest) same h.1) others

pub HonestFrom-from_Honest : (memory : ℕ → ℕ) (lines : List Line)
    → ((earlier : List Line) (line : Line) (later : List Line) → lines ≡ earlier ++ line ∷ later → line.old ≡ fold written memory earlier line.cell)
    → HonestFrom memory lines
HonestFrom-from_Honest memory [] h = tt
HonestFrom-from_Honest memory (first ∷ rest) h =
    (h [] first rest refl, HonestFrom-from_Honest (written memory first) rest (λ earlier line later e. h (first ∷ earlier) line later (ap (λ l. first ∷ l) e)))

pub pair_same : (a b c d : ℕ) → a ≡ c → b ≡ d → ◌≡◌ {A = PairNum} (record { first = a; second = b }) (record { first = c; second = d })
pair_same a b c d p q = ap₂ (λ (x y : ℕ). let pair : PairNum = record { first = x; second = y } in pair) p q
