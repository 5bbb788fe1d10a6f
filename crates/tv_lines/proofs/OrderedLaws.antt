-- What address order says of lines, by their times alone.
use Rattle.tv_core.proofs.Common.{◌≡◌, ℕ, ◌+◌, ◌-◌, ◌<◌, ◌≤◌, ◌⊎◌, List, length, get_or, sym, ap, ◌∙◌, arith, inl, inr, zero, suc, Line}
use Rattle.std.proofs.Common.{Contains, IsPermutation}
use Rattle.std.proofs.lemmas.List.{get_or_default}
use Rattle.std.proofs.lemmas.List.Elements.{Contains-get_or}
use Rattle.std.proofs.lemmas.List.Sorted.{Contains-permutation, IsPermutation-sym}
use Rattle.std.proofs.lemmas.Bool.{cases_order}
use Rattle.tv_lines.specs.Ordered.{Ordered, Follows}

-- honest lines in any order: by the times alone
pub record HonestByTimes (ls : List Line) : Type 0 where
  pub latest : (p l : Line) → Contains ls p → Contains ls l → p.cell ≡ l.cell → p.time < l.time
      → ((m : Line) → Contains ls m → m.cell ≡ l.cell → p.time < m.time → m.time < l.time → ⊥) → l.old ≡ p.new
  pub first : (l : Line) → Contains ls l → ((m : Line) → Contains ls m → m.cell ≡ l.cell → m.time < l.time → ⊥) → l.old ≡ 0

-- (cell, time) rises
record Below (p l : Line) : Type 0 where
  cells : p.cell ≤ l.cell
  times : p.cell ≡ l.cell → p.time < l.time

below_next : {p l : Line} → Follows p l → Below p l
below_next h = omega arith

rises : (ls : List Line) → Ordered ls → (i n : ℕ) (d : Line) → i + suc n < length ls → Below (get_or ls i d) (get_or ls (i + suc n) d)
rises ls o i zero d h = below_next (o.follows i d (omega arith))
rises ls o i (suc n) d h =
    let e : i + suc (suc n) ≡ (i + suc n) + 1 = omega arith in
    let before = rises ls o i n d (omega arith) in
    let next = below_next (o.follows (i + suc n) d (omega arith)) in
    rw e (omega (arith, before, next))

rises_far : (ls : List Line) → Ordered ls → (i j : ℕ) (d : Line) → i < j → j < length ls → Below (get_or ls i d) (get_or ls j d)
rises_far ls o i j d h k =
    let e : i + suc (j - i - 1) ≡ j = omega arith in
    rw e at (rises ls o i (j - i - 1) d (omega arith))

-- two members stand as their keys do
rises_between : (ls : List Line) → Ordered ls → (i j : ℕ) (p l : Line) → i < j → j < length ls → get_or ls i p ≡ p → get_or ls j l ≡ l → Below p l
rises_between ls o i j p l h k e f =
    let e' : get_or ls i l ≡ p = get_or_default ls i l p (omega arith) ∙ e in
    rw (e', f) at (rises_far ls o i j l h k)

-- the line before l
before : (ls : List Line) → Ordered ls → (a : ℕ) (l : Line) → 0 < a → a < length ls → get_or ls a l ≡ l → Follows (get_or ls (a - 1) l) l
before ls o a l h k e =
    let n : (a - 1) + 1 ≡ a = omega arith in
    let f : Follows (get_or ls (a - 1) l) (get_or ls ((a - 1) + 1) l) = o.follows (a - 1) l (omega arith) in
    rw (n, e) at f

-- the latest earlier line p of the cell stands right before l
latest_at : (ls : List Line) → Ordered ls → (a b : ℕ) (l p : Line) → a < length ls → get_or ls a l ≡ l → b < length ls → get_or ls b p ≡ p → p.cell ≡ l.cell
    → p.time < l.time → ((m : Line) → Contains ls m → m.cell ≡ l.cell → p.time < m.time → m.time < l.time → ⊥) → ((a ≡ b) ⊎ ((a < b) ⊎ (b < a))) → l.old ≡ p.new
latest_at ls o a b l p h e k f same early none (inl same_place) =
    let g : l ≡ p = sym e ∙ (get_or_default ls a l p h ∙ (ap (λ i. get_or ls i p) same_place ∙ f)) in
    let t : l.time ≡ p.time = ap (λ (x : Line). x.time) g in absurd (omega arith)
latest_at ls o a b l p h e k f same early none (inr (inl after_it)) =
    let g : Below l p = rises_between ls o a b l p after_it k e f in absurd (omega arith)
latest_at ls o a b l p h e k f same early none (inr (inr before_it)) =
    let n = before ls o a l (omega arith) h e in
    next n (cases_order b (a - 1))
  where
    q : Line
    q = get_or ls (a - 1) l

    next : Follows q l → ((b ≡ a - 1) ⊎ ((b < a - 1) ⊎ (a - 1 < b))) → l.old ≡ p.new
    next n (inl there) =
        let g : q ≡ p = get_or_default ls (a - 1) l p (omega arith) ∙ (ap (λ i. get_or ls i p) (sym there) ∙ f) in
        let c : q.cell ≡ l.cell = ap (λ (x : Line). x.cell) g ∙ same in
        n.carried c ∙ ap (λ (x : Line). x.new) g
    next n (inr (inl far)) =
        let g : Below p q = rises_between ls o b (a - 1) p q far (omega arith) f (get_or_default ls (a - 1) q l (omega arith)) in
        let c = below_next n in
        absurd (none q (Contains-get_or ls (a - 1) l (omega arith)) (omega arith) (omega arith) (omega arith))
    next n (inr (inr past)) = absurd (omega arith)

first_at : (ls : List Line) → Ordered ls → (a : ℕ) (l : Line) → a < length ls → get_or ls a l ≡ l
    → ((m : Line) → Contains ls m → m.cell ≡ l.cell → m.time < l.time → ⊥) → l.old ≡ 0
first_at ls o zero l h e none = rw e at (o.first l h)
first_at ls o (suc a) l h e none =
    let n = before ls o (suc a) l (omega arith) h e in
    let g = below_next n in
    n.fresh (λ same. none (get_or ls (suc a - 1) l) (Contains-get_or ls (suc a - 1) l (omega arith)) same (g.times same))

pub by_times : (ls : List Line) → Ordered ls → HonestByTimes ls
by_times ls o = record {
  latest = λ p l (b, k, f) (a, h, e) same early none. latest_at ls o a b l p h e k f same early none (cases_order a b);
  first = λ l (a, h, e) none. first_at ls o a l h e none;
}

pub by_times-permutation : (xs ys : List Line) → IsPermutation xs ys → HonestByTimes ys → HonestByTimes xs
by_times-permutation xs ys p h = record {
  latest = λ q l hq hl same early none. h.latest q l (Contains-permutation xs ys q p hq) (Contains-permutation xs ys l p hl) same early
      (λ m hm. none m (Contains-permutation ys xs m (IsPermutation-sym xs ys p) hm));
  first = λ l hl none. h.first l (Contains-permutation xs ys l p hl) (λ m hm. none m (Contains-permutation ys xs m (IsPermutation-sym xs ys p) hm));
}
