-- The values of a network satisfy its constraints.
use Rattle.tv_core.proofs.Common.{◌≡◌, ℕ, zero, suc, ◌+◌, ◌-◌, ◌*◌, ◌/◌, ◌%◌, ◌^◌, ◌<◌, ◌==◌, Bool, true, false, List, [], ◌++◌, length, refl, sym, ◌∙◌, ap}
use Rattle.tv_core.proofs.Common.{ap₂, subst, arith, inl, inr, slice_index, cases_eq, Meets-join, HasFrom-split, Circuit, here, fresh, put, pure}
use Rattle.tv_core.proofs.Common.{turns, ◌>>=◌, Assigns, Meets, HasFrom, flag_of}
use Rattle.std.proofs.Common.{length-append}
use Rattle.std.proofs.lemmas.Nat.{pow_pos}
use Rattle.tv_core.proofs.MeetsLaws.{whole}
use Rattle.tv_core.specs.Lines.{pair_value}
use Rattle.tv_core.specs.declared.field.TheConstants.{P}
use Rattle.tv_core.specs.declared.lines.Pair.{Pair}
use Rattle.tv_core.specs.declared.lines.PairNum.{PairNum}
use Rattle.tv_bits.proofs.BitLaws.{bit_complete}
use Rattle.tv_bits.proofs.SelectLaws.{select_complete}
use Rattle.tv_bits.specs.Bit.{IsBit, bit_of}
use Rattle.tv_bits.specs.Select.{selected, pick_of}
use Rattle.tv_benes.proofs.NetworkLaws.{remainder_complete, column_sound, column_next, network_next, network_sound, each_switch}
use Rattle.tv_benes.proofs.ThroughLaws.{switches-suc, missing_small, one_switch, alternating-same, through-same, alternating_map}
use Rattle.tv_benes.specs.Network.{remainder_of, switch_of, column_of, last_column_of, network_of, switch_values, column_values}
use Rattle.tv_benes.specs.Network.{network_values, bit_in, AreValues, NetworkIsComplete}
use Rattle.tv_benes.specs.Places.{row, output, last_pair}
use Rattle.tv_benes.specs.Through.{switches, missing, from, passed, to_upper, to_lower, through, last_item}
use Rattle.tv_benes.specs.declared.shape.Net.{Net}
use Rattle.tv_word.proofs.FlagLaws.{flag_small}

-- ---- a switch
chosen : (f : PairNum → ℕ) (b : Bool) (x y : PairNum) → f (passed b x y) ≡ selected (flag_of b) (f y) (f x)
chosen f true x y = refl
chosen f false x y = refl

-- what a switch passes first and second has the sum of its items
summed : (f : PairNum → ℕ) (b : Bool) (x y : PairNum) (p q : ℕ) → p ≡ f (passed b x y) → q ≡ f (passed b y x) → (f x + f y) % P ≡ (p + q) % P
summed f true x y p q d e = let p_is : p ≡ f y = d in let q_is : q ≡ f x = e in omega arith
summed f false x y p q d e = let p_is : p ≡ f x = d in let q_is : q ≡ f y = e in omega arith

switch_complete : (z : List ℕ) (x y : Pair) (next : ℕ) (b : Bool) → Assigns z
    → HasFrom z next (switch_values b (pair_value z x) (pair_value z y)) → Meets z (switch_of x y next).list
unfolding switch_of remainder_of bit_of pick_of fresh put pure ◌>>=◌
switch_complete z x y next b assigns has =
    let px = pair_value z x in
    let py = pair_value z y in
    let is : slice_index z next ≡ flag_of b = has.0 in
    let bit : IsBit (slice_index z next) = subst IsBit (sym is) (flag_small b) in
    let one = bit_complete z next next assigns bit in
    let at : (u v : ℕ) → selected (flag_of b) u v ≡ selected (slice_index z next) u v = λ u v. ap (λ n. selected n u v) (sym is) in
    let p = select_complete z (next + 1) next y.first x.first assigns bit (has.1.0 ∙ chosen (λ v. v.first) b px py ∙ at py.first px.first, tt) in
    let p' = select_complete z (next + 1 + 1) next y.second x.second assigns bit (has.1.1.0 ∙ chosen (λ v. v.second) b px py ∙ at py.second px.second, tt) in
    let q = remainder_complete z assigns x.first y.first (next + 1) (next + 1 + 1 + 1) (summed (λ v. v.first) b px py _ _ has.1.0 has.1.1.1.0) in
    let q' = remainder_complete z assigns x.second y.second (next + 1 + 1) (next + 1 + 1 + 1 + 1)
    (summed (λ v. v.second) b px py _ _ has.1.1.0 has.1.1.1.1.0) in
    (one.0, (p.0, (p'.0, (q.0, (q'.0, tt)))))

-- ---- a column
column_values-length : (n : ℕ) (bit : ℕ → Bool) (v : ℕ → PairNum) → length (column_values n bit v) ≡ 5 * n
unfolding column_values
column_values-length zero bit v = omega arith
column_values-length (suc n) bit v =
    length-append (column_values n bit v) (switch_values (bit n) (v (2 * n)) (v (2 * n + 1))) ∙ omega (arith, column_values-length n bit v)

column_complete : (z : List ℕ) (n : ℕ) (item : ℕ → Pair) (next : ℕ) (bit : ℕ → Bool) (v : ℕ → PairNum) → Assigns z
    → ((j : ℕ) → j < 2 * n → pair_value z (item j) ≡ v j)
    → HasFrom z next (column_values n bit v) → Meets z (column_of n item next).list × ((j : ℕ) → j < n → slice_index z (next + 5 * j) ≡ flag_of (bit j))
unfolding column_of column_values turns pure
column_complete z zero item next bit v assigns is has = (tt, λ j h. absurd (omega arith))
column_complete z (suc n) item next bit v assigns is has =
    let piece : ℕ → Unit {0} → Circuit (Unit {0}) = λ j _. switch_of (item (2 * j)) (item (2 * j + 1)) in
    let before = column_values n bit v in
    let values = switch_values (bit n) (v (2 * n)) (v (2 * n + 1)) in
    let both = HasFrom-split z next before values has in
    let rest = column_complete z n item next bit v assigns (λ j h. is j (omega arith)) both.0 in
    let have : HasFrom z (next + 5 * n) values = subst (λ k. HasFrom z (next + k) values) (column_values-length n bit v) both.1 in
    let have_pairs = subst (λ l. HasFrom z (next + 5 * n) l)
    (sym (ap₂ (λ x y. switch_values (bit n) x y) (is (2 * n) (omega arith)) (is (2 * n + 1) (omega arith)))) have in
    let last = switch_complete z (item (2 * n)) (item (2 * n + 1)) (next + 5 * n) (bit n) assigns have_pairs in
    let meets : Meets z (piece n (turns n piece tt next).answer (turns n piece tt next).next).list = subst
    (λ k. Meets z (switch_of (item (2 * n)) (item (2 * n + 1)) k).list) (sym (column_next n item next)) last in (
      whole z (turns n piece tt) (piece n) next rest.0 meets,
      λ j h. elim (cases_eq j n) [
        | inl same ↦ ap (λ k. slice_index z (next + 5 * k)) same ∙ have.0 ∙ ap (λ k. flag_of (bit k)) (sym same)
        | inr apart ↦ rest.1 j (omega arith)
      ],
    )

-- ---- the network
pub network_values-length : (net : Net) (h : ℕ) (bit : ℕ → Bool) (v : ℕ → PairNum) → length (network_values net h bit v) ≡ 5 * switches net h
unfolding network_values
network_values-length net zero bit v = column_values-length 1 bit v ∙ omega (arith, one_switch net)
network_values-length net (suc h) bit v =
    let n = 2 ^ suc h in
    let s = switches net h in
    let c = column_values n bit v in
    let u = network_values net h (from n bit) (to_upper bit v) in
    let l = network_values net h (from (n + s) bit) (to_lower bit v) in
    let d = column_values (n - missing net) (from (n + 2 * s) bit) (last_item net h bit v) in
    length-append c (u ++ (l ++ d)) ∙ ap (λ k. length c + k) (length-append u (l ++ d) ∙ ap (λ k. length u + k) (length-append l d))
    ∙ omega (
      arith,
      switches-suc net h,
      missing_small net,
      pow_pos (suc h),
      column_values-length n bit v,
      network_values-length net h (from n bit) (to_upper bit v),
      network_values-length net h (from (n + s) bit) (to_lower bit v),
      column_values-length (n - missing net) (from (n + 2 * s) bit) (last_item net h bit v),
    )

-- what is put is met, and the bits are there
record HasNetwork (z : List ℕ) (net : Net) (h next : ℕ) (item : ℕ → Pair) (bit : ℕ → Bool) : Type 0 where
  meets : Meets z (network_of net h item next).list
  bits : (j : ℕ) → j < switches net h → slice_index z (next + 5 * j) ≡ flag_of (bit j)

bit_there : (z : List ℕ) (at : ℕ) (b : Bool) → slice_index z at ≡ flag_of b → (slice_index z at == 1) ≡ b
bit_there z at b is = ap (λ k. k == 1) is ∙ flag_of-is b
  where
    flag_of-is : (b : Bool) → (flag_of b == 1) ≡ b
    flag_of-is true = refl
    flag_of-is false = refl

passed_at : (z : List ℕ) (at : ℕ) (b : Bool) (x x' y y' : PairNum) → slice_index z at ≡ flag_of b → x ≡ x' → y ≡ y'
    → passed (slice_index z at == 1) x y ≡ passed b x' y'
passed_at z at b x x' y y' is p q = ap (λ c. passed c x y) (bit_there z at b is) ∙ ap₂ (λ m n. passed b m n) p q

-- where each item is v, each output is what goes through
goes_through : (z : List ℕ) (net : Net) (h next : ℕ) (item : ℕ → Pair) (bit : ℕ → Bool) (v : ℕ → PairNum) → Assigns z → AreValues z h item v
    → HasNetwork z net h next item bit → (i : ℕ) → i < 2 ^ suc h → pair_value z (output (network_of net h item next).answer i) ≡ through net h bit v i
goes_through z net h next item bit v assigns is has i within =
    (network_sound z net next h item assigns has.meets).outputs i within
    ∙ through-same net h (bit_in z next) bit (λ j. pair_value z (item j)) v (λ j k. bit_there z (next + 5 * j) (bit j) (has.bits j k)) is i within

has_network : (z : List ℕ) (net : Net) (h next : ℕ) (item : ℕ → Pair) (bit : ℕ → Bool) (v : ℕ → PairNum) → Assigns z → AreValues z h item v
    → HasFrom z next (network_values net h bit v) → HasNetwork z net h next item bit
unfolding network_of last_column_of network_values here pure ◌>>=◌
has_network z net zero next item bit v assigns is has =
    let column = column_complete z 1 item next bit v assigns (λ j k. is j (omega arith)) has in
    record {
      meets = Meets-join z (column_of 1 item next).list [] column.0 tt;
      bits = λ j k. column.1 j (omega (arith, one_switch net));
    }
has_network z net (suc h) next item bit v assigns is has =
    let n = 2 ^ suc h in
    let s = switches net h in
    let small = missing_small net in
    let some = pow_pos (suc h) in
    let up = to_upper bit v in
    let low = to_lower bit v in
    let c = column_of n item next in
    let u = network_of net h (row (next + 1)) c.next in
    let l = network_of net h (row (next + 3)) u.next in
    let last : ℕ → Pair = last_pair net u.answer l.answer in
    let m = n - missing net in
    let d = column_of m last l.next in
    let vc = column_values n bit v in
    let vu = network_values net h (from n bit) up in
    let vl = network_values net h (from (n + s) bit) low in
    let vd = column_values m (from (n + 2 * s) bit) (last_item net h bit v) in
    let at_c = column_values-length n bit v in
    let at_u = network_values-length net h (from n bit) up in
    let at_l = network_values-length net h (from (n + s) bit) low in
    let c_next = column_next n item next in
    let u_next = network_next net h (row (next + 1)) c.next in
    let l_next = network_next net h (row (next + 3)) u.next in
    let first = HasFrom-split z next vc (vu ++ (vl ++ vd)) has in
    let second = HasFrom-split z (next + length vc) vu (vl ++ vd) first.1 in
    let third = HasFrom-split z (next + length vc + length vu) vl vd second.1 in
    let place_u : next + length vc ≡ c.next = omega arith in
    let place_l : next + length vc + length vu ≡ u.next = omega arith in
    let place_d : next + length vc + length vu + length vl ≡ l.next = omega arith in
    let have_u : HasFrom z c.next vu = subst (λ k. HasFrom z k vu) place_u second.0 in
    let have_l : HasFrom z u.next vl = subst (λ k. HasFrom z k vl) place_l third.0 in
    let have_d : HasFrom z l.next vd = subst (λ k. HasFrom z k vd) place_d third.1 in
    let column = column_complete z n item next bit v assigns (λ j k. is j (omega arith)) first.0 in
    let switch = column_sound z n item next assigns column.0 in
    let items_up : AreValues z h (row (next + 1)) up =
    λ j k. (switch j k).first ∙ passed_at z (next + 5 * j) (bit j) _ _ _ _ (column.1 j k) (is (2 * j) (omega arith)) (is (2 * j + 1) (omega arith)) in
    let items_low : AreValues z h (row (next + 3)) low =
    λ j k. (switch j k).second ∙ passed_at z (next + 5 * j) (bit j) _ _ _ _ (column.1 j k) (is (2 * j + 1) (omega arith)) (is (2 * j) (omega arith)) in
    let upper = has_network z net h c.next (row (next + 1)) (from n bit) up assigns items_up have_u in
    let lower = has_network z net h u.next (row (next + 3)) (from (n + s) bit) low assigns items_low have_l in
    let out_u = goes_through z net h c.next (row (next + 1)) (from n bit) up assigns items_up upper in
    let out_l = goes_through z net h u.next (row (next + 3)) (from (n + s) bit) low assigns items_low lower in
    let items_d : (j : ℕ) → j < 2 * m → pair_value z (last j) ≡ last_item net h bit v j =
    λ j k. alternating_map (pair_value z) (output u.answer) (output l.answer) (j + 2 * missing net)
    ∙ alternating-same (λ i. pair_value z (output u.answer i)) (through net h (from n bit) up) (λ i. pair_value z (output l.answer i))
    (through net h (from (n + s) bit) low) (j + 2 * missing net)
    (out_u ((j + 2 * missing net) / 2) (omega arith)) (out_l ((j + 2 * missing net) / 2) (omega arith)) in
    let end = column_complete z m last l.next (from (n + 2 * s) bit) (last_item net h bit v) assigns items_d have_d in
    let at : (a b k : ℕ) → a ≡ b → slice_index z a ≡ flag_of (bit k) → slice_index z b ≡ flag_of (bit k) = λ a b k e is. ap (λ w. slice_index z w) (sym e)
    ∙ is in
    record {
      meets = Meets-join z c.list (u.list ++ (l.list ++ (d.list ++ []))) column.0
          (Meets-join z u.list (l.list ++ (d.list ++ [])) upper.meets (Meets-join z l.list (d.list ++ []) lower.meets (Meets-join z d.list [] end.0 tt)));
      bits = each_switch net h (λ j. slice_index z (next + 5 * j) ≡ flag_of (bit j)) column.1
          (λ j k. at (c.next + 5 * j) _ (n + j) (omega arith) (upper.bits j k)) (λ j k. at (u.next + 5 * j) _ (n + s + j) (omega arith) (lower.bits j k))
          (λ j k. at (l.next + 5 * j) _ (n + 2 * s + j) (omega arith) (end.1 j k));
    }

pub network_complete : NetworkIsComplete
network_complete z net next h item bit v assigns is has =
    let there = has_network z net h next item bit v assigns is has in
    record { meets = there.meets; bits = there.bits; outputs = goes_through z net h next item bit v assigns is there }
