-- What a permutation of the places makes of a list is the list in another order.
use Rattle.std.proofs.Common.{◌≡◌, ◌≢◌, ℕ, zero, suc, ◌<◌, ◌≤◌, ◌==◌, inl, inr, Bool, if◌then◌else◌, List, [], ◌∷◌, ◌++◌, length, get_or}
use Rattle.std.proofs.Common.{map, set, refl, sym, ◌∙◌, ap, ap₂, subst, arith, add-one, zero-add, eq-eqb, IsPermutation}
use Rattle.std.proofs.Common.{length-set, get_or-set_same, get_or-set_other}
use Rattle.std.specs.List.{range_with_len}
use Rattle.std.proofs.lemmas.Bool.{cases_eq, ne_eqb}
use Rattle.std.proofs.lemmas.List.FromFn.{length-map-range_with_len, get_or-map-range_with_len, map-range_with_len_more, fill_by_all}
use Rattle.std.proofs.lemmas.List.Edits.{swap_is}
use Rattle.std.proofs.lemmas.List.Sorted.{IsPermutation-refl, IsPermutation-trans, IsPermutation-append, IsPermutation-swap}
use Rattle.tv_stages.specs.Stages.{places, stage_count, IsReordering, through_stages, source}
use Rattle.tv_stages.specs.Laws.{StagesPermute}
use Rattle.tv_stages.specs.declared.nets.Net.{Net}
use Rattle.tv_stages.proofs.Moves.{run, run_reorders, through_run, through_source}

module _ {X : Type 0} where
  pub places-zero : (f : ℕ → X) → places 0 f ≡ []
  unfolding places
  places-zero f = refl

  pub places-suc : (n : ℕ) (f : ℕ → X) → places (suc n) f ≡ places n f ++ f n ∷ []
  unfolding places
  places-suc n f = ap (λ m. map f (range_with_len 0 m)) (sym (add-one n)) ∙ map-range_with_len_more f 0 n n (zero-add n)

  pub places-length : (n : ℕ) (f : ℕ → X) → length (places n f) ≡ n
  unfolding places
  places-length n f = length-map-range_with_len f 0 n

  pub places-at : (n i : ℕ) (f : ℕ → X) (d : X) → i < n → get_or (places n f) i d ≡ f i
  unfolding places
  places-at n i f d h = get_or-map-range_with_len f 0 n i i d h (omega arith)

  pub places-same : (n : ℕ) (f g : ℕ → X) → ((j : ℕ) → j < n → f j ≡ g j) → places n f ≡ places n g
  places-same zero f g same = places-zero f ∙ sym (places-zero g)
  places-same (suc n) f g same =
      places-suc n f ∙ ap₂ (λ xs x. xs ++ x ∷ []) (places-same n f g (λ j h. same j (omega arith))) (same n (omega arith)) ∙ sym (places-suc n g)

  pub places-is : (n : ℕ) (f : ℕ → X) (xs : List X) (d : X) → length xs ≡ n → ((i : ℕ) → i < n → get_or xs i d ≡ f i) → xs ≡ places n f
  unfolding places
  places-is n f xs d long each = fill_by_all f xs n d long each

  -- places j and n exchanged
  exchanged : (n : ℕ) (f g : ℕ → X) (j : ℕ) → j ≤ n → g j ≡ f n → g n ≡ f j → ((i : ℕ) → i ≢ j → i ≢ n → g i ≡ f i)
      → IsPermutation (places (suc n) f) (places (suc n) g)
  unfolding places
  exchanged n f g j within at_j at_n others =
      let fs = places (suc n) f in
      let d = f n in
      let jj : j < length fs = omega (arith, places-length (suc n) f) in
      let nn : n < length fs = omega (arith, places-length (suc n) f) in
      let last : get_or fs n d ≡ f n = places-at (suc n) n f d (omega arith) in
      let this : get_or fs j d ≡ f j = places-at (suc n) j f d (omega arith) in
      let one = set fs j (get_or fs n d) in
      let two = set one n (get_or fs j d) in
      let long : length one ≡ suc n = length-set fs j (get_or fs n d) ∙ places-length (suc n) f in
      let at : (k : ℕ) → k < suc n → get_or two k d ≡ g k = λ k h. elim (cases_eq k n) [
        | inl kn ↦
            ap (λ i. get_or two i d) kn ∙ get_or-set_same one n (get_or fs j d) d (omega arith) ∙ this ∙ sym at_n ∙ ap g (sym kn)
        | inr not_n ↦ get_or-set_other one n k (get_or fs j d) d not_n ∙ elim (cases_eq k j) [
          | inl kj ↦ ap (λ i. get_or one i d) kj ∙ get_or-set_same fs j (get_or fs n d) d jj ∙ last ∙ sym at_j ∙ ap g (sym kj)
          | inr not_j ↦ get_or-set_other fs j k (get_or fs n d) d not_j ∙ places-at (suc n) k f d h ∙ sym (others k not_j not_n)
        ]
      ] in
      let is : two ≡ places (suc n) g = places-is (suc n) g two d (length-set one n (get_or fs j d) ∙ long) at in
      IsPermutation-swap fs (places (suc n) g) j n jj nn (sym is ∙ swap_is fs j n d jj nn)

  pub reordered : (n : ℕ) (p back : ℕ → ℕ) → ((i : ℕ) → i < n → p i < n) → ((i : ℕ) → i < n → back i < n) → ((i : ℕ) → i < n → p (back i) ≡ i)
      → ((i : ℕ) → i < n → back (p i) ≡ i) → (item : ℕ → X) → IsPermutation (places n item) (places n (λ i. item (p i)))
  reordered zero p back p_in b_in pb bp item =
      subst (λ xs. IsPermutation (places 0 item) xs) (places-zero item ∙ sym (places-zero (λ i. item (p i)))) (IsPermutation-refl (places 0 item))
  reordered (suc n) p back p_in b_in pb bp item =
      let j = back n in
      let j_in = b_in n (omega arith) in
      let pj : p j ≡ n = pb n (omega arith) in
      let p' : ℕ → ℕ = λ i. if i == j then p n else p i in
      let back' : ℕ → ℕ = λ y. if back y == n then j else back y in
      let p_at : (i : ℕ) → i ≡ j → p' i ≡ p n = λ i e. ap (λ (b : Bool). if b then p n else p i) (eq-eqb i j e) in
      let p_off : (i : ℕ) → i ≢ j → p' i ≡ p i = λ i e. ap (λ (b : Bool). if b then p n else p i) (ne_eqb i j e) in
      let b_at : (y : ℕ) → back y ≡ n → back' y ≡ j = λ y e. ap (λ (b : Bool). if b then j else back y) (eq-eqb (back y) n e) in
      let b_off : (y : ℕ) → back y ≢ n → back' y ≡ back y = λ y e. ap (λ (b : Bool). if b then j else back y) (ne_eqb (back y) n e) in
      let once : (i : ℕ) → i < suc n → p i ≡ n → i ≡ j = λ i h e. sym (bp i h) ∙ ap back e in
      let below : (i : ℕ) → i < n → p' i < n = λ i h. elim (cases_eq i j) [
        | inl e ↦
            let ne : p n ≢ n = λ z. absurd (let o = once n (omega arith) z in omega arith) in
            let b = p_in n (omega arith) in
            let s = p_at i e in
            omega arith
        | inr e ↦
            let ne : p i ≢ n = λ z. e (once i (omega arith) z) in
            let b = p_in i (omega arith) in
            let s = p_off i e in
            omega arith
      ] in
      let back_below : (y : ℕ) → y < n → back' y < n = λ y h. elim (cases_eq (back y) n) [
        | inl e ↦
            let ne : j ≢ n = λ z. absurd (let o : y ≡ n = sym (pb y (omega arith)) ∙ ap p (e ∙ sym z) ∙ pj in omega arith) in
            let s = b_at y e in
            omega arith
        | inr e ↦ let b = b_in y (omega arith) in let s = b_off y e in omega arith
      ] in
      let there : (y : ℕ) → y < n → p' (back' y) ≡ y = λ y h. elim (cases_eq (back y) n) [
        | inl e ↦ ap p' (b_at y e) ∙ p_at j refl ∙ ap p (sym e) ∙ pb y (omega arith)
        | inr e ↦
            let ne : back y ≢ j = λ z. absurd (let o : y ≡ n = sym (pb y (omega arith)) ∙ ap p z ∙ pj in omega arith) in
            ap p' (b_off y e) ∙ p_off (back y) ne ∙ pb y (omega arith)
      ] in
      let home : (i : ℕ) → i < n → back' (p' i) ≡ i = λ i h. elim (cases_eq i j) [
        | inl e ↦ ap back' (p_at i e) ∙ b_at (p n) (bp n (omega arith)) ∙ sym e
        | inr e ↦
            let own : back (p i) ≡ i = bp i (omega arith) in
            ap back' (p_off i e) ∙ b_off (p i) (λ z. absurd (omega arith)) ∙ own
      ] in
      let deep : IsPermutation (places n item) (places n (λ i. item (p' i))) = reordered n p' back' below back_below there home item in
      let f : ℕ → X = λ i. if i == n then item n else item (p' i) in
      let f_last : f n ≡ item n = ap (λ (b : Bool). if b then item n else item (p' n)) (eq-eqb n n refl) in
      let f_other : (i : ℕ) → i ≢ n → f i ≡ item (p' i) = λ i e. ap (λ (b : Bool). if b then item n else item (p' i)) (ne_eqb i n e) in
      let longer : IsPermutation (places n item ++ item n ∷ []) (places n (λ i. item (p' i)) ++ item n ∷ []) =
      IsPermutation-append _ _ _ _ deep (IsPermutation-refl (item n ∷ [])) in
      let ends : places n (λ i. item (p' i)) ++ item n ∷ [] ≡ places (suc n) f =
      ap₂ (λ xs x. xs ++ x ∷ []) (places-same n (λ i. item (p' i)) f (λ i h. sym (f_other i (λ z. absurd (omega arith))))) (sym f_last)
      ∙ sym (places-suc n f) in
      let first : IsPermutation (places (suc n) item) (places (suc n) f) =
      subst (λ xs. IsPermutation xs (places (suc n) f)) (sym (places-suc n item))
      (subst (λ xs. IsPermutation (places n item ++ item n ∷ []) xs) ends longer) in
      let at_j : item (p j) ≡ f n = ap item pj ∙ sym f_last in
      let at_n : item (p n) ≡ f j = elim (cases_eq j n) [
        | inl e ↦ ap (λ i. item (p i)) (sym e) ∙ at_j ∙ ap f (sym e)
        | inr e ↦ ap item (sym (p_at j refl)) ∙ sym (f_other j e)
      ] in
      let second : IsPermutation (places (suc n) f) (places (suc n) (λ i. item (p i))) =
      exchanged n f (λ i. item (p i)) j (omega arith) at_j at_n (λ i e k. ap item (sym (p_off i e)) ∙ sym (f_other i k)) in
      IsPermutation-trans _ _ _ first second

  pub reordering_permutes : (n : ℕ) (p : ℕ → ℕ) → IsReordering n p → (item : ℕ → X) → IsPermutation (places n item) (places n (λ i. item (p i)))
  reordering_permutes n p perm item =
      reordered n p perm.back perm.below perm.back_below perm.there
      (λ i h. perm.once (perm.back (p i)) i (perm.back_below (p i) (perm.below i h)) h (perm.there (p i) (perm.below i h))) item

-- whatever the bits, the items come out in another order
pub stages_permuted : {X : Type 0} (net : Net) (L : ℕ) (bit : ℕ → ℕ → Bool) (item : ℕ → X)
    → IsPermutation (places L item) (places L (through_stages net L bit item))
stages_permuted net L bit item =
    let n = stage_count L in
    subst (λ xs. IsPermutation (places L item) xs)
    (places-same L (λ x. item (run net L bit 0 n x)) (through_stages net L bit item) (λ x h. sym (through_run net L bit item x)))
    (reordering_permutes L (λ x. run net L bit 0 n x) (run_reorders net L bit 0 n) item)

sources_reordered : (net : Net) (L : ℕ) (bit : ℕ → ℕ → Bool) → IsReordering L (source net L bit)
sources_reordered net L bit =
    let n = stage_count L in
    let perm = run_reorders net L bit 0 n in
    let is : (x : ℕ) → source net L bit x ≡ run net L bit 0 n x = λ x. through_run net L bit (λ j. j) x in
    record {
      below = λ i h. subst (λ y. y < L) (sym (is i)) (perm.below i h);
      back = perm.back;
      back_below = perm.back_below;
      there = λ x h. is (perm.back x) ∙ perm.there x h;
      once = λ i j hi hj e. perm.once i j hi hj (sym (is i) ∙ e ∙ is j);
    }

pub permuted : StagesPermute
permuted = record {
  sources = sources_reordered;
  numbers = through_source;
  pairs = through_source;
  number_lists = stages_permuted;
  pair_lists = stages_permuted;
}
