-- The address order of lines whose times are their places.
use Rattle.tv_core.proofs.Common.{◌≡◌, ℕ, ◌%◌, ◌<◌, ◌≤◌, ◌^◌, List, [], ◌∷◌, length, map, get_or, All, refl, sym, ap, ◌∙◌, subst, arith, length-map, each_below}
use Rattle.tv_core.proofs.Common.{Line}
use Rattle.std.proofs.Common.{IsPermutation, zero-add}
use Rattle.std.proofs.lemmas.List.{get_or-map, map-id}
use Rattle.std.proofs.lemmas.List.Elements.{All-from_get_or, All-get_or}
use Rattle.std.proofs.lemmas.List.Sorted.{All-permutation, IsPermutation-map, length_permutation}
use Rattle.tv_core.specs.Lines.{Honest}
use Rattle.tv_lines.proofs.AddressOrder.{sorted_ordered}
use Rattle.tv_lines.specs.Ordered.{InTimeOrder, Ordered, key}
use Rattle.tv_lines.specs.Placed.{zero_line, number_in, LinesFrom}
use Rattle.tv_argument.proofs.Parts.{placed, each_place}
use Rattle.tv_argument.proofs.Increase.{rising_moves, rising_rises}
use Rattle.tv_stages.proofs.Reorders.{places-same}
use Rattle.tv_stages.specs.Stages.{places}
use Rattle.tv_argument.specs.Order.{place_at, rising, address_order, AddressOrderIsRight}

pub map_map : {X Y Z : Type 0} (f : X → Y) (g : Y → Z) (ls : List X) → map g (map f ls) ≡ map (λ x. g (f x)) ls
map_map f g [] = refl
map_map f g (l ∷ ls) = ap (λ rest. g (f l) ∷ rest) (map_map f g ls)

same_places : {Y : Type 0} (n : ℕ) (f g : ℕ → Y) → ((i : ℕ) → i < n → f i ≡ g i) → each_below n f ≡ each_below n g
unfolding each_below places
same_places n f g same = places-same n f g same

module _ (lines : List Line) (few : length lines ≤ 2 ^ 20) (from : LinesFrom 0 lines) where
  time_is : (i : ℕ) (d : Line) → i < length lines → (get_or lines i d).time ≡ i
  time_is i d h = (placed 0 lines from i d h).0 ∙ zero-add i

  place_of_key : (i : ℕ) → i < length lines → key (number_in lines i) % 2 ^ 20 ≡ i
  place_of_key i h = omega (arith, time_is i zero_line h)

  abbrev sorted : List Line
  sorted = map (λ k. number_in lines (k % 2 ^ 20)) (rising (map key lines))

  -- the keys determine the places
  permuted : IsPermutation (places (length lines) (λ i. i)) (address_order lines)
  unfolding places each_below
  permuted = subst (λ ps. IsPermutation ps (address_order lines))
      (map_map key (λ k. k % 2 ^ 20) lines ∙ sym (each_place (λ l. key l % 2 ^ 20) zero_line lines)
      ∙ same_places (length lines) (λ i. key (number_in lines i) % 2 ^ 20) (λ i. i) place_of_key)
      (IsPermutation-map (λ k. k % 2 ^ 20) (map key lines) (rising (map key lines)) (rising_moves (map key lines)))

  -- and the lines
  moved : IsPermutation lines sorted
  moved = subst (λ ls. IsPermutation ls sorted)
      (map_map key (λ k. number_in lines (k % 2 ^ 20)) lines ∙ sym (each_place (λ l. number_in lines (key l % 2 ^ 20)) zero_line lines)
      ∙ same_places (length lines) (λ i. number_in lines (key (number_in lines i) % 2 ^ 20)) (number_in lines) (λ i h. ap (number_in lines) (place_of_key i h))
      ∙ each_place (λ l. l) zero_line lines ∙ map-id lines)
      (IsPermutation-map (λ k. number_in lines (k % 2 ^ 20)) (map key lines) (rising (map key lines)) (rising_moves (map key lines)))

  -- the line that a key determines has it
  keeps : All (λ k. key (number_in lines (k % 2 ^ 20)) ≡ k) (rising (map key lines))
  keeps = All-permutation (λ k. key (number_in lines (k % 2 ^ 20)) ≡ k) (map key lines) (rising (map key lines)) (rising_moves (map key lines))
      (All-from_get_or (λ k. key (number_in lines (k % 2 ^ 20)) ≡ k) (map key lines) 0 (λ i h.
      let n = length-map lines key in
      let at : get_or (map key lines) i 0 ≡ key (number_in lines i) = get_or-map key lines i zero_line 0 (omega arith) in
      ap (λ k. key (number_in lines (k % 2 ^ 20))) at ∙ ap (λ p. key (number_in lines p)) (place_of_key i (omega arith)) ∙ sym at))

  long : length (rising (map key lines)) ≡ length lines
  long = length_permutation (map key lines) (rising (map key lines)) (rising_moves (map key lines)) ∙ length-map lines key

  key_at : (i : ℕ) (d : Line) → i < length lines → key (get_or sorted i d) ≡ get_or (rising (map key lines)) i 0
  key_at i d h =
      let n = long in
      ap key (get_or-map (λ k. number_in lines (k % 2 ^ 20)) (rising (map key lines)) i 0 d (omega arith))
      ∙ All-get_or (λ k. key (number_in lines (k % 2 ^ 20)) ≡ k) (rising (map key lines)) i 0 (omega arith) keeps

  in_time_order : InTimeOrder lines
  in_time_order i j d less h = omega (arith, time_is i d (omega arith), time_is j d h)

  small : All (λ l. l.time < 2 ^ 20) lines
  small = All-from_get_or (λ l. l.time < 2 ^ 20) lines zero_line (λ i h. omega (arith, time_is i zero_line h))

  in_address_order : Honest lines → Ordered sorted
  in_address_order honest =
      let n = long in
      let m = length-map (rising (map key lines)) (λ k. number_in lines (k % 2 ^ 20)) in
      sorted_ordered lines sorted in_time_order small honest moved
      (λ i j d h k. omega (arith, key_at i d (omega arith), key_at j d (omega arith), rising_rises (map key lines) i j 0 h (omega arith)))

  sorted_is : each_below (length lines) (λ i. number_in lines (place_at (address_order lines) i)) ≡ sorted
  sorted_is =
      let n = long in
      same_places (length lines) (λ i. number_in lines (place_at (address_order lines) i)) (λ i. number_in lines (get_or (rising (map key lines)) i 0 % 2 ^ 20))
      (λ i h. ap (number_in lines) (get_or-map (λ k. k % 2 ^ 20) (rising (map key lines)) i 0 0 (omega arith)))
      ∙ ap (λ m. each_below m (λ i. number_in lines (get_or (rising (map key lines)) i 0 % 2 ^ 20))) (sym n)
      ∙ each_place (λ k. number_in lines (k % 2 ^ 20)) 0 (rising (map key lines))

pub address_order_right : AddressOrderIsRight
address_order_right = record {
  permutes = λ lines few from. permuted lines few from;
  ordered = λ lines few from honest. subst Ordered (sym (sorted_is lines few from)) (in_address_order lines few from honest);
}
