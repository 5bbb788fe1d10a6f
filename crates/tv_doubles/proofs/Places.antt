-- Lists of a function's values at the places below a number, and permutations of these places.
use Rattle.std.proofs.Common.{◌≡◌, ℕ, ◌<◌, List, [], ◌∷◌, length, get_or, map, refl, sym, ◌∙◌, ap, arith}
use Rattle.std.specs.List.{range_with_len}
use Rattle.std.proofs.lemmas.List.FromFn.{fill_by_all}
use Rattle.std.proofs.lemmas.List.{get_or-map, length-map}
pub use Rattle.std.proofs.lemmas.List.{map-id}
use Rattle.std.proofs.lemmas.List.Sorted.{Contains-permutation}
use Rattle.tv_doubles.specs.Places.{PermutesPlaces}
pub use Rattle.tv_stages.proofs.Reorders.{places-zero, places-suc, places-length, places-at, places-same}
use Rattle.tv_stages.specs.Stages.{places}

-- each place is the image of one
pub preimage : (n : ℕ) (p : ℕ → ℕ) → PermutesPlaces n p → (j : ℕ) → j < n → (i : ℕ) × (i < n) × (p i ≡ j)
preimage n p moved j h =
    let l = places-length n (λ (i : ℕ). i) in
    let long = places-length n p in
    let c = Contains-permutation (places n (λ i. i)) (places n p) j moved (j, omega arith, places-at n j (λ i. i) j h) in
    let small : c.0 < n = omega (arith, c.1) in
    (c.0, small, sym (places-at n c.0 p j small) ∙ c.2)

-- a list is what stands at its places
pub each_place : {X Y : Type 0} (f : X → Y) (d : X) (ls : List X) → places (length ls) (λ i. f (get_or ls i d)) ≡ map f ls
unfolding places
each_place f d ls = sym (fill_by_all (λ i. f (get_or ls i d)) (map f ls) (length ls) (f d) (length-map ls f) (λ i h. get_or-map f ls i d (f d) h))

pub map_map : {X Y Z : Type 0} (f : X → Y) (g : Y → Z) (ls : List X) → map g (map f ls) ≡ map (λ x. g (f x)) ls
map_map f g [] = refl
map_map f g (l ∷ ls) = ap (λ rest. g (f l) ∷ rest) (map_map f g ls)

pub map_places : {X Y : Type 0} (n : ℕ) (f : ℕ → X) (g : X → Y) → map g (places n f) ≡ places n (λ i. g (f i))
unfolding places
map_places n f g = map_map f g (range_with_len 0 n)
