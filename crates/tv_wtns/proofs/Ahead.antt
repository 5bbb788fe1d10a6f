-- Values that are read piece by piece.
use Rattle.tv_core.proofs.Common.{◌≡◌, ℕ, ◌+◌, ◌*◌, ◌<◌, ◌≤◌, zero, suc, List, [], ◌∷◌, ◌++◌, length, take, drop, get_or, ◌/◌, Result, Ok, Err, append_assoc}
use Rattle.tv_core.proofs.Common.{append-nil, add-one, ap, refl, sym, ◌∙◌, arith, nat_tests, length-append}
use Rattle.std.proofs.lemmas.List.{take-take, drop-take, drop-drop, get_or-take, length-take, take_all, take-append-le}
use Rattle.std.specs.Simd.{first_chunks}
use Rattle.tv_core.specs.declared.field.TheConstants.{P}
use Rattle.tv_container.specs.declared.why.ReadRefusal.TheVariants.{Bad}
use Rattle.tv_container.specs.declared.why.ReadWhy.TheVariants.{NotCanonical}
use Rattle.tv_container.specs.Places.{Fault, number, wrong}
use Rattle.tv_container.specs.Reading.{Refuses}
use Rattle.tv_container.proofs.Chain.{refuses_wrong}
use Rattle.tv_word.specs.Word.{little_endian}
use Rattle.tv_wtns.specs.Values.{AreWords, with_front, IsAhead}
use Rattle.tv_wtns.specs.Wtns.{values_at, firsts}
use Rattle.tv_wtns.proofs.ValueLaws.{values_counted}

-- no values were read before
pub begins : (file : List ℕ) (most n at : ℕ) → IsAhead (values_at file n at) most [] file n at
unfolding with_front
begins file most n at = record { front = []; same = by_result (values_at file n at); keeps = sym (take_all most [] (omega arith)) }
  where
    by_result : (others : Result (List ℕ) Fault) → others ≡ with_front [] others
    by_result (Ok values) = refl
    by_result (Err fault) = refl

with_front-with_front : (front more : List ℕ) (others : Result (List ℕ) Fault) →
    with_front front (with_front more others) ≡ with_front (front ++ more) others
unfolding with_front
with_front-with_front front more (Ok values) = rw (append_assoc front more values) refl
with_front-with_front front more (Err fault) = refl

values_at-more : (file : List ℕ) (n at value : ℕ) → number file 8 at ≡ value → value < P →
    values_at file (suc n) at ≡ with_front (value ∷ []) (values_at file n (at + 8))
unfolding values_at with_front
values_at-more file n at value is below = rw is (grind (arith, nat_tests))

values_at-residue : (file : List ℕ) (n at value : ℕ) → number file 8 at ≡ value → P ≤ value →
    values_at file (suc n) at ≡ wrong at NotCanonical
unfolding values_at
values_at-residue file n at value is above = rw is (grind (arith, nat_tests))

-- a value that is as it should be goes after those that were read
goes_on : (answer : Result (List ℕ) Fault) (most : ℕ) (kept next file : List ℕ) (n more at value : ℕ) (ahead : IsAhead answer most kept file n at) →
    n ≡ more + 1 → number file 8 at ≡ value → value < P → next ≡ take most (ahead.front ++ value ∷ []) → IsAhead answer most next file more (at + 8)
goes_on answer most kept next file n more at value ahead one is below keeps = record {
  front = ahead.front ++ value ∷ [];
  same = ahead.same
      ∙ ap (λ others. with_front ahead.front others) (ap (λ k. values_at file k at) (one ∙ add-one more) ∙ values_at-more file more at value is below)
      ∙ with_front-with_front ahead.front (value ∷ []) (values_at file more (at + 8));
  keeps = keeps;
}

-- it is kept where there is room
pub goes_in : (answer : Result (List ℕ) Fault) (most : ℕ) (kept file : List ℕ) (n more at value : ℕ) → IsAhead answer most kept file n at →
    n ≡ more + 1 → number file 8 at ≡ value → value < P → length kept < most → IsAhead answer most (kept ++ value ∷ []) file more (at + 8)
goes_in answer most kept file n more at value ahead one is below room =
    let few : length ahead.front < most = omega (arith, ap length ahead.keeps, length-take most ahead.front) in
    let fits : length (ahead.front ++ value ∷ []) ≤ most = simp length-append (omega (arith, few)) in
    goes_on answer most kept (kept ++ value ∷ []) file n more at value ahead one is below
    (ap (λ front. front ++ value ∷ []) (ahead.keeps ∙ take_all most ahead.front (omega (arith, few))) ∙ sym (take_all most (ahead.front ++ value ∷ []) fits))

-- and else passed by
pub goes_by : (answer : Result (List ℕ) Fault) (most : ℕ) (kept file : List ℕ) (n more at value : ℕ) → IsAhead answer most kept file n at →
    n ≡ more + 1 → number file 8 at ≡ value → value < P → most ≤ length kept → IsAhead answer most kept file more (at + 8)
goes_by answer most kept file n more at value ahead one is below full =
    let many : most ≤ length ahead.front = omega (arith, ap length ahead.keeps, length-take most ahead.front) in
    goes_on answer most kept kept file n more at value ahead one is below (ahead.keeps ∙ sym (take-append-le most ahead.front (value ∷ []) many))

-- what the next value is refused for is what the list is
pub no_residue : (answer : Result (List ℕ) Fault) (most : ℕ) (kept file : List ℕ) (n more at value : ℕ) →
    IsAhead answer most kept file n at → n ≡ more + 1 → number file 8 at ≡ value → P ≤ value → Refuses (Bad at NotCanonical) answer
unfolding with_front
no_residue answer most kept file n more at value ahead one is above =
    refuses_wrong at NotCanonical answer (ahead.same ∙ rw (one, add-one, values_at-residue file more at value is above) refl)

-- no value is left
pub ends : (most : ℕ) (kept file : List ℕ) (count from n at : ℕ) → IsAhead (values_at file count from) most kept file n at → n ≡ 0 →
    firsts most (values_at file count from) ≡ Ok (record { values = kept; count = count })
unfolding values_at with_front
ends most kept file count from n at ahead none =
    let whole : values_at file count from ≡ Ok ahead.front = ahead.same ∙ rw (none, append-nil) refl in
    rw (whole, values_counted file count from ahead.front whole, ← ahead.keeps) refl

get_or-first_chunks : (n count k a : ℕ) (xs d : List ℕ) → k < count → a ≡ n * k → get_or (first_chunks n count xs) k d ≡ take n (drop a xs)
get_or-first_chunks n zero k a xs d below is = absurd (omega arith)
get_or-first_chunks n (suc count) zero a xs d below is = let none : a ≡ 0 = omega arith in rw none refl
get_or-first_chunks n (suc count) (suc k) a xs d below is =
    let more : k < count = omega arith in
    let there : n + n * k ≡ a = omega arith in
    get_or-first_chunks n count k (n * k) (drop n xs) d more refl ∙ ap (λ left. take n left) (drop-drop (n * k) n xs ∙ ap (λ p. drop p xs) there)

part_of : (bytes file : List ℕ) (at a size : ℕ) → bytes ≡ take (length bytes) (drop at file) → a + size ≤ length bytes →
    take size (drop a bytes) ≡ take size (drop (at + a) file)
part_of bytes file at a size piece within =
    sym (drop-take a size bytes)
    ∙ ap (λ front. drop a front) (ap (λ front. take (a + size) front) piece ∙ take-take (a + size) (length bytes) (drop at file) within)
    ∙ drop-take a size (drop at file)
    ∙ ap (λ left. take size left) (drop-drop a at file)

-- the first words of eight bytes of a piece of the file
pub are_words : (bytes file : List ℕ) (words : List (List ℕ)) (at some : ℕ) → bytes ≡ take (length bytes) (drop at file) →
    words ≡ first_chunks 8 (length bytes / 8) bytes → some ≤ length bytes / 8 → AreWords (take some words) file at
are_words bytes file words at some piece is enough = record {
  words_are = λ k d below.
      let here : k < some = omega (arith, length-take some words) in
      let counted : k < length bytes / 8 = omega arith in
      let within : 8 * k + 8 ≤ length bytes = omega arith in
      let word : get_or (take some words) k d ≡ take 8 (drop (8 * k) bytes) =
      get_or-take some words k d here ∙ ap (λ all. get_or all k d) is ∙ get_or-first_chunks 8 (length bytes / 8) k (8 * k) bytes d counted refl in
      ap little_endian (word ∙ part_of bytes file at (8 * k) 8 piece within);
}
