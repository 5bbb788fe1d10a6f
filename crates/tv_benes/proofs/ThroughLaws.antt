-- What goes through a network, by places.
use Rattle.tv_core.proofs.Common.{◌≡◌, ℕ, zero, suc, ◌+◌, ◌-◌, ◌*◌, ◌/◌, ◌%◌, ◌^◌, ◌<◌, ◌≤◌, ◌==◌, Bool, true, false, if◌then◌else◌, refl, sym, ◌∙◌, ap, ap₂}
use Rattle.tv_core.proofs.Common.{arith, ne_eqb, cond_both}
use Rattle.std.proofs.lemmas.Nat.{pow_pos}
use Rattle.tv_benes.specs.Through.{switches, from, passed, to_upper, to_lower, alternating, joined, last_bit, missing, through, PlacesDetermineOutputs}
use Rattle.tv_benes.specs.declared.shape.Net.{Net}
use Rattle.tv_benes.specs.declared.shape.Net.TheVariants.{Benes, Waksman}

-- powers of 2, and the number of switches one level up
pub twice : (h : ℕ) → 2 ^ suc h ≡ 2 * 2 ^ h
twice h = omega arith

pub switches-suc : (net : Net) (h : ℕ) → switches net (suc h) + missing net ≡ 2 * 2 ^ suc h + 2 * switches net h
switches-suc Waksman h = omega (arith, ap (λ m. suc h * (2 * m)) (twice h))
switches-suc Benes h = omega (arith, ap (λ m. (2 * suc h + 1) * m) (twice h))

pub missing_small : (net : Net) → missing net ≤ 1
missing_small Waksman = omega arith
missing_small Benes = omega arith

pub one_switch : (net : Net) → switches net 0 ≡ 1
one_switch Waksman = refl
one_switch Benes = refl

-- bits that are the same give the same bits of a last column
pub last_bit-same : (net : Net) (bit bit' : ℕ → Bool) (n j : ℕ) → j < n → ((i : ℕ) → i + missing net < n → bit i ≡ bit' i)
    → last_bit net bit j ≡ last_bit net bit' j
last_bit-same Waksman bit bit' n zero h same = refl
last_bit-same Waksman bit bit' n (suc j) h same = let place : suc j - 1 ≡ j = omega arith in
    ap (λ x. if suc j == 0 then false else x) (ap bit place ∙ same j (omega arith) ∙ ap bit' (sym place))
last_bit-same Benes bit bit' n j h same = same j (omega arith)

-- the bit of a switch of a last column that there is, and of one that it lacks
pub kept_bit : (net : Net) (bit : ℕ → Bool) (j : ℕ) → missing net ≤ j → last_bit net bit j ≡ bit (j - missing net)
kept_bit Waksman bit zero h = absurd (omega arith)
kept_bit Waksman bit (suc j) h = ap (λ (c : Bool). if c then false else bit (suc j - 1)) (ne_eqb (suc j) 0 (λ e. absurd (omega arith)))
kept_bit Benes bit j h = let same : j ≡ j - 0 = omega arith in ap bit same

pub left_bit : (net : Net) (bit : ℕ → Bool) (j : ℕ) → j < missing net → last_bit net bit j ≡ false
left_bit Waksman bit j h = let none : j ≡ 0 = omega arith in ap (λ k. last_bit Waksman bit k) none
left_bit Benes bit j h = absurd (omega arith)

module _ {X : Type 0} where
  pub passed-same : (b c : Bool) (x x' y y' : X) → b ≡ c → x ≡ x' → y ≡ y' → passed b x y ≡ passed c x' y'
  passed-same b c x x' y y' p q r = rw (p, q, r) refl

  pub alternating-same : (a a' b b' : ℕ → X) (i : ℕ) → a (i / 2) ≡ a' (i / 2) → b (i / 2) ≡ b' (i / 2) → alternating a b i ≡ alternating a' b' i
  alternating-same a a' b b' i p q = ap₂ (λ x y. if i % 2 == 0 then x else y) p q

  pub joined-same : (bit bit' : ℕ → Bool) (u u' l l' : ℕ → X) (i : ℕ) → bit (i / 2) ≡ bit' (i / 2) → u (i / 2) ≡ u' (i / 2) → l (i / 2) ≡ l' (i / 2)
      → joined bit u l i ≡ joined bit' u' l' i
  joined-same bit bit' u u' l l' i p q r =
      alternating-same (λ j. passed (bit j) (u j) (l j)) (λ j. passed (bit' j) (u' j) (l' j)) (λ j. passed (bit j) (l j) (u j))
      (λ j. passed (bit' j) (l' j) (u' j)) i
      (passed-same _ _ _ _ _ _ p q r) (passed-same _ _ _ _ _ _ p r q)

  -- what is the same at the bits and the items there are goes through the same
  pub through-same : (net : Net) (h : ℕ) (bit bit' : ℕ → Bool) (item item' : ℕ → X) → ((j : ℕ) → j < switches net h → bit j ≡ bit' j)
      → ((j : ℕ) → j < 2 ^ suc h → item j ≡ item' j)
      → (i : ℕ) → i < 2 ^ suc h → through net h bit item i ≡ through net h bit' item' i
  unfolding through
  through-same net zero bit bit' item item' bits items i within =
      joined-same bit bit' (λ j. item (2 * j)) (λ j. item' (2 * j)) (λ j. item (2 * j + 1)) (λ j. item' (2 * j + 1)) i
      (bits (i / 2) (omega (arith, one_switch net))) (items (2 * (i / 2)) (omega arith)) (items (2 * (i / 2) + 1) (omega arith))
  through-same net (suc h) bit bit' item item' bits items i within =
      let n = 2 ^ suc h in
      let s = switches net h in
      let size = switches-suc net h in
      let one = missing_small net in
      let up : (j : ℕ) → j < n → to_upper bit item j
      ≡ to_upper bit' item' j = λ j k. passed-same _ _ _ _ _ _ (bits j (omega arith)) (items (2 * j) (omega arith)) (items (2 * j + 1) (omega arith)) in
      let down : (j : ℕ) → j < n → to_lower bit item j
      ≡ to_lower bit' item' j = λ j k. passed-same _ _ _ _ _ _ (bits j (omega arith)) (items (2 * j + 1) (omega arith)) (items (2 * j) (omega arith)) in
      joined-same (last_bit net (from (n + 2 * s) bit)) (last_bit net (from (n + 2 * s) bit')) (through net h (from n bit) (to_upper bit item))
      (through net h (from n bit') (to_upper bit' item'))
      (through net h (from (n + s) bit) (to_lower bit item)) (through net h (from (n + s) bit') (to_lower bit' item')) i
      (last_bit-same net (from (n + 2 * s) bit) (from (n + 2 * s) bit') n (i / 2) (omega arith) (λ j k. bits (n + 2 * s + j) (omega arith)))
      (through-same net h (from n bit) (from n bit') (to_upper bit item) (to_upper bit' item') (λ j k. bits (n + j) (omega arith)) up (i / 2) (omega arith))
      (through-same net h (from (n + s) bit) (from (n + s) bit') (to_lower bit item) (to_lower bit' item') (λ j k. bits (n + s + j) (omega arith)) down (i / 2)
      (omega arith))

-- what is made of each item can be made of each output
module _ {X Y : Type 0} (f : X → Y) where
  passed_map : (b : Bool) (x y : X) → passed b (f x) (f y) ≡ f (passed b x y)
  passed_map true x y = refl
  passed_map false x y = refl

  if_map : (b : Bool) (x y : X) → (if b then f x else f y) ≡ f (if b then x else y)
  if_map true x y = refl
  if_map false x y = refl

  pub alternating_map : (a b : ℕ → X) (i : ℕ) → f (alternating a b i) ≡ alternating (λ j. f (a j)) (λ j. f (b j)) i
  alternating_map a b i = sym (if_map (i % 2 == 0) (a (i / 2)) (b (i / 2)))

  joined_map : (bit : ℕ → Bool) (u l : ℕ → X) (i : ℕ) → joined bit (λ j. f (u j)) (λ j. f (l j)) i ≡ f (joined bit u l i)
  joined_map bit u l i =
      ap₂ (λ x y. if i % 2 == 0 then x else y) (passed_map (bit (i / 2)) (u (i / 2)) (l (i / 2))) (passed_map (bit (i / 2)) (l (i / 2)) (u (i / 2)))
      ∙ if_map (i % 2 == 0) (passed (bit (i / 2)) (u (i / 2)) (l (i / 2))) (passed (bit (i / 2)) (l (i / 2)) (u (i / 2)))

  pub through_map : (net : Net) (h : ℕ) (bit : ℕ → Bool) (item : ℕ → X) (i : ℕ) → through net h bit (λ j. f (item j)) i ≡ f (through net h bit item i)
  unfolding through
  through_map net zero bit item i = joined_map bit (λ j. item (2 * j)) (λ j. item (2 * j + 1)) i
  through_map net (suc h) bit item i =
      let n = 2 ^ suc h in
      let s = switches net h in
      let u : ◌≡◌ {A = ℕ → Y} (to_upper bit (λ j. f (item j))) (λ j. f (to_upper bit item j)) = λ t j. passed_map (bit j) (item (2 * j)) (item (2 * j + 1)) t in
      let l : ◌≡◌ {A = ℕ → Y} (to_lower bit (λ j. f (item j))) (λ j. f (to_lower bit item j)) = λ t j. passed_map (bit j) (item (2 * j + 1)) (item (2 * j)) t in
      joined-same (last_bit net (from (n + 2 * s) bit)) (last_bit net (from (n + 2 * s) bit)) (through net h (from n bit) (to_upper bit (λ j. f (item j))))
      (λ j. f (through net h (from n bit) (to_upper bit item) j))
      (through net h (from (n + s) bit) (to_lower bit (λ j. f (item j)))) (λ j. f (through net h (from (n + s) bit) (to_lower bit item) j)) i refl
      (ap (λ it. through net h (from n bit) it (i / 2)) u ∙ through_map net h (from n bit) (to_upper bit item) (i / 2))
      (ap (λ it. through net h (from (n + s) bit) it (i / 2)) l ∙ through_map net h (from (n + s) bit) (to_lower bit item) (i / 2))
      ∙ joined_map (last_bit net (from (n + 2 * s) bit)) (through net h (from n bit) (to_upper bit item))
      (through net h (from (n + s) bit) (to_lower bit item)) i

-- which item comes out where does not depend on the items
pub through_places : {X : Type 0} (net : Net) (h : ℕ) (bit : ℕ → Bool) (item : ℕ → X) (i : ℕ) → through net h bit item i ≡ item (through net h bit (λ j. j) i)
through_places net h bit item i = through_map item net h bit (λ j. j) i

pub through_by_places : PlacesDetermineOutputs
through_by_places net h bit item i = through_places net h bit item i

-- ---- a level and the one below
pub record IsAbove (net : Net) (h k : ℕ) : Type 0 where
  pub level : h ≡ suc k
  pub size : 2 ^ h ≡ 2 * 2 ^ k
  pub some : 1 ≤ 2 ^ k
  pub count : switches net h + missing net ≡ 2 * 2 ^ h + 2 * switches net k

pub above : (net : Net) (h : ℕ) → (h ≡ 0 → ⊥) → IsAbove net h (h - 1)
above net zero some = absurd (some refl)
above net (suc k) some = let same : suc k - 1 ≡ k = omega arith in
    rw same (record { level = refl; size = twice k; some = pow_pos k; count = switches-suc net k })

-- a first column has no more switches than the network
pub column_fits : (net : Net) (h : ℕ) → 2 ^ h ≤ switches net h
column_fits net zero = omega (arith, one_switch net)
column_fits net (suc h) = omega (arith, switches-suc net h, missing_small net, pow_pos (suc h))

-- ---- what holds of each item holds of each output
module _ {X : Type 0} (Q : X → Type 0) where
  passed_keeps : (b : Bool) (x y : X) → Q x → Q y → Q (passed b x y)
  passed_keeps b x y p q = cond_both b y x Q (λ e. q) (λ e. p)

  pub alternating_keeps : (a b : ℕ → X) (i : ℕ) → Q (a (i / 2)) → Q (b (i / 2)) → Q (alternating a b i)
  alternating_keeps a b i p q = cond_both (i % 2 == 0) (a (i / 2)) (b (i / 2)) Q (λ e. p) (λ e. q)

  joined_keeps : (bit : ℕ → Bool) (u l : ℕ → X) (i : ℕ) → Q (u (i / 2)) → Q (l (i / 2)) → Q (joined bit u l i)
  joined_keeps bit u l i p q = alternating_keeps (λ j. passed (bit j) (u j) (l j)) (λ j. passed (bit j) (l j) (u j)) i (passed_keeps _ _ _ p q)
      (passed_keeps _ _ _ q p)

  pub upper_keeps : (n : ℕ) (bit : ℕ → Bool) (item : ℕ → X) → ((j : ℕ) → j < 2 * n → Q (item j)) → (j : ℕ) → j < n → Q (to_upper bit item j)
  upper_keeps n bit item each j k = passed_keeps _ _ _ (each (2 * j) (omega arith)) (each (2 * j + 1) (omega arith))

  pub lower_keeps : (n : ℕ) (bit : ℕ → Bool) (item : ℕ → X) → ((j : ℕ) → j < 2 * n → Q (item j)) → (j : ℕ) → j < n → Q (to_lower bit item j)
  lower_keeps n bit item each j k = passed_keeps _ _ _ (each (2 * j + 1) (omega arith)) (each (2 * j) (omega arith))

  pub through_keeps : (net : Net) (h : ℕ) (bit : ℕ → Bool) (item : ℕ → X) → ((j : ℕ) → j < 2 ^ suc h → Q (item j)) → (i : ℕ) → i < 2 ^ suc h
      → Q (through net h bit item i)
  unfolding through
  through_keeps net zero bit item each i within = joined_keeps bit (λ j. item (2 * j)) (λ j. item (2 * j + 1)) i (each (2 * (i / 2)) (omega arith))
      (each (2 * (i / 2) + 1) (omega arith))
  through_keeps net (suc h) bit item each i within =
      let n = 2 ^ suc h in
      let s = switches net h in
      let each' : (j : ℕ) → j < 2 * n → Q (item j) = λ j k. each j (omega arith) in
      joined_keeps (last_bit net (from (n + 2 * s) bit)) (through net h (from n bit) (to_upper bit item))
      (through net h (from (n + s) bit) (to_lower bit item)) i
      (through_keeps net h (from n bit) (to_upper bit item) (upper_keeps n bit item each') (i / 2) (omega arith))
      (through_keeps net h (from (n + s) bit) (to_lower bit item) (lower_keeps n bit item each') (i / 2) (omega arith))
