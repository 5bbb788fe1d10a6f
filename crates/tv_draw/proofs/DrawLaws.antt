-- The generator's states follow each other.
use Rattle.tv_core.proofs.Common.{◌≡◌, ℕ, zero, suc, ◌+◌, ◌*◌, ◌%◌, ◌<◌, ◌^◌, List, [], ◌∷◌, ◌++◌, sym, ap, ap₂, ◌∙◌, arith, add-one, each_below, joined_below}
use Rattle.std.proofs.Math.Nat.{mod-add-mod}
use Rattle.rand_xoshiro.specs.SplitMix64.{next_state, mix_u64}
use Rattle.tv_core.proofs.BelowLaws.{each_below-suc, each_below-zero}
use Rattle.tv_core.proofs.JoinedLaws.{joined_below-zero, joined_below-suc}
use Rattle.tv_draw.specs.Program.{generator_state, word_at, words_drawn}

pub state_first : (x : ℕ) → x < 2 ^ 64 → x ≡ generator_state x 0
state_first x small = grind (arith, small)

pub state_next : (x i : ℕ) → next_state (generator_state x i) ≡ generator_state x (i + 1)
state_next x i =
    let same : x + i * 0x9e3779b97f4a7c15 + 0x9e3779b97f4a7c15 ≡ x + (i + 1) * 0x9e3779b97f4a7c15 = omega arith in
    mod-add-mod (x + i * 0x9e3779b97f4a7c15) (2 ^ 64) 0x9e3779b97f4a7c15 ∙ ap (λ n. n % 2 ^ 64) same

pub state_then : (x i j : ℕ) → generator_state (generator_state x i) j ≡ generator_state x (i + j)
state_then x i j =
    let same : x + i * 0x9e3779b97f4a7c15 + j * 0x9e3779b97f4a7c15 ≡ x + (i + j) * 0x9e3779b97f4a7c15 = omega arith in
    mod-add-mod (x + i * 0x9e3779b97f4a7c15) (2 ^ 64) (j * 0x9e3779b97f4a7c15) ∙ ap (λ n. n % 2 ^ 64) same

pub state_small : (x i : ℕ) → generator_state x i < 2 ^ 64
state_small x i = grind arith

each_same : (n : ℕ) (f g : ℕ → ℕ) → ((i : ℕ) → f i ≡ g i) → each_below n f ≡ each_below n g
each_same zero f g same = each_below-zero f ∙ sym (each_below-zero g)
each_same (suc n) f g same =
    each_below-suc n f ∙ ap₂ (λ (l : List ℕ) (v : ℕ). l ++ v ∷ []) (each_same n f g same) (same n) ∙ sym (each_below-suc n g)

-- words are drawn from a state as from the seed that led to it
pub words_then : (x k i n : ℕ) → words_drawn (generator_state x k) i n ≡ words_drawn x (k + i) n
words_then x k i n = each_same n _ _ (λ j.
    let at : k + (i + j) ≡ k + i + j = omega arith in
    ap (λ s. (mix_u64 s).0 % 2 ^ 32) (state_then x k (i + j) ∙ ap (generator_state x) at))

pub words_none : (x i : ℕ) → words_drawn x i 0 ≡ []
words_none x i = each_below-zero (λ j. word_at x (i + j) % 2 ^ 32)

pub words_more : (x i n : ℕ) → words_drawn x i (n + 1) ≡ words_drawn x i n ++ (word_at x (i + n) % 2 ^ 32) ∷ []
words_more x i n = ap (λ m. words_drawn x i m) (add-one n) ∙ each_below-suc n (λ j. word_at x (i + j) % 2 ^ 32)

pub joined_more : (n : ℕ) (f : ℕ → List ℕ) → joined_below (n + 1) f ≡ joined_below n f ++ f n
joined_more n f = ap (λ m. joined_below m f) (add-one n) ∙ joined_below-suc n f

pub joined_none : (f : ℕ → List ℕ) → joined_below 0 f ≡ []
joined_none f = joined_below-zero f

pub ruleset drawn_parts = (state_small, state_then, words_then)

pub ruleset drawn_instructions = (state_first, state_next, joined_more, joined_none)

pub ruleset drawn_words = (state_first, state_next, words_none, words_more)
