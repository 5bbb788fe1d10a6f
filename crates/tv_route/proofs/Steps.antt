-- One step of each definition, as the code makes it.
use Rattle.tv_core.proofs.Common.{◌≡◌, ◌≢◌, ℕ, zero, suc, ◌+◌, ◌-◌, ◌*◌, ◌/◌, ◌^◌, ◌<◌, ◌==◌, Bool, true, false, if◌then◌else◌, List, [], ◌∷◌, ◌++◌, get_or}
use Rattle.tv_core.proofs.Common.{set, Some, None, refl, sym, ◌∙◌, ap, ap₂, arith, append_assoc, append-nil, add-one, slice_index}
use Rattle.std.proofs.Common.{is_none}
use Rattle.tv_benes.proofs.Permutations.{places-suc}
use Rattle.tv_benes.specs.Through.{missing, places}
use Rattle.tv_benes.specs.declared.shape.Net.{Net}
use Rattle.tv_route.proofs.Walks.{if_same}
use Rattle.tv_route.specs.Route.{Mark, other, partners, walk, walks, halves, down, up_input, down_input, route}
use Rattle.tv_benes.proofs.EndLaws.{if_apart}

pub walk_none : (partner : List ℕ) (k start x : ℕ) (marks : List Mark) → k ≡ 0 → walk partner k start x marks ≡ marks
unfolding walk
walk_none partner k start x marks none = ap (λ n. walk partner n start x marks) none

pub walk_round : (partner : List ℕ) (k start x : ℕ) (marks : List Mark) → 0 < k → other (slice_index partner x) ≡ start
    → walk partner k start x marks ≡ set (set marks x (Some false)) (slice_index partner x) (Some true)
unfolding walk
walk_round partner zero start x marks some round = absurd (omega arith)
walk_round partner (suc k) start x marks some round = if_same (other (slice_index partner x)) start _ _ round

pub walk_on : (partner : List ℕ) (k l start x : ℕ) (marks : List Mark) → k ≡ suc l → other (slice_index partner x) ≢ start
    → walk partner k start x marks ≡ walk partner l start (other (slice_index partner x)) (set (set marks x (Some false)) (slice_index partner x) (Some true))
unfolding walk
walk_on partner k l start x marks more on = ap (λ n. walk partner n start x marks) more ∙ if_apart (other (slice_index partner x)) start _ _ on

pub partners_more : (p : List ℕ) (j : ℕ)
    → partners p (j + 1) ≡ set (set (partners p j) (slice_index p (2 * j)) (slice_index p (2 * j + 1))) (slice_index p (2 * j + 1)) (slice_index p (2 * j))
unfolding partners
partners_more p j = ap (λ k. partners p k) (add-one j)

pub partners_none : (p : List ℕ) → partners p 0 ≡ p
unfolding partners
partners_none p = refl

pub walks_none : (partner : List ℕ) (n : ℕ) (marks : List Mark) → walks partner n 0 marks ≡ marks
unfolding walks
walks_none partner n marks = refl

pub walks_more : (partner : List ℕ) (n j : ℕ) (marks before : List Mark) (b : Bool) → before ≡ walks partner n j marks
    → is_none (get_or before (2 * j) None) ≡ b
    → walks partner n (j + 1) marks ≡ (if b then walk partner n (2 * j) (2 * j) before else before)
unfolding walks
walks_more partner n j marks before b is free =
    ap (λ k. walks partner n k marks) (add-one j)
    ∙ ap (λ (m : List Mark). if is_none (get_or m (2 * j) None) then walk partner n (2 * j) (2 * j) m else m) (sym is)
    ∙ ap (λ c. if c then walk partner n (2 * j) (2 * j) before else before) free

module _ {X : Type 0} where
  pub push_none : (bits : List X) (f : ℕ → X) → bits ≡ bits ++ places 0 f
  unfolding places
  push_none bits f = sym (append-nil bits)

  pub push_place : (old bits new : List X) (j : ℕ) (f : ℕ → X) (x : X) → bits ≡ old ++ places j f → x ≡ f j → new ≡ bits ++ x ∷ []
      → new ≡ old ++ places (j + 1) f
  push_place old bits new j f x before is pushed =
      pushed ∙ ap₂ (λ l y. l ++ y ∷ []) before is ∙ append_assoc old (places j f) (f j ∷ [])
      ∙ ap (λ l. old ++ l) (sym (places-suc j f)) ∙ ap (λ k. old ++ places k f) (sym (add-one j))

  pub push_one : (bits new : List X) (j : ℕ) (f : ℕ → X) (x : X) → bits ≡ places j f → x ≡ f j → new ≡ bits ++ x ∷ [] → new ≡ places (j + 1) f
  push_one bits new j f x before is pushed = pushed ∙ ap₂ (λ l y. l ++ y ∷ []) before is ∙ sym (places-suc j f) ∙ ap (λ k. places k f) (sym (add-one j))

pub route_one : (net : Net) (h : ℕ) (p : List ℕ) → h ≡ 0 → route net h p ≡ (slice_index p 0 == 1) ∷ []
unfolding route
route_one net h p none = ap (λ k. route net k p) none

pub route_more : (net : Net) (h k : ℕ) (p : List ℕ) → h ≡ suc k → route net h p ≡ places (2 ^ h) (λ j. down (halves p (2 ^ h)) (2 * j))
    ++ (route net k (places (2 ^ h) (λ j. up_input (halves p (2 ^ h)) p j / 2))
    ++ (route net k (places (2 ^ h) (λ j. down_input (halves p (2 ^ h)) p j / 2))
    ++ places (2 ^ h - missing net) (λ j. down (halves p (2 ^ h)) (slice_index p (2 * (j + missing net))))))
unfolding route
route_more net h k p level = ap (λ l. route net l p) level ∙ ap there (sym level)
  where
    there : ℕ → List Bool
    there l = places (2 ^ l) (λ j. down (halves p (2 ^ l)) (2 * j))
        ++ (route net k (places (2 ^ l) (λ j. up_input (halves p (2 ^ l)) p j / 2))
        ++ (route net k (places (2 ^ l) (λ j. down_input (halves p (2 ^ l)) p j / 2))
        ++ places (2 ^ l - missing net) (λ j. down (halves p (2 ^ l)) (slice_index p (2 * (j + missing net))))))

-- four pieces appended one after another
pub four_pieces : {X : Type 0} (b0 b1 b2 b3 b4 x y z w : List X) → b1 ≡ b0 ++ x → b2 ≡ b1 ++ y → b3 ≡ b2 ++ z → b4 ≡ b3 ++ w → b4 ≡ b0 ++ (x ++ (y ++ (z ++ w)))
four_pieces b0 b1 b2 b3 b4 x y z w p q r s =
    s ∙ ap (λ l. l ++ w) (r ∙ ap (λ l. l ++ z) (q ∙ ap (λ l. l ++ y) p)) ∙ append_assoc ((b0 ++ x) ++ y) z w ∙ append_assoc (b0 ++ x) y (z ++ w)
    ∙ append_assoc b0 x (y ++ (z ++ w))
