-- The labels of lines, one line after another.
use Rattle.std.proofs.Common.{◌≡◌, ℕ, ◌+◌, ◌*◌, ◌/◌, ◌%◌, ◌^◌, ◌<◌, ◌≤◌, Bool, true, false, cond, List, [], ◌∷◌, ◌++◌, length, take, drop, Some, None, refl}
use Rattle.std.proofs.Common.{sym, ap, ◌∙◌, arith, zero-add, subst}
use Rattle.std.proofs.lemmas.List.Folds.{list_any-append}
use Rattle.std.proofs.lemmas.List.{append-nil, take-append-drop}
use Rattle.std.proofs.lemmas.List.Sums.{sum_by-append}
use Rattle.std.specs.List.{count_by, list_any}
use Rattle.std.specs.Option.{option_or}
use Rattle.tv_word.proofs.WidthLaws.{for_widths}
use Rattle.tv_word.specs.Widths.{IsWidth}
use Rattle.tv_asm.specs.Labels.{defines, has_instruction}
use Rattle.tv_asm.specs.Text.{lines}
use Rattle.tv_asm.specs.Views.{AreLabelsOf, first_place, place_in}
use Rattle.tv_asm.specs.declared.labels.Labels.{Labels}
use Rattle.tv_asm.specs.declared.labels.Place.{Place}
use Rattle.tv_asm.proofs.FirstLemmas.{before_first-append_any, before_first-append_none, drop_next, take_next, length-take_next}

-- the place of a label that the line after these defines
abbrev pub place_after : ℕ → List (List ℕ) → Place
place_after w ls = record { line = length ls + 1; address = 2 * (w / 8) * count_by has_instruction ls % 2 ^ w }

push_at : (w : ℕ) (ls : List (List ℕ)) (line name : List ℕ) (earlier here : Bool) → list_any (defines name) ls ≡ earlier → defines name line ≡ here
    → first_place w (ls ++ line ∷ []) name ≡ option_or (first_place w ls name) (cond here (Some (place_after w ls)) None)
unfolding first_place
push_at w ls line name true here e d =
    rw (list_any-append (defines name) ls (line ∷ []), e, before_first-append_any (defines name) ls (line ∷ []) e) refl
push_at w ls line name false true e d =
    rw (list_any-append (defines name) ls (line ∷ []), e, d, before_first-append_none (defines name) ls line [] e d) refl
push_at w ls line name false false e d = rw (list_any-append (defines name) ls (line ∷ []), e, d) refl

pub first_place-push : (w : ℕ) (ls : List (List ℕ)) (line name : List ℕ)
    → first_place w (ls ++ line ∷ []) name ≡ option_or (first_place w ls name) (cond (defines name line) (Some (place_after w ls)) None)
first_place-push w ls line name = push_at w ls line name (list_any (defines name) ls) (defines name line) refl refl

-- no line defines a label
pub first_place-nil : (w : ℕ) (name : List ℕ) → first_place w [] name ≡ None
unfolding first_place
first_place-nil w name = refl

-- one line more is noted
pub AreLabelsOf-push : (w : ℕ) (old new : Labels) (ls : List (List ℕ)) (line : List ℕ) → AreLabelsOf w old ls
    → ((name : List ℕ) → place_in new name ≡ option_or (place_in old name) (cond (defines name line) (Some (place_after w ls)) None))
    → AreLabelsOf w new (ls ++ line ∷ [])
AreLabelsOf-push w old new ls line h more =
    record {
      each = λ name. more name ∙ ap (λ place. option_or place (cond (defines name line) (Some (place_after w ls)) None)) (h.each name)
          ∙ sym (first_place-push w ls line name);
    }

-- the lines before the rest of a text are read
pub record IsRead (w : ℕ) (labels : Labels) (place : Place) (rest text : List ℕ) : Type 0 where
  pub rest_lines : lines rest ≡ drop place.line (lines text)
  pub noted : AreLabelsOf w labels (take place.line (lines text))
  pub address : place.address ≡ 2 * (w / 8) * count_by has_instruction (take place.line (lines text)) % 2 ^ w
  pub room : place.line + length rest ≤ length text

count_by-push : {X : Type 0} (p : X → Bool) (xs : List X) (y : X) (b : Bool) → p y ≡ b → count_by p (xs ++ y ∷ []) ≡ count_by p xs + cond b 1 0
count_by-push p xs y b h =
    sum_by-append (λ x. cond (p x) 1 0) xs (y ∷ []) ∙ ap (λ n. count_by p xs + n) (zero-add (cond (p y) 1 0) ∙ ap (λ c. cond c 1 0) h)

-- an address after one more instruction
abbrev Advances : ℕ → Type 0
Advances w = (n m before after : ℕ) → m ≡ n + 1 → before ≡ 2 * (w / 8) * n % 2 ^ w → after ≡ (before + w / 4) % 2 ^ w → after ≡ 2 * (w / 8) * m % 2 ^ w

advances : (w : ℕ) → IsWidth w → Advances w
advances = for_widths Advances (λ n m before after more b a. omega arith) (λ n m before after more b a. omega arith)

-- the address after one more line
next_address : (w : ℕ) → IsWidth w → (ls : List (List ℕ)) (line : List ℕ) (here : Bool) (before after : ℕ) → has_instruction line ≡ here
    → before ≡ 2 * (w / 8) * count_by has_instruction ls % 2 ^ w → after ≡ cond here ((before + w / 4) % 2 ^ w) before
    → after ≡ 2 * (w / 8) * count_by has_instruction (ls ++ line ∷ []) % 2 ^ w
next_address w width ls line true before after h b a =
    advances w width (count_by has_instruction ls) (count_by has_instruction (ls ++ line ∷ [])) before after (count_by-push has_instruction ls line true h) b a
next_address w width ls line false before after h b a =
    let same : count_by has_instruction (ls ++ line ∷ []) ≡ count_by has_instruction ls = omega (arith, count_by-push has_instruction ls line false h) in
    a ∙ b ∙ ap (λ n. 2 * (w / 8) * n % 2 ^ w) (sym same)

-- one line more is read
pub IsRead-more : (w : ℕ) → IsWidth w → (old new : Labels) (place : Place) (after : ℕ) (rest remaining text line : List ℕ) (here : Bool)
    → IsRead w old place rest text
    → lines rest ≡ line ∷ lines remaining
    → length remaining < length rest
    → ((name : List ℕ) → place_in new name ≡ option_or (place_in old name)
    (cond (defines name line) (Some (record { line = place.line + 1; address = place.address })) None))
    → has_instruction line ≡ here
    → after ≡ cond here ((place.address + w / 4) % 2 ^ w) place.address
    → IsRead w new (record { line = place.line + 1; address = after }) remaining text
IsRead-more w width old new place after rest remaining text line here r first shorter noted h a =
    let all = lines text in
    let next : drop place.line all ≡ line ∷ lines remaining = sym r.rest_lines ∙ first in
    let same : take (place.line + 1) all ≡ take place.line all ++ line ∷ [] = take_next all place.line line (lines remaining) next in
    let at : place_after w (take place.line all) ≡ record { line = place.line + 1; address = place.address } =
    ap (λ n. record { line = n + 1; address = 2 * (w / 8) * count_by has_instruction (take place.line all) % 2 ^ w })
    (length-take_next all place.line line (lines remaining) next)
    ∙ ap (λ n. record { line = place.line + 1; address = n }) (sym r.address) in
    record {
      rest_lines = sym (drop_next all place.line line (lines remaining) next);
      noted = rw same (AreLabelsOf-push w old new (take place.line all) line r.noted (rw at noted));
      address = rw same (next_address w width (take place.line all) line here place.address after h r.address a);
      room = omega (arith, r.room);
    }

-- all lines are read
pub IsRead-end : (w : ℕ) (labels : Labels) (place : Place) (rest text : List ℕ) → IsRead w labels place rest text → lines rest ≡ []
    → AreLabelsOf w labels (lines text)
IsRead-end w labels place rest text r end =
    let none : drop place.line (lines text) ≡ [] = sym r.rest_lines ∙ end in
    let all : take place.line (lines text) ≡ lines text =
    sym (append-nil (take place.line (lines text))) ∙ ap (λ l. take place.line (lines text) ++ l) (sym none) ∙ take-append-drop place.line (lines text) in
    subst (AreLabelsOf w labels) all r.noted
