-- The image of a text, line by line.
use Rattle.std.proofs.Common.{◌≡◌, ℕ, ◌+◌, ◌<◌, ◌≤◌, nat_lt, Bool, true, false, List, [], ◌∷◌, ◌++◌, length, take, drop, Option, Result, Ok, Err, refl, sym}
use Rattle.std.proofs.Common.{ap, ◌∙◌, arith}
use Rattle.std.proofs.lemmas.Bool.{lt-ltb, le-ltb}
use Rattle.std.proofs.lemmas.List.{take-append-drop}
use Rattle.std.proofs.lemmas.List.Folds.{list_any-append}
use Rattle.std.specs.List.{list_any}
use Rattle.std.specs.Option.{option_map, option_map_or}
use Rattle.std.specs.Result.{IsErrAnd}
use Rattle.tv_asm.specs.Assembly.{assembled, image_of, with_line}
use Rattle.tv_asm.specs.Labels.{address, defines, is_defined}
use Rattle.tv_asm.specs.Steps.{◌>>=◌}
use Rattle.tv_asm.specs.Text.{lines}
use Rattle.tv_asm.specs.Views.{AreLabelsOf, address_in, context_in, first_place, is_earlier}
use Rattle.tv_asm.specs.declared.fault.AsmFault.{AsmFault}
use Rattle.tv_asm.specs.declared.labels.Labels.{Labels}
use Rattle.tv_asm.specs.declared.labels.Place.{Place}
use Rattle.tv_asm.proofs.FirstLemmas.{before_first-append_any, length-before_first-lt, length-before_first-ge, drop_next, take_next, length-take_next}

same_functions : {A B : Type 0} {f g : A → B} → ((x : A) → f x ≡ g x) → f ≡ g
same_functions h = λ i x. h x i

address_at : (w : ℕ) (all : List (List ℕ)) (name : List ℕ) (b : Bool) → is_defined all name ≡ b
    → option_map (λ place. place.address) (first_place w all name) ≡ address w all name
unfolding first_place
address_at w all name true e = rw e refl
address_at w all name false e = rw e refl

-- the labels noted have the addresses that the lines give them
pub address_in-is : (w : ℕ) (labels : Labels) (all : List (List ℕ)) → AreLabelsOf w labels all → address_in labels ≡ address w all
address_in-is w labels all h =
    same_functions (λ name. ap (option_map (λ place. place.address)) (h.each name) ∙ address_at w all name (is_defined all name) refl)

-- whether a place stands before the line after these
abbrev stands_before : List (List ℕ) → Option Place → Bool
stands_before before place = option_map_or (λ p. nat_lt p.line (length before + 1)) place false

earlier_at : (w : ℕ) (before rest : List (List ℕ)) (name : List ℕ) (b r : Bool) → list_any (defines name) before ≡ b → list_any (defines name) rest ≡ r
    → stands_before before (first_place w (before ++ rest) name) ≡ b
unfolding first_place
earlier_at w before rest name true r e d =
    rw (list_any-append (defines name) before rest, e, before_first-append_any (defines name) before rest e)
    (lt-ltb _ _ (omega (arith, length-before_first-lt (defines name) before e)))
earlier_at w before rest name false true e d =
    rw (list_any-append (defines name) before rest, e, d)
    (le-ltb _ _ (omega (arith, length-before_first-ge (defines name) before rest e)))
earlier_at w before rest name false false e d = rw (list_any-append (defines name) before rest, e, d) refl

-- a label is noted on an earlier line where such a line defines it
pub is_earlier-is : (w : ℕ) (labels : Labels) (all : List (List ℕ)) (n : ℕ) → AreLabelsOf w labels all → length (take n all) ≡ n
    → is_earlier labels (n + 1) ≡ is_defined (take n all)
is_earlier-is w labels all n h l =
    same_functions (λ name.
    ap (λ place. option_map_or (λ p. nat_lt p.line (n + 1)) place false) (h.each name)
    ∙ ap (λ m. option_map_or (λ p. nat_lt p.line (m + 1)) (first_place w all name) false) (sym l)
    ∙ ap (λ ls. stands_before (take n all) (first_place w ls name)) (sym (take-append-drop n all))
    ∙ earlier_at w (take n all) (drop n all) name (list_any (defines name) (take n all)) (list_any (defines name) (drop n all)) refl refl)

-- the lines before the rest of a text are assembled
pub record IsAssembled (w : ℕ) (labels : Labels) (most number : ℕ) (words rest text : List ℕ) : Type 0 where
  pub rest_lines : lines rest ≡ drop number (lines text)
  pub noted : AreLabelsOf w labels (lines text)
  pub so_far : image_of w most (lines text) (take number (lines text)) words (drop number (lines text)) ≡ assembled w most text
  pub fits : length words ≤ most
  pub room : number + length rest ≤ length text

-- before the first line
pub IsAssembled-none : (w : ℕ) (labels : Labels) (most : ℕ) (text : List ℕ) → AreLabelsOf w labels (lines text) → IsAssembled w labels most 0 [] text text
unfolding assembled
IsAssembled-none w labels most text h =
    record { rest_lines = refl; noted = h; so_far = refl; fits = omega arith; room = omega arith }

-- what the next line makes decides
next_is : (w : ℕ) (labels : Labels) (most number : ℕ) (words rest remaining text line : List ℕ)
    → IsAssembled w labels most number words rest text
    → lines rest ≡ line ∷ lines remaining
    → (with_line w most (context_in labels (number + 1)) words line
    >>= λ next. image_of w most (lines text) (take number (lines text) ++ line ∷ []) next (lines remaining))
    ≡ assembled w most text
next_is w labels most number words rest remaining text line r first =
    let all = lines text in
    let next : drop number all ≡ line ∷ lines remaining = sym r.rest_lines ∙ first in
    let count : length (take number all) ≡ number = length-take_next all number line (lines remaining) next in
    let before = take number all in
    let more = λ (words' : List ℕ). image_of w most all (before ++ line ∷ []) words' (lines remaining) in
    let step = λ (n : ℕ) (earlier : List ℕ → Bool) (place : List ℕ → Option ℕ).
    with_line w most (record { number = n + 1; earlier = earlier; address = place }) words line >>= more in
    ap (λ f. step number f (address_in labels)) (is_earlier-is w labels all number r.noted count)
    ∙ ap (λ f. step number (is_defined before) f) (address_in-is w labels all r.noted)
    ∙ ap (λ n. step n (is_defined before) (address w all)) (sym count)
    ∙ ap (image_of w most all before words) (sym next)
    ∙ r.so_far

-- one line more is assembled
pub IsAssembled-more : (w : ℕ) (labels : Labels) (most number : ℕ) (words after rest remaining text line : List ℕ)
    → IsAssembled w labels most number words rest text
    → lines rest ≡ line ∷ lines remaining
    → length remaining < length rest
    → with_line w most (context_in labels (number + 1)) words line ≡ Ok after
    → length after ≤ most
    → IsAssembled w labels most (number + 1) after remaining text
IsAssembled-more w labels most number words after rest remaining text line r first shorter step fits =
    let all = lines text in
    let next : drop number all ≡ line ∷ lines remaining = sym r.rest_lines ∙ first in
    let goes = next_is w labels most number words rest remaining text line r first in
    let more = λ (words' : List ℕ). image_of w most all (take number all ++ line ∷ []) words' (lines remaining) in
    let ends : more after ≡ assembled w most text = ap (λ s. s >>= more) (sym step) ∙ goes in
    record {
      rest_lines = sym (drop_next all number line (lines remaining) next);
      noted = r.noted;
      so_far = rw (take_next all number line (lines remaining) next, drop_next all number line (lines remaining) next) ends;
      fits = fits;
      room = omega (arith, r.room);
    }

-- a line at fault is the fault of the text
pub IsAssembled-fault : (w : ℕ) (labels : Labels) (most number : ℕ) (words rest remaining text line : List ℕ) (fault : AsmFault)
    → IsAssembled w labels most number words rest text
    → lines rest ≡ line ∷ lines remaining
    → with_line w most (context_in labels (number + 1)) words line ≡ Err fault
    → Err fault ≡ assembled w most text
IsAssembled-fault w labels most number words rest remaining text line fault r first step =
    let all = lines text in
    let more = λ (words' : List ℕ). image_of w most all (take number all ++ line ∷ []) words' (lines remaining) in
    ap (λ s. s >>= more) (sym step) ∙ next_is w labels most number words rest remaining text line r first

-- all lines are assembled
pub IsAssembled-end : (w : ℕ) (labels : Labels) (most number : ℕ) (words rest text : List ℕ) → IsAssembled w labels most number words rest text
    → lines rest ≡ [] → Ok words ≡ assembled w most text
IsAssembled-end w labels most number words rest text r end =
    ap (image_of w most (lines text) (take number (lines text)) words) (sym (sym r.rest_lines ∙ end)) ∙ r.so_far

-- a fault that is passed on
pub passed_on : {A : Type 0} (result : Result A AsmFault) (fault : AsmFault) → IsErrAnd result (λ e. e ≡ fault) → result ≡ Err fault
passed_on (Ok x) fault h = absurd h
passed_on (Err e) fault h = ap Err h
