-- A header for words of 16 bits is refused where words have 32.
use Rattle.std.proofs.Common.{◌≡◌, ℕ, Bool, true, false, ◌&&◌, ◌||◌, cond, List, [], ◌∷◌, Option, Err, refl, subst}
use Rattle.std.specs.Prelude.{nat_eq, slice_index_or}
use Rattle.std.proofs.lemmas.Bool.{and_parts, eqb-true}
use Rattle.std.proofs.lemmas.Slice.Eq.{bytes_eq-Decides}
use Rattle.std.specs.List.{list_all, list_any}
use Rattle.std.specs.Str.{bytes_eq}
use Rattle.tv_asm.specs.Assembly.{assembled, image_of, line_words}
use Rattle.tv_asm.specs.Header.{header_fields, is_good_field, is_good_header, is_header, is_header_of_16, width_field, width_of}
use Rattle.tv_asm.specs.Labels.{address, is_defined}
use Rattle.tv_asm.specs.Laws.{TextsOf16AreRefused}
use Rattle.tv_asm.specs.Line.{code_of}
use Rattle.tv_asm.specs.Text.{lines}
use Rattle.tv_asm.specs.declared.fault.AsmFault.TheVariants.{Bad}
use Rattle.tv_asm.specs.declared.fault.AsmWhy.TheVariants.{BadHeader}

none_at : (here passes more all : Bool) → (here ≡ true → passes ≡ false) → (more ≡ true → all ≡ false) → (here || more) ≡ true → (passes && all) ≡ false
none_at true passes more all h k e = rw (h refl) refl
none_at false true true all h k e = k refl
none_at false false true all h k e = refl
none_at false passes false all h k e = cc

-- where an element passes a test that excludes another, not all pass the other
not_all : {X : Type 0} (p q : X → Bool) → ((x : X) → p x ≡ true → q x ≡ false) → (xs : List X) → list_any p xs ≡ true → list_all q xs ≡ false
not_all p q h [] e = cc
not_all p q h (x ∷ xs) e = none_at (p x) (q x) (list_any p xs) (list_all q xs) (h x) (not_all p q h xs) e

field_of_16 : (field : List ℕ) → bytes_eq (width_field 16) field ≡ true → is_good_field 32 field ≡ false
field_of_16 field e = subst (λ f. is_good_field 32 f ≡ false) ((bytes_eq-Decides (width_field 16) field).0 e) refl

header_bad : (line : List ℕ) → is_header_of_16 line ≡ true → is_good_header 32 line ≡ false
unfolding is_header_of_16 is_good_header
header_bad line e =
    let parts = and_parts (is_header line) (list_any (bytes_eq (width_field 16)) (header_fields line)) e in
    rw (parts.0, not_all (bytes_eq (width_field 16)) (is_good_field 32) field_of_16 (header_fields line) parts.1) refl

-- all of a header is a comment
header_comment : (line : List ℕ) → is_header line ≡ true → code_of line ≡ []
header_comment [] e = cc
header_comment (c ∷ cs) e =
    let first : 59 ≡ c = eqb-true 59 c (and_parts (nat_eq 59 c) _ e).0 in
    subst (λ d. code_of (d ∷ cs) ≡ []) first refl

line_refused : (earlier : List ℕ → Bool) (place : List ℕ → Option ℕ) (line : List ℕ) → is_header_of_16 line ≡ true
    → line_words 32 true earlier place line ≡ Err BadHeader
unfolding line_words is_header_of_16
line_refused earlier place line e =
    let parts = and_parts (is_header line) (list_any (bytes_eq (width_field 16)) (header_fields line)) e in
    rw (header_comment line parts.0, header_bad line e) refl

first_refused : (most : ℕ) (all ls : List (List ℕ)) → is_header_of_16 (slice_index_or ls 0 []) ≡ true → image_of 32 most all [] [] ls ≡ Err (Bad 1 BadHeader)
unfolding is_header_of_16
first_refused most all [] e = cc
first_refused most all (line ∷ more) e = rw (line_refused (is_defined []) (address 32 all) line e) refl

width_16 : (test : Bool) → ◌≡◌ {A = ℕ} (cond test 16 32) 16 → test ≡ true
width_16 true e = refl
width_16 false e = cc

pub texts_refused : TextsOf16AreRefused
unfolding assembled width_of
texts_refused most text e =
    first_refused most (lines text) (lines text) (width_16 (is_header_of_16 (slice_index_or (lines text) 0 [])) e)
