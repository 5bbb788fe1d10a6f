-- Bytes that are written to a file a piece at a time, and what of them it has.
use Rattle.tv_core.proofs.Common.{◌≡◌, ℕ, ◌+◌, ◌≤◌, List, ◌++◌, length, take, Option, Some, None, cond, append_assoc, ap, refl, sym, ◌∙◌, arith}
use Rattle.std.proofs.Common.{min, option_map}
use Rattle.std.proofs.lemmas.List.{take-append-le, take_min}
use Rattle.std.proofs.Math.Seq.{take-append-add, take-append_seam}
use Rattle.std.proofs.lemmas.Slice.Eq.{bytes_eq-Decides}
use Rattle.tv_container.specs.Writing.{Adds, Passes}
use Rattle.tv_files.specs.Outside.{Outside, Names, with_more}
use Rattle.tv_container.specs.Written.{HasBut, HasFront}

-- bytes that are added to a name stand after those that it had
with_more-here : (name more : List ℕ) (files : Names) → with_more name more files name ≡ option_map (λ held. held ++ more) (files name)
with_more-here name more files =
    ap (λ same. cond same (option_map (λ held. held ++ more) (files name)) (files name)) ((bytes_eq-Decides name name).1 refl)

-- contents that are known after bytes were added to a name were known before
known_before : (old new : Outside) (name more : List ℕ) (files : Names) → Adds old new name more → new.contents ≡ Some files →
    (before : Names) × (old.contents ≡ Some before) × (files name ≡ option_map (λ held. held ++ more) (before name))
known_before old new name more files adds known = by_contents old.contents refl
  where
    by_contents : (contents : Option Names) → old.contents ≡ contents →
        (before : Names) × (old.contents ≡ Some before) × (files name ≡ option_map (λ held. held ++ more) (before name))
    by_contents None is =
        let none : None ≡ Some files = sym (adds ∙ ap (option_map (with_more name more)) is) ∙ known in
        cc
    by_contents (Some before) is =
        let same : Some (with_more name more before) ≡ Some files = sym (adds ∙ ap (option_map (with_more name more)) is) ∙ known in
        let files_are : with_more name more before ≡ files = cc in
        (before, is, sym (ap (λ names. names name) files_are) ∙ with_more-here name more before)

-- a first part of the bytes that are held and of others was added, and the rest of them is held
pub has_more : (old new : Outside) (name held bytes more after : List ℕ) → HasBut old name held bytes → Passes old new name (held ++ more) after →
    HasBut new name after (bytes ++ more)
has_more old new name held bytes more after has passes = λ files known.
    let before = known_before old new name passes.front files passes.contents known in
    let had = has before.0 before.1 in (
      had.0 ++ passes.front,
      before.2 ∙ ap (option_map (λ front. front ++ passes.front)) had.1,
      append_assoc had.0 passes.front after
          ∙ ap (λ rest. had.0 ++ rest) (sym passes.split)
          ∙ sym (append_assoc had.0 held more)
          ∙ ap (λ front. front ++ more) had.2,
    )

-- the first few of the bytes that are held and of others were added
pub has_front : (old new : Outside) (name held bytes more : List ℕ) → HasBut old name held bytes → ((n : ℕ) × Adds old new name (take n (held ++ more))) →
    HasFront new name (bytes ++ more)
has_front old new name held bytes more has added = λ files known.
    let before = known_before old new name (take added.0 (held ++ more)) files added.1 known in
    let had = has before.0 before.1 in
    let whole : had.0 ++ (held ++ more) ≡ bytes ++ more = sym (append_assoc had.0 held more) ∙ ap (λ front. front ++ more) had.2 in (
      length had.0 + added.0,
      before.2 ∙ ap (option_map (λ front. front ++ take added.0 (held ++ more))) had.1
          ∙ ap Some (sym (take-append-add had.0 (held ++ more) added.0) ∙ ap (take (length had.0 + added.0)) whole),
    )

-- what a name has of bytes is a first part of bytes that begin with them
pub but_front : (outside : Outside) (name held bytes rest whole : List ℕ) → HasBut outside name held bytes → whole ≡ bytes ++ rest → HasFront outside name whole
but_front outside name held bytes rest whole has is = λ files known.
    let had = has files known in
    let same : whole ≡ had.0 ++ (held ++ rest) = is ∙ ap (λ l. l ++ rest) (sym had.2) ∙ append_assoc had.0 held rest in
    (length had.0, had.1 ∙ ap Some (sym (take-append_seam had.0 (held ++ rest)) ∙ ap (take (length had.0)) (sym same)))

pub front_front : (outside : Outside) (name bytes rest whole : List ℕ) → HasFront outside name bytes → whole ≡ bytes ++ rest → HasFront outside name whole
front_front outside name bytes rest whole has is = λ files known.
    let had = has files known in
    let within : min had.0 (length bytes) ≤ length bytes = omega arith in (
      min had.0 (length bytes),
      had.1 ∙ ap Some (sym (take-append-le (min had.0 (length bytes)) bytes rest within ∙ take_min had.0 bytes)
          ∙ ap (take (min had.0 (length bytes))) (sym is)),
    )
