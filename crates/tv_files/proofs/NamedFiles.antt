-- Files by name, after bytes were put or added at one name.
use Rattle.std.proofs.Common.{◌≡◌, ℕ, List, [], ◌++◌, Option, Some, None, option_map, Bool, true, false, cond, append-nil, append_assoc, ap, refl, sym, ◌∙◌}
use Rattle.std.proofs.lemmas.Slice.Eq.{bytes_eq-Decides}
use Rattle.std.specs.Map.{update}
use Rattle.std.specs.Str.{bytes_eq}
use Rattle.tv_files.specs.Outside.{Names, with_bytes, with_more}

-- the later of two changes at one name stands
update-update : (name : List ℕ) (first second : Option (List ℕ)) (files : Names) →
    update bytes_eq (update bytes_eq files name first) name second ≡ update bytes_eq files name second
update-update name first second files = λ i other. at_each other (bytes_eq name other) i
  where
    at_each : (other : List ℕ) (same : Bool) → cond same second (cond same first (files other)) ≡ cond same second (files other)
    at_each other true = refl
    at_each other false = refl

-- a change to what was there changes nothing
update-same : (name : List ℕ) (files : Names) → update bytes_eq files name (files name) ≡ files
update-same name files = λ i other. at_each other (bytes_eq name other) refl i
  where
    at_each : (other : List ℕ) (same : Bool) → bytes_eq name other ≡ same → cond same (files name) (files other) ≡ files other
    at_each other true named = ap files ((bytes_eq-Decides name other).0 named)
    at_each other false _ = refl

-- the name stands for what was put there
pub with_bytes-here : (name bytes : List ℕ) (files : Names) → with_bytes name bytes files name ≡ Some bytes
with_bytes-here name bytes files = ap (λ same. cond same (Some bytes) (files name)) ((bytes_eq-Decides name name).1 refl)

-- bytes put, and then more, are all of them put
pub with_more-with_bytes : (name bytes more : List ℕ) (files : Names)
    → with_more name more (with_bytes name bytes files) ≡ with_bytes name (bytes ++ more) files
with_more-with_bytes name bytes more files =
    ap (λ file. update bytes_eq (with_bytes name bytes files) name (option_map (λ held. held ++ more) file)) (with_bytes-here name bytes files)
    ∙ update-update name (Some bytes) (Some (bytes ++ more)) files

-- the same of files that may not be known
pub known-with_more-with_bytes : (name bytes more : List ℕ) (known : Option Names) →
    option_map (with_more name more) (option_map (with_bytes name bytes) known) ≡ option_map (with_bytes name (bytes ++ more)) known
known-with_more-with_bytes name bytes more None = refl
known-with_more-with_bytes name bytes more (Some files) = ap Some (with_more-with_bytes name bytes more files)

-- adding nothing changes nothing
pub with_more-none : (name : List ℕ) (files : Names) → with_more name [] files ≡ files
with_more-none name files = ap (update bytes_eq files name) (nothing (files name)) ∙ update-same name files
  where
    nothing : (file : Option (List ℕ)) → option_map (λ bytes. bytes ++ []) file ≡ file
    nothing None = refl
    nothing (Some bytes) = ap Some (append-nil bytes)

-- more, and then more, is both at once
pub with_more-with_more : (name first second : List ℕ) (files : Names) →
    with_more name second (with_more name first files) ≡ with_more name (first ++ second) files
with_more-with_more name first second files =
    ap (λ file. update bytes_eq (with_more name first files) name (option_map (λ held. held ++ second) file)) here
    ∙ update-update name (option_map (λ held. held ++ first) (files name))
    (option_map (λ held. held ++ second) (option_map (λ held. held ++ first) (files name))) files
    ∙ ap (update bytes_eq files name) (both (files name))
  where
    here : with_more name first files name ≡ option_map (λ held. held ++ first) (files name)
    here = ap (λ same. cond same (option_map (λ held. held ++ first) (files name)) (files name)) ((bytes_eq-Decides name name).1 refl)

    both : (file : Option (List ℕ)) → option_map (λ held. held ++ second) (option_map (λ held. held ++ first) file)
        ≡ option_map (λ held. held ++ (first ++ second)) file
    both None = refl
    both (Some bytes) = ap Some (append_assoc bytes first second)

-- the same of files that may not be known
pub known-with_more-with_more : (name first second : List ℕ) (known : Option Names) →
    option_map (with_more name second) (option_map (with_more name first) known) ≡ option_map (with_more name (first ++ second)) known
known-with_more-with_more name first second None = refl
known-with_more-with_more name first second (Some files) = ap Some (with_more-with_more name first second files)

-- a name that is absent after more was added was so before
pub with_more-none_before : (name more : List ℕ) (files : Names) → with_more name more files name ≡ None → files name ≡ None
with_more-none_before name more files absent = by_file (files name) (sym here ∙ absent)
  where
    here : with_more name more files name ≡ option_map (λ held. held ++ more) (files name)
    here = ap (λ same. cond same (option_map (λ held. held ++ more) (files name)) (files name)) ((bytes_eq-Decides name name).1 refl)

    by_file : (file : Option (List ℕ)) → option_map (λ held. held ++ more) file ≡ None → file ≡ None
    by_file None e = refl
    by_file (Some bytes) e = cc
