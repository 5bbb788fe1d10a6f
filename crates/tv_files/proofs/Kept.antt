-- A map from names to bytes, after a change at one name.
use Rattle.std.proofs.Common.{◌≡◌, ◌≢◌, ◌⊎◌, inl, inr, ℕ, ◌/◌, List, [], ◌++◌, length, take, IsTrue, append-nil, Option, Some, None, option_map, Vec, String}
use Rattle.std.proofs.Common.{Bool, true, false, cond, ap, sym, refl, ◌∙◌}
use Rattle.std.specs.BTreeMap.{BTreeMap, UpdatesBy, get_by_text}
use Rattle.std.specs.Cmp.Lexicographic.{slice_cmp}
use Rattle.std.specs.Global.{Global}
use Rattle.std.specs.Map.{update}
use Rattle.std.specs.Ordering.{nat_cmp}
use Rattle.std.specs.Str.{bytes_eq}
use Rattle.std.specs.String.{string_bytes, string_cmp}
use Rattle.std.proofs.lemmas.Map.Text.{btree_map_updates_text}
use Rattle.tv_files.specs.Outside.{Names, with_more}
use Rattle.tv_files.specs.MemFiles.{names_in, first_half}
use Rattle.tv_files.proofs.NamedFiles.{with_more-none}

-- only the value at these bytes changed, to w
abbrev pub Updates : List ℕ → BTreeMap (String Global) (Vec ℕ Global) → BTreeMap (String Global) (Vec ℕ Global) → Option (Vec ℕ Global) → Type 0
Updates name m n w = UpdatesBy string_cmp (λ k. slice_cmp nat_cmp name (string_bytes k)) m n w

-- the names after a change at one name are the names before, changed at that name
pub names_in-update : (name : List ℕ) (m n : BTreeMap (String Global) (Vec ℕ Global)) (w : Option (Vec ℕ Global)) → Updates name m n w →
    names_in n ≡ update bytes_eq (names_in m) name (option_map (λ bytes. bytes.items) w)
names_in-update name m n w changed = λ i other. at_each other i
  where
    by_name : (same : Bool) (old : Option (Vec ℕ Global))
        → option_map (λ bytes. bytes.items) (cond same w old) ≡ cond same (option_map (λ bytes. bytes.items) w) (option_map (λ bytes. bytes.items) old)
    by_name true old = refl
    by_name false old = refl

    at_each : (other : List ℕ) → names_in n other ≡ update bytes_eq (names_in m) name (option_map (λ bytes. bytes.items) w) other
    at_each other = ap (option_map (λ bytes. bytes.items)) (btree_map_updates_text name m n w changed other)
        ∙ by_name (bytes_eq name other) (get_by_text m other)

-- where bytes were added to what the name had, the names have them
pub names_in-more : (name more : List ℕ) (m n : BTreeMap (String Global) (Vec ℕ Global)) (had has : Vec ℕ Global) → Updates name m n (Some has) →
    get_by_text m name ≡ Some had → has.items ≡ had.items ++ more → names_in n ≡ with_more name more (names_in m)
names_in-more name more m n had has changed found added =
    names_in-update name m n (Some has) changed
    ∙ ap (λ file. update bytes_eq (names_in m) name file)
    (ap Some added ∙ sym (ap (λ file. option_map (λ bytes. bytes ++ more) (option_map (λ bytes. bytes.items) file)) found))

-- where the bytes of a name stayed or half was added, the names stayed or the half was added there
pub names_in-refused : (name bytes : List ℕ) (due : Bool) (m n : BTreeMap (String Global) (Vec ℕ Global)) (had has : Vec ℕ Global)
    → Updates name m n (Some has) →
    get_by_text m name ≡ Some had → (has.items ≡ had.items) ⊎ (IsTrue due × (has.items ≡ had.items ++ first_half bytes)) →
    (names_in n ≡ names_in m) ⊎ (IsTrue due × (names_in n ≡ with_more name (first_half bytes) (names_in m)))
names_in-refused name bytes due m n had has changed found (inl same) =
    inl (names_in-more name [] m n had has changed found (same ∙ sym (append-nil had.items)) ∙ with_more-none name (names_in m))
names_in-refused name bytes due m n had has changed found (inr half) =
    inr (half.0, names_in-more name (first_half bytes) m n had has changed found half.1)

-- then a prefix of the bytes was added
pub prefix_added : (name bytes : List ℕ) (due : Bool) (old new : Names) →
    (new ≡ old) ⊎ (IsTrue due × (new ≡ with_more name (first_half bytes) old)) → (n : ℕ) × (Some new ≡ Some (with_more name (take n bytes) old))
prefix_added name bytes due old new (inl same) = (0, ap Some (same ∙ sym (with_more-none name old)))
prefix_added name bytes due old new (inr half) = (length bytes / 2, ap Some half.1)

-- a name that was found isn't missing among the known files
pub found_is_there : (name : List ℕ) (m : BTreeMap (String Global) (Vec ℕ Global)) (had : Vec ℕ Global) (files : Names) →
    get_by_text m name ≡ Some had → Some (names_in m) ≡ Some files → files name ≢ None
found_is_there name m had files found known gone =
    let same : names_in m ≡ files = cc in
    let here : names_in m name ≡ Some had.items = ap (option_map (λ bytes. bytes.items)) found in
    let missing : names_in m name ≡ None = ap (λ names. names name) same ∙ gone in
    cc
