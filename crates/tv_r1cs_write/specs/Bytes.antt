-- The bytes of a constraint system: the r1cs binary format, version 1, its sections in the order 1, 2, 3.
use Rattle.std.specs.Prelude.{◌≡◌, ℕ, ◌+◌, ◌*◌, ◌==◌, not, List, ◌++◌, length}
use Rattle.std.specs.List.{filter, flat_map, list_any, range_with_len}
use Rattle.tv_container.specs.Bytes.{eight_bytes, four_bytes, front_bytes, section_head, section_bytes, field_bytes, terms_bytes}
use Rattle.tv_core.specs.Constraints.{Combination, Constraint, System}
use Rattle.tv_core.specs.Meanings.{terms_in, system_counts}
use Rattle.tv_core.specs.declared.lines.Counts.{Counts}

-- a combination: four bytes that count its terms, and the terms
abbrev pub combination_bytes : Combination → List ℕ
combination_bytes terms = four_bytes (length terms) ++ terms_bytes terms

-- a constraint: its three combinations
abbrev pub constraint_bytes : Constraint → List ℕ
constraint_bytes row = combination_bytes row.a ++ (combination_bytes row.b ++ combination_bytes row.c)

-- the content of section 2: the constraints in order
abbrev pub rows_bytes : List Constraint → List ℕ
rows_bytes list = flat_map constraint_bytes list

-- what section 1 counts: wires, public outputs, public inputs and private inputs, which are written as 0, labels, and
-- constraints
abbrev pub numbers_bytes : Counts → ℕ → List ℕ
numbers_bytes counts labels =
    four_bytes counts.wires ++ (four_bytes counts.outputs ++ (four_bytes counts.inputs ++
    (four_bytes 0 ++ (eight_bytes labels ++ four_bytes counts.constraints))))

-- the content of section 1: the field, and what it counts
abbrev pub counts_bytes : Counts → ℕ → List ℕ
counts_bytes counts labels = field_bytes ++ numbers_bytes counts labels

-- how many bytes section 2 has: the counts of the combinations, and the terms
abbrev pub rows_size : Counts → ℕ
rows_size counts = 12 * counts.constraints + 12 * counts.terms

-- all that stands before the first constraint
abbrev pub head_bytes : Counts → ℕ → List ℕ
head_bytes counts labels =
    front_bytes 0x73633172 1 3 ++ (section_bytes 1 (counts_bytes counts labels) ++ section_head 2 (rows_size counts))

-- the content of section 3: the wires' labels, eight bytes each
abbrev pub label_bytes : List ℕ → List ℕ
label_bytes labels = flat_map eight_bytes labels

-- the numbers below another one, in order, but for those of a list
unfoldable pub others : ℕ → List ℕ → List ℕ
others count but = filter (λ n. not (list_any (λ m. m == n) but)) (range_with_len 0 count)

-- a file of these counts: what stands before the constraints, the constraints, and the labels
abbrev pub file_bytes : Counts → ℕ → List Constraint → List ℕ → List ℕ
file_bytes counts count list labels = head_bytes counts count ++ (rows_bytes list ++ section_bytes 3 (label_bytes labels))

-- the counts are those of the list
pub record AreCounts (counts : Counts) (list : List Constraint) : Type 0 where
  pub constraints : counts.constraints ≡ length list
  pub terms : counts.terms ≡ terms_in list

-- the bytes of a system whose wires have these labels: the three sections, each as long as its header says
abbrev pub system_bytes : System → ℕ → List ℕ → List ℕ
system_bytes system count labels =
    front_bytes 0x73633172 1 3 ++ (section_bytes 1 (counts_bytes (system_counts system) count) ++
    (section_bytes 2 (rows_bytes system.constraints) ++ section_bytes 3 (label_bytes labels)))
