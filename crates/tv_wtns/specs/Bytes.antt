-- The bytes of an assignment: the wtns binary format, version 2, its sections in the order 1, 2.
use Rattle.std.specs.Prelude.{ℕ, ◌*◌, List, ◌++◌, length}
use Rattle.std.specs.List.{flat_map}
use Rattle.tv_container.specs.Bytes.{eight_bytes, four_bytes, front_bytes, section_head, section_bytes, field_bytes}

-- the content of section 1: the field, and how many values there are
abbrev pub count_bytes : ℕ → List ℕ
count_bytes count = field_bytes ++ four_bytes count

-- the content of section 2: the values in order, eight bytes each
abbrev pub values_bytes : List ℕ → List ℕ
values_bytes values = flat_map eight_bytes values

-- all that stands before the first value
abbrev pub head_bytes : ℕ → List ℕ
head_bytes count = front_bytes 0x736e7477 2 2 ++ (section_bytes 1 (count_bytes count) ++ section_head 2 (8 * count))

-- a file that begins by this count: what stands before the values, and the values
abbrev pub file_bytes : ℕ → List ℕ → List ℕ
file_bytes count values = head_bytes count ++ values_bytes values

-- the bytes of an assignment: the two sections, each as long as its header says
abbrev pub assignment_bytes : List ℕ → List ℕ
assignment_bytes values =
    front_bytes 0x736e7477 2 2 ++ (section_bytes 1 (count_bytes (length values)) ++ section_bytes 2 (values_bytes values))
