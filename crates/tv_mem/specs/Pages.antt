-- Memory in pages of 4,096 bytes: each address's byte, and the pages that are held.
use Rattle.std.specs.Prelude.{◌≡◌, ◌≤◌, ℕ, ◌+◌, ◌/◌, ◌%◌, Bool, cond, nat_eq, is_some, List, ◌++◌, length, take, drop, replicate, Box, Option, Some, None}
use Rattle.std.specs.Prelude.{option_map, slice_get, slice_index, slice_index_or, Vec}
use Rattle.std.specs.Box.{box_value}
use Rattle.std.specs.Global.{Global}
use Rattle.tv_mem.specs.Bytes.{Bytes}
use Rattle.tv_mem.specs.declared.memory.Memory.{Memory}

-- the bytes of the page with each number, where it is held
abbrev pub Found : Type 0
Found = ℕ → Option (List ℕ)

-- a table has places for at most 1,024 pages; after its last place no page is held
abbrev pub Table : Type 0
Table = Vec (Option (Box (List ℕ) Global)) Global

-- the pages of a table, by their places in it
abbrev pub page_of : Table → Found
page_of table place = option_map box_value (slice_index_or table.items place None)

-- and of a table that may not be there
abbrev pub page_at : Option Table → Found
page_at None place = None
page_at (Some table) place = page_of table place

-- page n is in place n mod 1,024 of table n / 1,024
abbrev pub page_in : List Table → Found
page_in tables number = page_at (slice_get tables (number / 1024)) (number % 1024)

-- a page's byte; those of a page that isn't held are 0
abbrev pub byte_in : Option (List ℕ) → ℕ → ℕ
byte_in None place = 0
byte_in (Some page) place = slice_index page place

-- the byte at an address, by the number of its page and its place there
abbrev pub byte_at : Found → Bytes
byte_at found at = byte_in (found (at / 4096)) (at % 4096)

-- memory as a function from address to byte
unfoldable pub bytes_in : Memory → Bytes
bytes_in memory = byte_at (page_in memory.tables.items)

-- whether the page with an address is held
unfoldable pub is_held : Memory → ℕ → Bool
is_held memory at = is_some (page_in memory.tables.items (at / 4096))

-- a page's bytes; those of one that isn't held are 0
abbrev pub page_bytes : Option (List ℕ) → List ℕ
page_bytes None = replicate 4096 0
page_bytes (Some page) = page

-- a page's bytes once these were written at a place
abbrev pub page_with : List ℕ → ℕ → List ℕ → List ℕ
page_with page place bytes = take place page ++ bytes ++ drop (place + length bytes) page

-- the same pages are held, with the same bytes
abbrev pub Same : Found → Found → Type 0
Same old new = (q : ℕ) → new q ≡ old q

-- the page with one number has these bytes now, and all others are as they were
abbrev pub Changes : Found → Found → ℕ → List ℕ → Type 0
Changes old new number page = (q : ℕ) → new q ≡ cond (nat_eq q number) (Some page) (old q)

-- bytes were written at a place of the page with a number
pub record WritesIn (old new : Found) (number place : ℕ) (bytes : List ℕ) : Type 0 where
  pub changes : Changes old new number (page_with (page_bytes (old number)) place bytes)
  pub whole : length (page_bytes (old number)) ≡ 4096
  pub within : place + length bytes ≤ 4096

-- bytes were written at an address, all in its page
abbrev pub Writes : Found → Found → ℕ → List ℕ → Type 0
Writes old new at bytes = WritesIn old new (at / 4096) (at % 4096) bytes
