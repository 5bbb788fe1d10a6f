-- What the code's own types stand for, for clauses inside the crate; no public clause cites them.
use Rattle.std.specs.Prelude.{◌≡◌, ℕ, ◌+◌, ◌*◌, ◌/◌, ◌%◌, ◌^◌, nat_lt, Bool, false, if◌then◌else◌, List, [], length, Option, Some, None, Result, Ok, Err}
use Rattle.std.specs.BTreeMap.{get_by}
use Rattle.std.specs.Ordering.{nat_cmp}
use Rattle.std.specs.Cmp.Lexicographic.{slice_cmp}
use Rattle.std.specs.List.{before_first, count_by}
use Rattle.std.specs.Option.{option_map, option_map_or}
use Rattle.tv_asm.specs.Assembly.{Context}
use Rattle.tv_asm.specs.Labels.{defines, has_instruction, is_defined}
use Rattle.tv_asm.specs.Line.{Said}
use Rattle.tv_asm.specs.declared.fault.AsmWhy.{AsmWhy}
use Rattle.tv_asm.specs.declared.labels.Labels.{Labels}
use Rattle.tv_asm.specs.declared.labels.Place.{Place}
use Rattle.tv_asm.specs.declared.line.Statement.{Statement}

-- a statement, by the bytes that it borrows
abbrev pub said_by : Statement → Said
said_by s = record { label = option_map (λ l. l.now) s.label; instruction = s.instruction.now }

-- where a label is noted
abbrev pub place_in : Labels → List ℕ → Option Place
place_in labels name = get_by (λ k. slice_cmp nat_cmp name k.now) labels.places

-- the first line of these that defines a label, and the address that it has there
unfoldable pub first_place : ℕ → List (List ℕ) → List ℕ → Option Place
first_place w lines name =
    if is_defined lines name
    then Some (record {
      line = length (before_first (defines name) lines) + 1;
      address = 2 * (w / 8) * count_by has_instruction (before_first (defines name) lines) % 2 ^ w;
    })
    else None

-- the labels noted are those of the lines, for words of w bits
pub record AreLabelsOf (w : ℕ) (labels : Labels) (lines : List (List ℕ)) : Type 0 where
  pub each : (name : List ℕ) → place_in labels name ≡ first_place w lines name

-- the address of a label
abbrev pub address_in : Labels → List ℕ → Option ℕ
address_in labels name = option_map (λ place. place.address) (place_in labels name)

-- a label that a line before this one defines
abbrev pub is_earlier : Labels → ℕ → List ℕ → Bool
is_earlier labels number name = option_map_or (λ place. nat_lt place.line number) (place_in labels name) false

-- what the line of this number is read with, by the labels noted
abbrev pub context_in : Labels → ℕ → Context
context_in labels number = record { number = number; earlier = is_earlier labels number; address = address_in labels }

-- the words of a line, which may have none
abbrev pub words_said : Result (Option (List ℕ)) AsmWhy → Result (List ℕ) AsmWhy
words_said (Ok None) = Ok []
words_said (Ok (Some words)) = Ok words
words_said (Err why) = Err why
