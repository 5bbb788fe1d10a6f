-- Files in memory: that their contents are known, and what fails on demand.
use Rattle.std.specs.Prelude.{◌≡◌, ◌==◌, ℕ, ◌+◌, ◌-◌, ◌/◌, ◌^◌, min, List, [], length, take, Bool, true, false, if◌then◌else◌, Option, Some, None, option_map}
use Rattle.std.specs.Prelude.{Result, Ok, Err, Vec, String}
use Rattle.std.specs.List.{list_any}
use Rattle.std.specs.Global.{Global}
use Rattle.std.specs.BTreeMap.{BTreeMap, get_by_text}
use Rattle.tv_files.specs.Outside.{Names, Outside}
use Rattle.tv_files.specs.declared.calls.FileRefusal.{FileRefusal}
use Rattle.tv_files.specs.declared.calls.FileRefusal.TheVariants.{Failed, Memory}
use Rattle.tv_files.specs.declared.mem_files.MemFiles.{MemFiles}

-- the files in a map from names to bytes
abbrev pub names_in : BTreeMap (String Global) (Vec ℕ Global) → Names
names_in map name = option_map (λ bytes. bytes.items) (get_by_text map name)

-- the names with their bytes
abbrev pub names_of : MemFiles → Names
names_of files = names_in files.names

-- the bytes printed
abbrev pub said_of : MemFiles → List ℕ
said_of files = files.said.items

-- how many calls were made
abbrev pub calls_of : MemFiles → ℕ
calls_of files = files.calls

-- the numbers of the calls that are to fail
abbrev pub failing_of : MemFiles → List ℕ
failing_of files = files.failing.items

-- the outside that files in memory are: all contents are known
abbrev pub outside_of : MemFiles → Outside
outside_of files = record {
  contents = Some (names_of files);
  said = Some (said_of files);
  read_faults = files.read_faults;
  write_faults = files.write_faults;
  say_faults = files.say_faults;
  wants = files.wants;
  absent = files.absent;
}

-- no names, nothing printed, and counts of 0
abbrev pub nothing : Outside
nothing = record {
  contents = Some (λ _. None);
  said = Some [];
  read_faults = 0;
  write_faults = 0;
  say_faults = 0;
  wants = 0;
  absent = 0;
}

-- one more, up to a counter's last value
abbrev pub one_more : ℕ → ℕ
one_more n = min (n + 1) (2 ^ 64 - 1)

-- one more where the event came, and else as before
abbrev pub raised : Bool → ℕ → ℕ
raised came n = if came then one_more n else n

-- this call number is among those that are to fail
abbrev pub is_listed : ℕ → List ℕ → Bool
is_listed number failing = list_any (λ listed. listed == number) failing

-- the next call is to fail
abbrev pub is_due : MemFiles → Bool
is_due files = is_listed (one_more (calls_of files)) (failing_of files)

-- the call failed
abbrev pub is_failed : {T : Type 0} → Result T FileRefusal → Bool
is_failed (Ok _) = false
is_failed (Err Failed) = true
is_failed (Err Memory) = false

-- memory ran out in the call
abbrev pub is_out_of_memory : {T : Type 0} → Result T FileRefusal → Bool
is_out_of_memory (Ok _) = false
is_out_of_memory (Err Failed) = false
is_out_of_memory (Err Memory) = true

-- which events came in a call: a fault in a read, in a write or in saying, memory running out, a name that isn't there
pub record Events : Type 0 where
  pub read_fault : Bool
  pub write_fault : Bool
  pub say_fault : Bool
  pub want : Bool
  pub miss : Bool

-- none of them
abbrev pub no_event : Events
no_event = record { read_fault = false; write_fault = false; say_fault = false; want = false; miss = false }

-- one call was made, and each count rose by one exactly where its event came
pub record Counted (old new : MemFiles) (came : Events) : Type 0 where
  pub calls : calls_of new ≡ one_more (calls_of old)
  pub failing : failing_of new ≡ failing_of old
  pub read_faults : (outside_of new).read_faults ≡ raised came.read_fault (outside_of old).read_faults
  pub write_faults : (outside_of new).write_faults ≡ raised came.write_fault (outside_of old).write_faults
  pub say_faults : (outside_of new).say_faults ≡ raised came.say_fault (outside_of old).say_faults
  pub wants : (outside_of new).wants ≡ raised came.want (outside_of old).wants
  pub absent : (outside_of new).absent ≡ raised came.miss (outside_of old).absent

-- what a read returns: a fault where the call is to fail or the name isn't there, and else all that fits
abbrev pub read_answer : Bool → Option (List ℕ) → ℕ → ℕ → Result ℕ FileRefusal
read_answer true _ at room = Err Failed
read_answer false None at room = Err Failed
read_answer false (Some bytes) at room = Ok (min room (length bytes - at))

-- the first half, rounded down
abbrev pub first_half : List ℕ → List ℕ
first_half bytes = take (length bytes / 2) bytes
