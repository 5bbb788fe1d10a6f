-- What was written is read, and what a file is on the way.
use Rattle.std.specs.Prelude.{◌≡◌, ◌⊎◌, ℕ, ◌^◌, ◌<◌, List, ◌++◌, length, Ok}
use Rattle.std.specs.List.{All}
use Rattle.tv_container.specs.Written.{HasFront}
use Rattle.tv_core.specs.declared.field.TheConstants.{P}
use Rattle.tv_wtns.specs.Bytes.{assignment_bytes, file_bytes}
use Rattle.tv_wtns.specs.Takers.{Taker, Stands, Tried}
use Rattle.tv_wtns.specs.Wtns.{assignment_of}

-- the bytes of numbers of the field are read as these numbers, where four bytes can count them
abbrev pub AssignmentsComeBack : Type 0
AssignmentsComeBack = (values : List ℕ) → length values < 2 ^ 32 → All (λ v. v < P) values → assignment_of (assignment_bytes values) ≡ Ok values

-- where the count is that of the values, their file is that of an assignment
abbrev pub FilesAreOfAssignments : Type 0
FilesAreOfAssignments = (count : ℕ) (values : List ℕ) → count ≡ length values → file_bytes count values ≡ assignment_bytes values

-- what a file has of the values passed, whether or not one was refused, is a first part of the file of each list that
-- begins with them
abbrev pub FilesAreFronts : Type 0
FilesAreFronts = (taker : Taker) (values more : List ℕ) → Stands taker values ⊎ Tried taker values →
    HasFront taker.outside taker.name (file_bytes taker.progress.count (values ++ more))
