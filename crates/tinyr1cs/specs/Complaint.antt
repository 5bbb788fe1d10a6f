-- What the program says on standard error.
use Rattle.std.specs.Prelude.{ℕ, List, ◌++◌, Option, Some, None, unwrap_or, slice_get, codes}
use Rattle.tv_disk.specs.Escaped.{escaped}
use Rattle.tv_plan.specs.declared.status.Status.{Status}
use Rattle.tv_plan.specs.declared.status.Status.TheVariants.{FileFault, Memory}
use Rattle.tinyr1cs.specs.declared.complaint.Complaint.{Complaint}
use Rattle.tinyr1cs.specs.declared.complaint.Complaint.TheVariants as complaint
use Rattle.tinyr1cs.specs.declared.words.NoWords.{NoWords}
use Rattle.tinyr1cs.specs.declared.words.NoWords.TheVariants.{NoStreams, NotUtf8, NoMemory}

-- what a complaint says
abbrev pub text_of : Complaint → List ℕ
text_of complaint.NotUtf8 = codes "not UTF-8"
text_of complaint.NoMemory = codes "no memory"
text_of (complaint.FileFault name) = codes "file fault: " ++ escaped name.now

-- the line on standard error after a status, where there is one
abbrev pub complaint_text : List (List ℕ) → Status → Option (List ℕ)
complaint_text words (FileFault word) = Some (codes "file fault: " ++ escaped (unwrap_or (slice_get words word) (codes "output")))
complaint_text words Memory = Some (codes "no memory")
complaint_text words _ = None

-- the line where there are no words
abbrev pub no_words_text : NoWords → List ℕ
no_words_text NoStreams = codes "file fault: " ++ escaped (codes "/")
no_words_text NotUtf8 = codes "not UTF-8"
no_words_text NoMemory = codes "no memory"
