-- What is known of the operating system's files: four counts, and nothing of contents or of printed words.
use Rattle.std.specs.Prelude.{None, Result, Ok, Err}
use Rattle.tv_files.specs.MemFiles.{one_more}
use Rattle.tv_files.specs.Outside.{Outside}
use Rattle.tv_files.specs.declared.calls.FileRefusal.{FileRefusal}
use Rattle.tv_files.specs.declared.calls.FileRefusal.TheVariants.{Failed, Memory}
use Rattle.tv_disk.specs.declared.counts.Call.{Call}
use Rattle.tv_disk.specs.declared.counts.Call.TheVariants.{Reading, Writing, Saying}
use Rattle.tv_disk.specs.declared.counts.RefusalCounts.{RefusalCounts}

-- the counts as what is known of the outside
abbrev pub outside_of : RefusalCounts → Outside
outside_of counts = record {
  contents = None;
  said = None;
  read_faults = counts.read_faults;
  write_faults = counts.write_faults;
  say_faults = counts.say_faults;
  wants = counts.wants;
  absent = 0;
}

-- nothing has gone wrong yet
abbrev pub zeros : RefusalCounts
zeros = record { read_faults = 0; write_faults = 0; say_faults = 0; wants = 0 }

-- the counts once a call of this kind has failed
abbrev pub with_fault : Call → RefusalCounts → RefusalCounts
with_fault Reading counts = record counts { read_faults = one_more counts.read_faults }
with_fault Writing counts = record counts { write_faults = one_more counts.write_faults }
with_fault Saying counts = record counts { say_faults = one_more counts.say_faults }

-- the counts after a call of this kind that was refused so: one of them is raised
abbrev pub after_refusal : Call → FileRefusal → RefusalCounts → RefusalCounts
after_refusal call Failed counts = with_fault call counts
after_refusal call Memory counts = record counts { wants = one_more counts.wants }

-- the counts after a call of this kind that returned this
abbrev pub after : {A : Type 0} → Call → Result A FileRefusal → RefusalCounts → RefusalCounts
after call (Ok _) counts = counts
after call (Err why) counts = after_refusal call why counts
