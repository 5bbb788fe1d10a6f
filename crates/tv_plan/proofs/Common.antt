-- The names that most proofs here cite, passed on from one place. Declares nothing.
pub use Rattle.tv_files.specs.Outside.{Names, Outside, OnlyWrites, OnlyReads, MissesOnly, NoneFell, RanOut, SameCounts}
pub use Rattle.tv_word.specs.Counts.{Rose}
pub use Rattle.tv_plan.specs.declared.refusal.Bad.{Bad}
pub use Rattle.tv_plan.specs.declared.refusal.Ending.{Ending}
pub use Rattle.tv_plan.specs.declared.refusal.Finish.{Finish}
pub use Rattle.tv_plan.specs.declared.refusal.What.{What}
pub use Rattle.tv_plan.specs.declared.refusal.Refusal.{Refusal}
pub use Rattle.tv_plan.specs.declared.refusal.Stop.{Stop}
pub use Rattle.tv_plan.specs.declared.refusal.Stop.TheVariants.{Fault, Memory, Contents}
pub use Rattle.tv_plan.specs.declared.refusal.Ending.TheVariants.{Refused, Stopped, Finished}
pub use Rattle.tv_plan.specs.declared.status.Status.{Status}
pub use Rattle.tv_plan.specs.declared.inputs.Inputs.{Inputs}
pub use Rattle.tv_plan.specs.declared.programs.Program.{Program}
pub use Rattle.tv_plan.specs.declared.programs.Width.{Width}
pub use Rattle.tv_plan.specs.declared.programs.Width.TheVariants.{Bits16, Bits32}
pub use Rattle.tv_plan.specs.Plan.{Named, Amount, name_at, Look, Outcome, Plan, Write, Answer, files_of, answer_by, answer_of, ending_by, writes_by, outcome_by}
pub use Rattle.tv_plan.specs.Plan.{◌>>=◌, held_at, made_of, settled, same_in, same_of, is_out, limit_of, request_of, map_ok, look_on, within}
pub use Rattle.tv_plan.specs.Plan.{refusal_of}
unfoldable pub use Rattle.tv_plan.specs.Plan.{input}
pub use Rattle.tv_plan.specs.Finds.{IsOneOf, IsFound, reading, reading_of, Finds, Leaves, Makes, Spares}
pub use Rattle.tv_plan.specs.Ends.{AreRead, files_with, IsCutAt, IsCutInWriting, Said, SaidPart, Ends, IsConcluded, IsQuiet, IsUntouched, Concludes, Writes}
pub use Rattle.tv_plan.specs.Ends.{IsCut, Completes, IsAnswered, sink_stop, streamed, HasPartOf}
pub use Rattle.tv_plan.specs.Answers.{words_of, plan_reading, MayStop, MayEnd, quantities_of, IsOfWords, ChangedAt, IsSaid, Answers, Does, ending_of}
pub use Rattle.tv_plan.specs.Claims.{Call, Holds, Then, IsStopped, status_by, Answered, AnswersOrStops}
pub use Rattle.tv_plan.specs.Programs.{bits, program_in, program_flaws, image_words, image_bytes, program_result, HasImage, width_of_text, program_of}
unfoldable pub use Rattle.tv_plan.specs.Programs.{program_by, image_of}
pub use Rattle.tv_plan.specs.Status.{bad_status, refusal_status, stop_status, finish_status, ending_status}
pub use Rattle.tv_plan.specs.Contents.{Content, bytes_in, IsRead}
