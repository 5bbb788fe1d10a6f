-- The numbers that C sees.
use Rattle.std.specs.Prelude.{ℕ}
use Rattle.tinyr1cs_c.specs.declared.answer.Answer.{Answer}
use Rattle.tinyr1cs_c.specs.declared.answer.Answer.TheVariants.{Done, Memory, NotUtf8, Closed, Opened, Short, Absent}

-- those of Done and Memory are the commands' own, and that of NotUtf8 is the program's
abbrev pub code_of : Answer → ℕ
code_of Done = 0
code_of Memory = 9
code_of NotUtf8 = 14
code_of Closed = 15
code_of Opened = 16
code_of Short = 17
code_of Absent = 18
