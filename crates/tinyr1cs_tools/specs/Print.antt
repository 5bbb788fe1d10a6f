-- What is printed for what files hold.
use Rattle.std.specs.Prelude.{◌≡◌, ℕ, ◌⊎◌, List, Ok, Err}
use Rattle.tv_files.specs.Calls.{Says}
use Rattle.tv_files.specs.Outside.{Outside}
use Rattle.tv_files.specs.declared.calls.FileRefusal.TheVariants as refusal
use Rattle.tv_plan.specs.Ends.{Concludes}
use Rattle.tv_plan.specs.Finds.{Finds, Reading}
use Rattle.tv_plan.specs.declared.refusal.Ending.{Ending}
use Rattle.tv_plan.specs.declared.refusal.Ending.TheVariants.{Stopped, Finished}
use Rattle.tv_plan.specs.declared.refusal.Finish.{Finish}
use Rattle.tv_plan.specs.declared.refusal.Stop.{Stop}
use Rattle.tv_plan.specs.declared.status.Status.{Status}
use Rattle.tv_plan.specs.declared.status.Status.TheVariants.{FileFault, Memory}

-- the text was printed, and then the line of the end; or printing the text failed, or ran out of memory, which leave a
-- prefix of it
abbrev pub Prints : List ℕ → Ending → ℕ → Outside → Outside → Status → Type 0
Prints text ending words old new result =
    ((mid : Outside) × Says old mid text (Ok tt) × Concludes ending words mid new result)
    ⊎ ((result ≡ FileFault words) × Says old new text (Err refusal.Failed))
    ⊎ ((result ≡ Memory) × Says old new text (Err refusal.Memory))

-- Files were read, and what was found was printed: this text, and then the line of this end. Or they were refused, and the
-- line of that was printed; or memory ran out before anything was.
abbrev pub PrintsFound : {A : Type 0} → Reading A → (A → List ℕ) → (A → Finish) → ℕ → Outside → Outside → Status → Type 0
PrintsFound {A} of text finish words old new result =
    ((stop : Stop) × (mid : Outside) × Finds (λ (found : A). found) of old mid (Err stop) × Concludes (Stopped stop) words mid new result)
    ⊎ ((found : A) × (mid : Outside) × Finds (λ (found : A). found) of old mid (Ok found)
    × (Prints (text found) (Finished (finish found)) words mid new result ⊎ ((result ≡ Memory) × (new ≡ mid))))
