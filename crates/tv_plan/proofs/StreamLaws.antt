-- From a file that was streamed to what writing a plan's file is.
use Rattle.tv_core.proofs.Common.{◌≡◌, ℕ, List, [], ◌∷◌, Result, Ok, Err, inl, inr, refl, ap, ◌∙◌, arith, rules, range_with_len}
use Rattle.std.proofs.Common.{option_map}
use Rattle.std.specs.Prelude.{OnOk, MatchResult}
use Rattle.tv_container.proofs.Buffers.{counts_then, ran_out_since}
use Rattle.tv_container.proofs.Streamed.{not_created}
use Rattle.tv_container.specs.Written.{IsStreamed, NotCreated}
use Rattle.tv_core.specs.Constraints.{System}
use Rattle.tv_core.specs.declared.sink.SinkFault.{SinkFault}
use Rattle.tv_core.specs.declared.sink.SinkFault.TheVariants as sink
use Rattle.tv_files.proofs.Cases.{OnOk-map}
use Rattle.tv_files.specs.Outside.{with_bytes}
use Rattle.tv_plan.proofs.Common.{Outside, Stop, Fault, Memory, Contents, AreRead, IsCut, IsCutAt, files_with, bytes_in, IsRead, Writes, sink_stop, streamed}
use Rattle.tv_plan.proofs.Common.{Write}
use Rattle.tv_r1cs_write.specs.Streams.{IsSystemStreamed, labelled}
use Rattle.tv_wtns.proofs.StreamLaws.{IsAssignmentStreamed}
use Rattle.tv_plan.specs.Contents.{Content, Content.{Constraints, Values}}

pub writes_at : {X : Type 0} {ws : List Write} {old mid new : Outside} {found : Result X Stop} → Writes ws old mid found → new ≡ mid → Writes ws old new found
writes_at is same = rw same is

pub writes_streamed : (w : Write) (old new : Outside) (result : Result (Unit {0}) SinkFault) → IsStreamed old new w.name (bytes_in w.content) result
    → OnOk result (IsRead w.content) → Writes (w ∷ []) old new (streamed w.word result)
writes_streamed w old new (Ok done) is read = record { ended = (is.whole, (read, tt)); quiet = is.cause; only = is.only }
writes_streamed w old new (Err sink.Failed) is read = record { ended = (inl (refl, is.part), is.cause); quiet = tt; only = is.only }
writes_streamed w old new (Err sink.Memory) is read = record { ended = (w.word, inl (refl, is.part), is.cause); quiet = tt; only = is.only }

-- the file wasn't created
pub writes_nothing : (word : ℕ) (name : List ℕ) (content : Content) (old new : Outside) (fault : SinkFault) → NotCreated old new name fault
    → Writes {X = Unit {0}} (record { word = word; name = name; content = content } ∷ []) old new (Err (sink_stop word fault))
writes_nothing word name content old new fault none = writes_streamed (record { word = word; name = name; content = content }) old new (Err fault)
    (not_created old new name (bytes_in content) fault none) tt

-- one was written whole, and then these
pub writes_next : {X Y : Type 0} (w : Write) (ws : List Write) (old mid new : Outside) (done : X) (result : Result Y Stop) → Writes (w ∷ []) old mid (Ok done)
    → Writes ws mid new result → Writes (w ∷ ws) old new result
writes_next {Y} w ws old mid new done result one rest =
    record {
      ended = ended ws result rest.ended;
      quiet = OnOk-map result (counts_then one.quiet) rest.quiet;
      only = record {
        said = rest.only.said ∙ one.only.said;
        absent = λ files known. rest.only.absent (with_bytes w.name (bytes_in w.content) files)
            (one.ended.0 ∙ ap (option_map (with_bytes w.name (bytes_in w.content))) known) ∙ one.only.absent files known;
        later = search rules;
      };
    }
  where
    ended : (ws : List Write) (result : Result Y Stop)
        → MatchResult result (λ _. (new.contents ≡ files_with ws mid.contents) × AreRead ws) (λ stop. IsCut ws mid new stop) →
        MatchResult result (λ _. (new.contents ≡ files_with (w ∷ ws) old.contents) × AreRead (w ∷ ws)) (λ stop. IsCut (w ∷ ws) old new stop)
    ended ws (Ok x) is = (is.0 ∙ ap (files_with ws) one.ended.0, (one.ended.1.0, is.1))
    ended ws (Err (Contents bad)) is = absurd is
    ended ws (Err (Fault at)) is = (inr (rw one.ended.0 at is.0), omega (arith, is.1, one.only.later.write_faults))
    ended ws (Err Memory) cut = (cut.0, inr (rw one.ended.0 at cut.1), ran_out_since one.quiet cut.2)

-- or its writing was cut short, and the others are as they were
pub writes_first : {X : Type 0} (w : Write) (ws : List Write) (old new : Outside) (stop : Stop) → Writes {X = X} (w ∷ []) old new (Err stop)
    → Writes {X = X} (w ∷ ws) old new (Err stop)
writes_first w ws old new stop one = record { ended = ended stop one.ended; quiet = tt; only = one.only }
  where
    front : (word : ℕ) → IsCutAt word (w ∷ []) old.contents new.contents → IsCutAt word (w ∷ ws) old.contents new.contents
    front word (inl here) = inl here
    front word (inr never) = absurd never

    ended : (stop : Stop) → IsCut (w ∷ []) old new stop → IsCut (w ∷ ws) old new stop
    ended (Fault word) cut = (front word cut.0, cut.1)
    ended Memory cut = (cut.0, front cut.0 cut.1, cut.2)
    ended (Contents bad) cut = absurd cut

pub writes_system : (word : ℕ) (name : List ℕ) (system : System) (old new : Outside) (result : Result (Unit {0}) SinkFault)
    → IsSystemStreamed old new name (labelled system system.wires (range_with_len 0 system.wires)) result →
    Writes (record { word = word; name = name; content = Constraints system } ∷ []) old new (streamed word result)
writes_system word name system old new result is = writes_streamed
    (record { word = word; name = name; content = Constraints system }) old new result is.file is.read

pub writes_values : (word : ℕ) (name values : List ℕ) (old new : Outside) (result : Result (Unit {0}) SinkFault)
    → IsAssignmentStreamed old new name values result →
    Writes (record { word = word; name = name; content = Values values } ∷ []) old new (streamed word result)
writes_values word name values old new result is = writes_streamed (record { word = word; name = name; content = Values values }) old new result is.file is.read
