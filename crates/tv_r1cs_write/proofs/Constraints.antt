-- A constraint that is written, and one that is refused.
use Rattle.tv_core.proofs.Common.{◌≡◌, ℕ, ◌+◌, ◌<◌, ◌≤◌, List, [], ◌∷◌, ◌++◌, take, Result, Ok, Err, append_assoc, append-nil, ap, refl, sym, ◌∙◌, arith}
use Rattle.tv_core.proofs.Common.{length-append, put, top, Combination, Constraint}
use Rattle.std.proofs.lemmas.Grind.{flat_map-append}
use Rattle.std.proofs.lemmas.List.Elements.{All-nil, All-cons, All-push, All-weaker}
use Rattle.std.specs.List.{All}
use Rattle.std.specs.Prelude.{false, is_err}
use Rattle.tv_container.specs.Taking.{PassesOn}
use Rattle.tv_container.specs.Writing.{Adds, Passes}
use Rattle.tv_core.specs.Sinks.{Emits}
use Rattle.tv_core.specs.declared.sink.SinkFault.{SinkFault}
use Rattle.tv_r1cs_write.specs.Bytes.{head_bytes, rows_bytes, constraint_bytes}
use Rattle.tv_r1cs_write.specs.Narrow.{AreShort, IsNarrow, HasWiresBelow}
use Rattle.tv_r1cs_write.specs.Streams.{SystemProgress, Stream, Stands, Tried, begun_bytes, stream_meaning}
use Rattle.tv_container.proofs.Buffers.{cause_seen, unrefused}
use Rattle.tv_container.proofs.Written.{has_more, has_front}

-- the bytes of one more constraint stand after those of the others
pub begun_bytes-more : (old new : SystemProgress) (list : List Constraint) (row : Constraint) → new.counts ≡ old.counts → new.labels ≡ old.labels →
    begun_bytes old list ++ constraint_bytes row ≡ begun_bytes new (list ++ row ∷ [])
begun_bytes-more old new list row counts labels =
    append_assoc (head_bytes old.counts old.labels) (rows_bytes list) (constraint_bytes row)
    ∙ ap (λ rows. head_bytes old.counts old.labels ++ rows)
    (sym (flat_map-append constraint_bytes list (row ∷ []) ∙ ap (λ last. rows_bytes list ++ last) (append-nil (constraint_bytes row))))
    ∙ rw (counts, labels) refl

-- the wires of a combination are below whatever is above its greatest
over_top : (wires : ℕ) (x : Combination) → top x ≤ wires → HasWiresBelow wires x
over_top wires [] within = All-nil (λ t. t.1 < wires)
over_top wires (t ∷ rest) within = All-cons (λ t. t.1 < wires) t rest (omega arith) (over_top wires rest (omega arith))

narrow : (wires : ℕ) (row : Constraint) → AreShort row → top row.a ≤ wires → top row.b ≤ wires → top row.c ≤ wires → IsNarrow wires row
narrow wires row short a b c = record { short = short; a = over_top wires row.a a; b = over_top wires row.b b; c = over_top wires row.c c }

-- and below whatever is above that
over_more : (wires : ℕ) (x : Combination) → HasWiresBelow wires x → HasWiresBelow (wires + 1) x
over_more wires x over = All-weaker (λ t. t.1 < wires) (λ t. t.1 < wires + 1) (λ t below. omega arith) x over

pub narrow_more : (wires : ℕ) (list : List Constraint) → All (IsNarrow wires) list → All (IsNarrow (wires + 1)) list
narrow_more wires list all = All-weaker (IsNarrow wires) (IsNarrow (wires + 1))
    (λ row is. record { short = is.short; a = over_more wires row.a is.a; b = over_more wires row.b is.b; c = over_more wires row.c is.c }) list all

-- a sink that has written one more constraint stands for it too
stands_more : (old new : Stream) (list : List Constraint) (row : Constraint) → Stands old list → IsNarrow old.progress.wires row → new.name ≡ old.name →
    new.progress ≡ record old.progress { held = new.progress.held; constraints = old.progress.constraints + 1 } →
    Passes old.outside new.outside old.name (old.progress.held ++ constraint_bytes row) new.progress.held → Stands new (list ++ row ∷ [])
stands_more old new list row stands is_narrow name progress passes = record {
  counted =
      ap (λ (p : SystemProgress). p.constraints) progress
      ∙ ap (λ n. n + 1) stands.counted
      ∙ sym (length-append list (row ∷ []));
  whole = ap (λ (p : SystemProgress). is_err p.outcome) progress ∙ stands.whole;
  narrow = rw (ap (λ (p : SystemProgress). p.wires) progress) (All-push (IsNarrow old.progress.wires) list row stands.narrow is_narrow);
  written = rw (
    name,
    ← begun_bytes-more old.progress new.progress list row (ap (λ (p : SystemProgress). p.counts) progress)
        (ap (λ (p : SystemProgress). p.labels) progress),
  )
      (has_more old.outside new.outside old.name old.progress.held _ (constraint_bytes row) new.progress.held stands.written passes);
}

-- a sink that was refused a constraint has tried it
tried_more : (old new : Stream) (list : List Constraint) (row : Constraint) → Stands old list → new.name ≡ old.name →
    new.progress.counts ≡ old.progress.counts → new.progress.labels ≡ old.progress.labels →
    ((n : ℕ) × Adds old.outside new.outside old.name (take n (old.progress.held ++ constraint_bytes row))) → Tried new (list ++ row ∷ [])
tried_more old new list row stands name counts labels added = record {
  written = rw (name, ← begun_bytes-more old.progress new.progress list row counts labels)
      (has_front old.outside new.outside old.name old.progress.held _ (constraint_bytes row) stands.written added);
}

-- a sink puts a constraint by taking its bytes, and answers what became of them
pub put_by : {S : Type 0} (seen : S → Stream) (old new : S) (row : Constraint) (outcome : Result (Unit {0}) SinkFault) →
    (seen new).borrow ≡ (seen old).borrow → (seen new).name ≡ (seen old).name →
    top row.a ≤ (seen old).progress.wires → top row.b ≤ (seen old).progress.wires → top row.c ≤ (seen old).progress.wires →
    PassesOn (seen old).outside (seen new).outside (seen old).name ((seen old).progress.held ++ constraint_bytes row) (seen new).progress.held outcome →
    AreShort row → (seen new).progress ≡ record
    (seen old).progress { held = (seen new).progress.held; constraints = (seen old).progress.constraints + 1; outcome = outcome } →
    is_err (seen old).progress.outcome ≡ false → Emits (stream_meaning seen) old new (put row.a row.b row.c) 0 1 outcome
unfolding put
put_by seen old new row (Ok unit) borrow name a b c passes short is unbroken =
    let first = unrefused (seen old).progress.outcome unbroken in
    let wires = ap (λ (p : SystemProgress). p.wires) is in
    let answered = ap (λ (p : SystemProgress). p.outcome) is in
    let same : (seen new).progress ≡ record (seen old).progress {
      held = (seen new).progress.held;
      constraints = (seen old).progress.constraints + 1;
    } = rw first is in
    record {
      puts = record {
        answers = refl;
        stands = λ list s. stands_more (seen old) (seen new) list row s (narrow (seen old).progress.wires row short a b c) name same passes.done;
        next = wires;
        keeps = record {
          borrow = borrow;
          name = name;
          counts = ap (λ (p : SystemProgress). p.counts) is;
          labels = ap (λ (p : SystemProgress). p.labels) is;
          outside = passes.only;
          cause = rw (first, answered) passes.cause;
        };
        faults = rw (first, answered) (omega arith);
        wants = rw (first, answered) (omega arith);
      };
      grows = record {
        wires = omega (arith, wires);
        constraints = ap (λ (p : SystemProgress). p.constraints) is;
        whole = ap (λ (p : SystemProgress). is_err p.outcome) is;
      };
    }
put_by seen old new row (Err fault) borrow name a b c passes short is unbroken =
    let counts = ap (λ (p : SystemProgress). p.counts) is in
    let labels = ap (λ (p : SystemProgress). p.labels) is in
    let first = unrefused (seen old).progress.outcome unbroken in
    let answered = ap (λ (p : SystemProgress). p.outcome) is in
    record {
      front = [];
      refused = row;
      back = [];
      at = refl;
      tried = λ list s. tried_more (seen old) (seen new) list row s name counts labels passes.refused;
      broken = ap (λ (p : SystemProgress). is_err p.outcome) is;
      keeps = record {
        borrow = borrow;
        name = name;
        counts = counts;
        labels = labels;
        outside = passes.only;
        cause = rw (first, answered) passes.cause;
      };
      cause = cause_seen (λ s. (seen s).progress.outcome) old new fault unbroken answered;
      faults = rw first (omega arith);
      wants = rw first (omega arith);
    }
