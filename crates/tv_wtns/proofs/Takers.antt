-- A value that is written, and one that is refused.
use Rattle.tv_core.proofs.Common.{◌≡◌, ℕ, ◌<◌, List, [], ◌∷◌, ◌++◌, take, Result, Ok, Err, append_assoc, append-nil, ap, refl, sym, ◌∙◌, arith}
use Rattle.std.specs.Prelude.{false, is_err}
use Rattle.std.proofs.lemmas.Grind.{flat_map-append}
use Rattle.std.proofs.lemmas.List.Elements.{All-push}
use Rattle.tv_container.specs.Bytes.{eight_bytes}
use Rattle.tv_container.specs.Taking.{PassesOn}
use Rattle.tv_container.specs.Writing.{Adds, Passes}
use Rattle.tv_container.proofs.Written.{has_more, has_front}
use Rattle.tv_container.proofs.Buffers.{cause_seen, unrefused}
use Rattle.tv_core.specs.Values.{GivesIn}
use Rattle.tv_core.specs.declared.sink.SinkFault.{SinkFault}
use Rattle.tv_core.specs.declared.field.TheConstants.{P}
use Rattle.tv_wtns.specs.Bytes.{file_bytes, head_bytes, values_bytes}
use Rattle.tv_wtns.specs.Takers.{ValuesProgress, Taker, Stands, Tried, taker_giving}

-- the bytes of one more value stand after those of the others
file_bytes-more : (old new : ℕ) (values : List ℕ) (value : ℕ) → new ≡ old → file_bytes old values ++ eight_bytes value ≡ file_bytes new (values ++ value ∷ [])
file_bytes-more old new values value same =
    append_assoc (head_bytes old) (values_bytes values) (eight_bytes value)
    ∙ ap (λ rest. head_bytes old ++ rest)
    (sym (flat_map-append eight_bytes values (value ∷ []) ∙ ap (λ last. values_bytes values ++ last) (append-nil (eight_bytes value))))
    ∙ rw same refl

-- a taker that has written one more value stands for it too
pub stands_more : (old new : Taker) (values : List ℕ) (value : ℕ) → Stands old values → value < P → new.name ≡ old.name →
    new.progress ≡ record old.progress { held = new.progress.held } →
    Passes old.outside new.outside old.name (old.progress.held ++ eight_bytes value) new.progress.held → Stands new (values ++ value ∷ [])
stands_more old new values value stands below name progress passes = record {
  whole = ap (λ (p : ValuesProgress). is_err p.outcome) progress ∙ stands.whole;
  canonical = All-push (λ v. v < P) values value stands.canonical below;
  written = rw (name, ← file_bytes-more old.progress.count new.progress.count values value (ap (λ (p : ValuesProgress). p.count) progress))
      (has_more old.outside new.outside old.name old.progress.held _ (eight_bytes value) new.progress.held stands.written passes);
}

-- a taker that was refused a value has tried it
pub tried_more : (old new : Taker) (values : List ℕ) (value : ℕ) → Stands old values → new.name ≡ old.name → new.progress.count ≡ old.progress.count →
    ((n : ℕ) × Adds old.outside new.outside old.name (take n (old.progress.held ++ eight_bytes value))) → Tried new (values ++ value ∷ [])
tried_more old new values value stands name count added = record {
  written = rw (name, ← file_bytes-more old.progress.count new.progress.count values value count)
      (has_front old.outside new.outside old.name old.progress.held _ (eight_bytes value) stands.written added);
}

-- a taker takes a value by taking its bytes, and returns what became of them
pub given : {V : Type 0} (seen : V → Taker) (old new : V) (value : ℕ) (outcome : Result (Unit {0}) SinkFault) →
    (seen new).borrow ≡ (seen old).borrow → (seen new).name ≡ (seen old).name → value < P →
    PassesOn (seen old).outside (seen new).outside (seen old).name ((seen old).progress.held ++ eight_bytes value) (seen new).progress.held outcome →
    (seen new).progress ≡ record (seen old).progress { held = (seen new).progress.held; outcome = outcome } →
    is_err (seen old).progress.outcome ≡ false → GivesIn (taker_giving seen) old new (value ∷ []) outcome
given seen old new value (Ok unit) borrow name below passes is unbroken =
    let first = unrefused (seen old).progress.outcome unbroken in
    let answered = ap (λ (p : ValuesProgress). p.outcome) is in
    let same : (seen new).progress ≡ record (seen old).progress { held = (seen new).progress.held } = rw first is in
    record {
      stands = λ list s. stands_more (seen old) (seen new) list value s below name same passes.done;
      keeps = record {
        borrow = borrow;
        name = name;
        count = ap (λ (p : ValuesProgress). p.count) is;
        outside = passes.only;
        cause = rw (first, answered) passes.cause;
      };
      faults = rw (first, answered) (omega arith);
      wants = rw (first, answered) (omega arith);
    }
given seen old new value (Err fault) borrow name below passes is unbroken =
    let count = ap (λ (p : ValuesProgress). p.count) is in
    let first = unrefused (seen old).progress.outcome unbroken in
    let answered = ap (λ (p : ValuesProgress). p.outcome) is in
    record {
      front = [];
      refused = value;
      back = [];
      at = refl;
      tried = λ list s. tried_more (seen old) (seen new) list value s name count passes.refused;
      broken = ap (λ (p : ValuesProgress). is_err p.outcome) is;
      keeps = record {
        borrow = borrow;
        name = name;
        count = count;
        outside = passes.only;
        cause = rw (first, answered) passes.cause;
      };
      cause = cause_seen (λ v. (seen v).progress.outcome) old new fault unbroken answered;
      faults = rw first (omega arith);
      wants = rw first (omega arith);
    }
