-- Calls one after another put their circuits one after another, and the sink grows by what all of them made. What each
-- call did, in `all_then`, `some_then` and `some_first` below, proves what the whole did; at the exit of a `?` it stands
-- after `refused`.
use Rattle.std.proofs.Common.{◌≡◌, ℕ, zero, suc, ◌+◌, ◌-◌, ◌<◌, ◌≤◌, ◌++◌, Result, Ok, Err, IsErrAnd, false, refl, sym, ◌∙◌, ap, subst, append_assoc}
use Rattle.std.proofs.Common.{add-one, arith}
use Rattle.std.proofs.lemmas.List.{append-nil}
use Rattle.std.proofs.lemmas.Result.{IfOk-from_err, err_from_is_err_and}
use Rattle.std.specs.Result.{IfOk, IsErr}
use Rattle.tv_core.specs.Circuits.{Circuit, pure, here, turns, ◌>>=◌}
use Rattle.tv_core.proofs.Rooms.{both}
use Rattle.tv_core.specs.Sinks.{Meaning, Emits, EmitsAll, PutsAll, PutsSome, IsCause}
use Rattle.tv_core.specs.declared.sink.SinkFault.{SinkFault}
use Rattle.tv_core.specs.declared.sink.SinkFault.TheVariants.{Failed, Memory}

-- a cause after calls in which no count fell is a cause of the whole
pub IsCause-after : {S : Type 0} (fault : SinkFault) (faults wants : S → ℕ) (old mid new : S)
    → faults old ≤ faults mid → wants old ≤ wants mid → IsCause fault faults wants mid new → IsCause fault faults wants old new
IsCause-after Failed faults wants old mid new f w c = omega arith
IsCause-after Memory faults wants old mid new f w c = omega arith

module _ {S : Type 0} (m : Meaning S) where
  module _ {A B : Type 0} where
    pub puts_then : (first : Circuit A) (second : A → Circuit B) (old mid new : S) (a : A) (b : B)
        → PutsAll m old mid first a → PutsAll m mid new (second a) b → PutsAll m old new (first >>= second) b
    unfolding ◌>>=◌
    puts_then first second old mid new a b p q =
        let same : second a (m.wires mid) ≡ second (first (m.wires old)).answer (first (m.wires old)).next = rw (p.answers, p.next) in
        record {
          answers = q.answers ∙ ap (λ made. made.answer) same;
          stands = λ list s. subst (λ l. m.stands new l) (append_assoc list _ _ ∙ ap (λ made. list ++ ((first (m.wires old)).list ++ made.list)) same)
              (q.stands _ (p.stands list s));
          next = q.next ∙ ap (λ made. made.next) same;
          keeps = m.keeps_then old mid new p.keeps q.keeps;
          faults = omega (arith, p.faults, q.faults);
          wants = omega (arith, p.wants, q.wants);
        }

    pub puts_then_refused : (first : Circuit A) (second : A → Circuit B) (old mid new : S) (a : A) (fault : SinkFault)
        → PutsAll m old mid first a → PutsSome m mid new (second a) fault → PutsSome m old new (first >>= second) fault
    unfolding ◌>>=◌
    puts_then_refused first second old mid new a fault p q =
        let done = (first (m.wires old)).list in
        let same : second a (m.wires mid) ≡ second (first (m.wires old)).answer (first (m.wires old)).next = rw (p.answers, p.next) in
        record {
          front = done ++ q.front;
          refused = q.refused;
          back = q.back;
          at = ap (λ made. done ++ made.list) (sym same) ∙ ap (λ l. done ++ l) q.at ∙ sym (append_assoc done q.front _);
          tried = λ list s. subst (λ l. m.tried new l) (append_assoc list done _ ∙ ap (λ l. list ++ l) (sym (append_assoc done q.front _)))
              (q.tried (list ++ done) (p.stands list s));
          broken = q.broken;
          keeps = m.keeps_then old mid new p.keeps q.keeps;
          cause = IsCause-after fault m.faults m.wants old mid new p.faults p.wants q.cause;
          faults = omega (arith, p.faults, q.faults);
          wants = omega (arith, p.wants, q.wants);
        }

    pub refused_then : (first : Circuit A) (second : A → Circuit B) (old new : S) (fault : SinkFault)
        → PutsSome m old new first fault → PutsSome m old new (first >>= second) fault
    unfolding ◌>>=◌
    refused_then first second old new fault p =
        let after = second (first (m.wires old)).answer (first (m.wires old)).next in
        record {
          front = p.front;
          refused = p.refused;
          back = p.back ++ after.list;
          at = ap (λ l. l ++ after.list) p.at ∙ append_assoc p.front _ _;
          tried = p.tried;
          broken = p.broken;
          keeps = p.keeps;
          cause = p.cause;
          faults = p.faults;
          wants = p.wants;
        }

  module _ {A : Type 0} where
    pub puts_nothing : (s : S) (a : A) → PutsAll m s s (pure a) a
    unfolding pure
    puts_nothing s a = record {
      answers = refl;
      stands = λ list h. rw append-nil h;
      next = refl;
      keeps = m.keeps_same s;
      faults = omega arith;
      wants = omega arith;
    }

    -- a loop: before the first turn, after one more turn, and where a turn is refused
    pub puts_no_turn : (s : S) (piece : ℕ → A → Circuit A) (x : A) → PutsAll m s s (turns 0 piece x) x
    unfolding turns
    puts_no_turn s piece x = puts_nothing s x

    pub puts_turn : (n : ℕ) (piece : ℕ → A → Circuit A) (x a b : A) (old mid new : S)
        → PutsAll m old mid (turns n piece x) a → PutsAll m mid new (piece n a) b → PutsAll m old new (turns (n + 1) piece x) b
    unfolding turns
    puts_turn n piece x a b old mid new p q = rw add-one (puts_then (turns n piece x) (piece n) old mid new a b p q)

    turns_refused_by : (n : ℕ) (more : ℕ) (piece : ℕ → A → Circuit A) (x : A) (old new : S) (fault : SinkFault)
        → PutsSome m old new (turns (suc n) piece x) fault → PutsSome m old new (turns (suc n + more) piece x) fault
    unfolding turns
    turns_refused_by n zero piece x old new fault p = let same : suc n + 0 ≡ suc n = omega arith in rw same p
    turns_refused_by n (suc more) piece x old new fault p =
        let same : suc n + suc more ≡ suc (suc n + more) = omega arith in
        rw same (refused_then (turns (suc n + more) piece x) (piece (suc n + more)) old new fault (turns_refused_by n more piece x old new fault p))

    pub turn_refused : (n i : ℕ) (piece : ℕ → A → Circuit A) (x a : A) (old mid new : S) (fault : SinkFault)
        → i < n → PutsAll m old mid (turns i piece x) a → PutsSome m mid new (piece i a) fault → PutsSome m old new (turns n piece x) fault
    unfolding turns
    turn_refused n i piece x a old mid new fault h p q =
        let same : suc i + (n - suc i) ≡ n = omega arith in
        rw (← same) (turns_refused_by i (n - suc i) piece x old new fault (puts_then_refused (turns i piece x) (piece i) old mid new a fault p q))

  pub puts_here : (s : S) → PutsAll m s s here (m.wires s)
  unfolding here
  puts_here s = record {
    answers = refl;
    stands = λ list h. rw append-nil h;
    next = refl;
    keeps = m.keeps_same s;
    faults = omega arith;
    wants = omega arith;
  }

-- The same of what calls emit: `_` for the circuit after the first call, which antt finds in the goal.
module _ {S : Type 0} {m : Meaning S} where
  module _ {A B : Type 0} {first : Circuit A} (second : A → Circuit B) where
    pub all_then : {old mid new : S} {a : A} {b : B} {k l p q : ℕ}
        → EmitsAll m old mid first k l a → EmitsAll m mid new (second a) p q b → EmitsAll m old new (first >>= second) (k + p) (l + q) b
    all_then d e = record { puts = puts_then _ _ second _ _ _ _ _ d.puts e.puts; grows = both d.grows e.grows }

    -- no call follows
    pub all_last : {old new : S} {a : A} {b : B} {k l : ℕ} → EmitsAll m old new first k l a → second a ≡ pure b → EmitsAll m old new (first >>= second) k l b
    all_last {new = new} {b = b} d e = record { puts = puts_then _ _ second _ _ _ _ _ d.puts (rw e (puts_nothing m new b)); grows = d.grows }

    -- a last call whose result is the whole's
    pub then_in : {old mid : S} (new : S) {a : A} {k l : ℕ} (p q : ℕ) (result : Result B SinkFault)
        → EmitsAll m old mid first k l a → Emits m mid new (second a) p q result → Emits m old new (first >>= second) (k + p) (l + q) result
    then_in new p q (Ok b) d e = all_then d e
    then_in new p q (Err fault) d e = puts_then_refused _ _ second _ _ _ _ _ d.puts e

    pub some_then : {old mid new : S} {a : A} {k l : ℕ} {fault : SinkFault}
        → EmitsAll m old mid first k l a → PutsSome m mid new (second a) fault → PutsSome m old new (first >>= second) fault
    some_then d p = puts_then_refused _ _ second _ _ _ _ _ d.puts p

    pub some_first : {old new : S} {fault : SinkFault} → PutsSome m old new first fault → PutsSome m old new (first >>= second) fault
    some_first p = refused_then _ _ second _ _ _ p

  module _ {A : Type 0} {old new : S} {circuit : Circuit A} where
    -- the numbers of wires and constraints written otherwise
    pub emits_as : {answer : A} {k l p q : ℕ} → k ≡ p → l ≡ q → EmitsAll m old new circuit k l answer → EmitsAll m old new circuit p q answer
    emits_as e f d = rw (← e, ← f) d

    -- the exit of a `?`
    pub refused : (made added : ℕ) (result : Result A SinkFault) {fault : SinkFault}
        → IsErrAnd result (λ e. e ≡ fault) → PutsSome m old new circuit fault → Emits m old new circuit made added result
    refused made added result r p =
        let e = err_from_is_err_and result r in
        rw (e.1, e.2) p

    -- all clauses there: `emits` alone, and with the one of the wires that are returned
    pub refused_whole : (made added : ℕ) (result : Result A SinkFault) {fault : SinkFault}
        → IsErr result × IsErrAnd result (λ e. e ≡ fault) → PutsSome m old new circuit fault → record { emits : Emits m old new circuit made added result }
    refused_whole made added result r p = record { emits = refused made added result r.1 p }

    pub refused_wires : (made added : ℕ) (result : Result A SinkFault) {fault : SinkFault} (P : A → Type 0)
        → IsErr result × IsErrAnd result (λ e. e ≡ fault) → PutsSome m old new circuit fault
        → record { emits : Emits m old new circuit made added result; below : IfOk result P }
    refused_wires made added result P r p = record { emits = refused made added result r.1 p; below = IfOk-from_err result P r.0 }

  -- the next wire's number, as a call returned it
  pub emits_here : {s : S} {w : ℕ} → m.broken s ≡ false → w ≡ m.wires s → EmitsAll m s s here 0 0 w
  emits_here {s = s} whole same =
      record { puts = rw same (puts_here m s); grows = record { wires = omega arith; constraints = omega arith; whole = whole } }

  module _ {A : Type 0} (piece : ℕ → A → Circuit A) (x : A) where
    pub emits_no_turn : {s : S} → m.broken s ≡ false → EmitsAll m s s (turns 0 piece x) 0 0 x
    emits_no_turn {s = s} whole =
        record { puts = puts_no_turn m s piece x; grows = record { wires = omega arith; constraints = omega arith; whole = whole } }

    module _ {a : A} {old mid new : S} {k l : ℕ} (i : ℕ) (d : EmitsAll m old mid (turns i piece x) k l a) where
      pub emits_turn : {b : A} {p q : ℕ} → EmitsAll m mid new (piece i a) p q b → EmitsAll m old new (turns (i + 1) piece x) (k + p) (l + q) b
      emits_turn e = record { puts = puts_turn m i piece x a _ old mid new d.puts e.puts; grows = both d.grows e.grows }

      pub turn_some : {n : ℕ} {fault : SinkFault} → i < n → PutsSome m mid new (piece i a) fault → PutsSome m old new (turns n piece x) fault
      turn_some h p = turn_refused m _ i piece x a old mid new _ h d.puts p

-- the same of a call whose result is the whole's
pub emits_in : {S : Type 0} (m : Meaning S) {A : Type 0} (old new : S) (circuit : Circuit A) {k l p q : ℕ} (result : Result A SinkFault)
    → k ≡ p → l ≡ q → Emits m old new circuit k l result → Emits m old new circuit p q result
emits_in m old new circuit result e f d = rw (← e, ← f) d
