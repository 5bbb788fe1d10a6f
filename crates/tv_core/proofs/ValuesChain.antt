-- Calls one after another give their lists one after another. What each call did proves what the whole did; at the exit
-- of a `?` it stands after `gives_refused`.
use Rattle.std.proofs.Common.{◌≡◌, ℕ, suc, ◌+◌, ◌<◌, List, [], ◌∷◌, ◌++◌, length, take, drop, get_or, Result, Ok, Err, IsErrAnd, sym, ◌∙◌, ap, subst, arith}
use Rattle.std.proofs.Common.{append_assoc}
use Rattle.std.proofs.Math.Seq.{drop-cons}
use Rattle.std.proofs.lemmas.List.{append-nil, take_more, take-append-drop}
use Rattle.std.proofs.lemmas.Result.{IfOk-from_err, err_from_is_err_and}
use Rattle.std.specs.Result.{IsErr, OnOk}
use Rattle.tv_core.proofs.Chain.{IsCause-after}
use Rattle.tv_core.specs.Values.{ValuesMeaning, GivesAll, GivesSome, GivesIn}
use Rattle.tv_core.specs.declared.sink.SinkFault.{SinkFault}

module _ {V : Type 0} (m : ValuesMeaning V) where
  pub gives_then : (xs ys : List ℕ) (old mid new : V) → GivesAll m old mid xs → GivesAll m mid new ys → GivesAll m old new (xs ++ ys)
  gives_then xs ys old mid new p q = record {
    stands = λ list s. subst (λ l. m.stands new l) (append_assoc list xs ys) (q.stands _ (p.stands list s));
    keeps = m.keeps_then old mid new p.keeps q.keeps;
    faults = omega (arith, p.faults, q.faults);
    wants = omega (arith, p.wants, q.wants);
  }

  pub gives_then_refused : (xs ys : List ℕ) (old mid new : V) (fault : SinkFault) → GivesAll m old mid xs → GivesSome m mid new ys fault
      → GivesSome m old new (xs ++ ys) fault
  gives_then_refused xs ys old mid new fault p q = record {
    front = xs ++ q.front;
    refused = q.refused;
    back = q.back;
    at = ap (λ l. xs ++ l) q.at ∙ sym (append_assoc xs q.front _);
    tried = λ list s. subst (λ l. m.tried new l) (append_assoc list xs _ ∙ ap (λ l. list ++ l) (sym (append_assoc xs q.front _)))
        (q.tried (list ++ xs) (p.stands list s));
    broken = q.broken;
    keeps = m.keeps_then old mid new p.keeps q.keeps;
    cause = IsCause-after fault m.faults m.wants old mid new p.faults p.wants q.cause;
    faults = omega (arith, p.faults, q.faults);
    wants = omega (arith, p.wants, q.wants);
  }

  pub gives_refused_then : (xs ys : List ℕ) (old new : V) (fault : SinkFault) → GivesSome m old new xs fault → GivesSome m old new (xs ++ ys) fault
  gives_refused_then xs ys old new fault p = record {
    front = p.front;
    refused = p.refused;
    back = p.back ++ ys;
    at = ap (λ l. l ++ ys) p.at ∙ append_assoc p.front _ _;
    tried = p.tried;
    broken = p.broken;
    keeps = p.keeps;
    cause = p.cause;
    faults = p.faults;
    wants = p.wants;
  }

  pub gives_nothing : (v : V) → GivesAll m v v []
  gives_nothing v = record {
    stands = λ list h. rw append-nil h;
    keeps = m.keeps_same v;
    faults = omega arith;
    wants = omega arith;
  }

  -- one value and then others
  pub gives_one_then_refused : (x : ℕ) (ys : List ℕ) (old mid new : V) (fault : SinkFault) → GivesAll m old mid (x ∷ []) → GivesSome m mid new ys fault
      → GivesSome m old new (x ∷ ys) fault
  gives_one_then_refused x ys = gives_then_refused (x ∷ []) ys

  pub gives_one_refused_then : (x : ℕ) (ys : List ℕ) (old new : V) (fault : SinkFault) → GivesSome m old new (x ∷ []) fault → GivesSome m old new (x ∷ ys) fault
  gives_one_refused_then x ys = gives_refused_then (x ∷ []) ys

  -- number i of a list, after those before it
  module _ (xs : List ℕ) (i x : ℕ) (h : i < length xs) (read : get_or xs i x ≡ x) (old mid new : V) where
    pub gives_next : GivesAll m old mid (take i xs) → GivesAll m mid new (x ∷ []) → GivesAll m old new (take (i + 1) xs)
    gives_next p q =
        subst (λ l. GivesAll m old new l) (sym (take_more xs i x h ∙ ap (λ y. take i xs ++ y ∷ []) read)) (gives_then (take i xs) (x ∷ []) old mid new p q)

    pub gives_next_refused : (fault : SinkFault) → GivesAll m old mid (take i xs) → GivesSome m mid new (x ∷ []) fault → GivesSome m old new xs fault
    gives_next_refused fault p q =
        let rest = drop (suc i) xs in
        let parts : take i xs ++ x ∷ rest ≡ xs =
        ap (λ l. take i xs ++ l) (ap (λ y. y ∷ rest) (sym read) ∙ sym (drop-cons xs i x h)) ∙ take-append-drop i xs in
        subst (λ l. GivesSome m old new l fault) parts
        (gives_then_refused (take i xs) (x ∷ rest) old mid new fault p (gives_one_refused_then x rest mid new fault q))

  -- the exit of a `?`
  pub gives_refused : (old new : V) (values : List ℕ) (result : Result (Unit {0}) SinkFault) {fault : SinkFault}
      → IsErrAnd result (λ e. e ≡ fault) → GivesSome m old new values fault → GivesIn m old new values result
  gives_refused old new values result {fault} r p =
      let e = err_from_is_err_and result r in
      rw (e.1, e.2) p

  -- both clauses there
  pub gives_refused_whole : (old new : V) (values : List ℕ) (result : Result (Unit {0}) SinkFault) {fault : SinkFault} (P : Type 0)
      → IsErr result × IsErrAnd result (λ e. e ≡ fault) → GivesSome m old new values fault
      → record { gives : GivesIn m old new values result; whole : OnOk result P }
  gives_refused_whole old new values result P r p =
      record { gives = gives_refused old new values result r.1 p; whole = IfOk-from_err result (λ _. P) r.0 }

  -- a last call, whose result is the whole's
  pub gives_in_then : (xs ys : List ℕ) (old mid new : V) (result : Result (Unit {0}) SinkFault)
      → GivesAll m old mid xs → GivesIn m mid new ys result → GivesIn m old new (xs ++ ys) result
  gives_in_then xs ys old mid new (Ok done) p q = gives_then xs ys old mid new p q
  gives_in_then xs ys old mid new (Err fault) p q = gives_then_refused xs ys old mid new fault p q

-- The same by the calls' records alone: `_` for the list after the first call's, which antt finds in the goal.
module _ {V : Type 0} {m : ValuesMeaning V} {xs : List ℕ} (ys : List ℕ) {old mid new : V} where
  pub all_given : GivesAll m old mid xs → GivesAll m mid new ys → GivesAll m old new (xs ++ ys)
  all_given p q = gives_then m _ ys _ _ _ p q

  pub some_given : {fault : SinkFault} → GivesAll m old mid xs → GivesSome m mid new ys fault → GivesSome m old new (xs ++ ys) fault
  some_given p q = gives_then_refused m _ ys _ _ _ _ p q

pub first_given : {V : Type 0} {m : ValuesMeaning V} {xs : List ℕ} (ys : List ℕ) {old new : V} {fault : SinkFault}
    → GivesSome m old new xs fault → GivesSome m old new (xs ++ ys) fault
first_given ys p = gives_refused_then _ _ ys _ _ _ p

pub in_given : {V : Type 0} {m : ValuesMeaning V} {xs : List ℕ} (ys : List ℕ) {old mid : V} (new : V) (result : Result (Unit {0}) SinkFault)
    → GivesAll m old mid xs → GivesIn m mid new ys result → GivesIn m old new (xs ++ ys) result
in_given ys new result p q = gives_in_then _ _ ys _ _ new result p q
