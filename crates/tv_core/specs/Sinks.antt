-- What a sink of constraints means, and what a call that puts constraints into one does.
use Rattle.std.specs.Prelude.{◌≡◌, ℕ, ◌+◌, ◌^◌, ◌≤◌, ◌<◌, Bool, true, false, List, [], ◌∷◌, ◌++◌, Result, MatchResult}
use Rattle.tv_core.specs.Constraints.{Constraint}
use Rattle.tv_core.specs.Circuits.{Circuit}
use Rattle.tv_core.specs.declared.sink.SinkFault.{SinkFault}
use Rattle.tv_core.specs.declared.sink.SinkFault.TheVariants.{Failed, Memory}
use Rattle.tv_word.specs.Counts.{Rose}

-- what a sink means
pub record Meaning (S : Type 0) : Type 1 where
  -- the list of constraints that it stands for: a relation, since a sink that counts forgets the list
  pub stands : S → List Constraint → Type 0
  -- after a refusal: the list that it has tried, the refused constraint at its end
  pub tried : S → List Constraint → Type 0
  -- the number of the next wire, and how many constraints were put
  pub wires : S → ℕ
  pub constraints : S → ℕ
  -- whether a refusal broke it
  pub broken : S → Bool
  -- how many faults of writing and allocation failures it has met
  pub faults : S → ℕ
  pub wants : S → ℕ
  -- what every call keeps, from before it to after it, as the file that a sink writes to; with no call
  -- between all is kept, and what two calls keep is kept by both
  pub Keeps : S → S → Type 0
  pub keeps_same : (s : S) → Keeps s s
  pub keeps_then : (old mid new : S) → Keeps old mid → Keeps mid new → Keeps old new

-- the count of the fault's kind rose: `Failed` is of the first count, `Memory` of the second
abbrev pub IsCause : {S : Type 0} → SinkFault → (S → ℕ) → (S → ℕ) → S → S → Type 0
IsCause Failed faults wants old new = Rose (faults old) (faults new)
IsCause Memory faults wants old new = Rose (wants old) (wants new)

module _ {S : Type 0} (m : Meaning S) where
  -- after a call that succeeded: this many more wires and constraints, and the sink is not broken
  pub record Grows (old new : S) (made added : ℕ) : Type 0 where
    pub wires : m.wires new ≡ m.wires old + made
    pub constraints : m.constraints new ≡ m.constraints old + added
    pub whole : m.broken new ≡ false

  module _ {A : Type 0} where
    -- a call put a whole circuit: its result is the circuit's, the sink records the circuit's constraints after those
    -- before, and the next wire is the circuit's; no count fell
    pub record PutsAll (old new : S) (circuit : Circuit A) (answer : A) : Type 0 where
      pub answers : answer ≡ (circuit (m.wires old)).answer
      pub stands : (list : List Constraint) → m.stands old list → m.stands new (list ++ (circuit (m.wires old)).list)
      pub next : m.wires new ≡ (circuit (m.wires old)).next
      pub keeps : m.Keeps old new
      pub faults : m.faults old ≤ m.faults new
      pub wants : m.wants old ≤ m.wants new

    -- a call put a whole circuit, which has this many wires and constraints
    pub record EmitsAll (old new : S) (circuit : Circuit A) (made added : ℕ) (answer : A) : Type 0 where
      pub puts : PutsAll old new circuit answer
      pub grows : Grows old new made added

    -- a call was refused at one of a circuit's constraints: the sink has tried the circuit's
    -- constraints up to that one after whatever it stood for, it is broken, and the count of the
    -- cause rose; no count fell
    pub record PutsSome (old new : S) (circuit : Circuit A) (fault : SinkFault) : Type 0 where
      pub front : List Constraint
      pub refused : Constraint
      pub back : List Constraint
      pub at : (circuit (m.wires old)).list ≡ front ++ refused ∷ back
      pub tried : (list : List Constraint) → m.stands old list → m.tried new (list ++ (front ++ refused ∷ []))
      pub broken : m.broken new ≡ true
      pub keeps : m.Keeps old new
      pub cause : IsCause fault m.faults m.wants old new
      pub faults : m.faults old ≤ m.faults new
      pub wants : m.wants old ≤ m.wants new

    -- what a call that puts a circuit did
    abbrev pub PutsIn : S → S → Circuit A → Result A SinkFault → Type 0
    PutsIn old new circuit result = MatchResult result (PutsAll old new circuit) (PutsSome old new circuit)

    -- the same of a circuit that has this many wires and constraints
    abbrev pub Emits : S → S → Circuit A → ℕ → ℕ → Result A SinkFault → Type 0
    Emits old new circuit made added result = MatchResult result (EmitsAll old new circuit made added) (PutsSome old new circuit)

  -- before a call: there is room for this many more wires and constraints, wire 0 is there, and the sink is not broken
  pub record Room (sink : S) (made added : ℕ) : Type 0 where
    pub whole : m.broken sink ≡ false
    pub constant : 0 < m.wires sink
    pub wires : m.wires sink + made < 2 ^ 32
    pub constraints : m.constraints sink + added < 2 ^ 32

  -- the sink met no fault and no allocation failure
  pub record Quiet (old new : S) : Type 0 where
    pub faults : m.faults new ≡ m.faults old
    pub wants : m.wants new ≡ m.wants old
