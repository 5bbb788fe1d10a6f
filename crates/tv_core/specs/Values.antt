-- What a taker of values means, and what a call that passes it values does.
use Rattle.std.specs.Prelude.{◌≡◌, ℕ, ◌≤◌, Bool, true, List, [], ◌∷◌, ◌++◌, Result, MatchResult}
use Rattle.tv_core.specs.Sinks.{IsCause}
use Rattle.tv_core.specs.declared.sink.SinkFault.{SinkFault}

-- what a taker of values means
pub record ValuesMeaning (V : Type 0) : Type 1 where
  -- the list of numbers that it stands for
  pub stands : V → List ℕ → Type 0
  -- after a refusal: the list that it has tried, the refused number at its end
  pub tried : V → List ℕ → Type 0
  -- whether a refusal broke it
  pub broken : V → Bool
  -- how many faults of writing and allocation failures it has met
  pub faults : V → ℕ
  pub wants : V → ℕ
  -- what every call keeps, from before it to after it, as the file that a taker writes to; with no call
  -- between all is kept, and what two calls keep is kept by both
  pub Keeps : V → V → Type 0
  pub keeps_same : (v : V) → Keeps v v
  pub keeps_then : (old mid new : V) → Keeps old mid → Keeps mid new → Keeps old new

module _ {V : Type 0} (m : ValuesMeaning V) where
  -- a call passed a whole list, after all that was passed before; no count fell
  pub record GivesAll (old new : V) (values : List ℕ) : Type 0 where
    pub stands : (list : List ℕ) → m.stands old list → m.stands new (list ++ values)
    pub keeps : m.Keeps old new
    pub faults : m.faults old ≤ m.faults new
    pub wants : m.wants old ≤ m.wants new

  -- a call was refused at one of a list's numbers: what was tried is the list up to that one, after all that was passed
  -- before; the taker is broken, and the count of the cause rose; no count fell
  pub record GivesSome (old new : V) (values : List ℕ) (fault : SinkFault) : Type 0 where
    pub front : List ℕ
    pub refused : ℕ
    pub back : List ℕ
    pub at : values ≡ front ++ refused ∷ back
    pub tried : (list : List ℕ) → m.stands old list → m.tried new (list ++ (front ++ refused ∷ []))
    pub broken : m.broken new ≡ true
    pub keeps : m.Keeps old new
    pub cause : IsCause fault m.faults m.wants old new
    pub faults : m.faults old ≤ m.faults new
    pub wants : m.wants old ≤ m.wants new

  -- what a call that passes a list did
  abbrev pub GivesIn : V → V → List ℕ → Result (Unit {0}) SinkFault → Type 0
  GivesIn old new values result = MatchResult result (λ _. GivesAll old new values) (GivesSome old new values)
