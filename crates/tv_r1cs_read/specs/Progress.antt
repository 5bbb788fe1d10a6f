-- How far reading of a system has come, and what is ahead.
use Rattle.std.specs.Prelude.{◌≡◌, ℕ, ◌+◌, ◌-◌, ◌*◌, ◌/◌, ◌^◌, ◌<◌, ◌≤◌, List, Option, None, Result}
use Rattle.tv_core.specs.Constraints.{Constraint}
use Rattle.tv_core.specs.declared.lines.Counts.{Counts}
use Rattle.tv_r1cs_read.specs.declared.header.Header.{Header}
use Rattle.tv_container.specs.declared.why.ReadRefusal.{ReadRefusal}
use Rattle.tv_container.specs.Places.{Fault, places}
use Rattle.tv_container.specs.Reading.{Piece, IsPiece}
use Rattle.tv_r1cs_read.specs.R1cs.{HasRoom, constraints_from}

-- what is known of the file: its header, and the piece of it that was read last; the place of the next constraint, how
-- many are left, and how many terms those had that were returned; and whether reading stopped
pub record Reached : Type 0 where
  pub header : Header
  pub piece : Piece
  pub at : ℕ
  pub left : ℕ
  pub terms : ℕ
  pub stopped : Option ReadRefusal

-- how many terms the constraints had that were returned: twelve bytes are of each term, and twelve of each constraint's
-- counts
abbrev pub terms_given : (header : Header) (at left : ℕ) → ℕ
terms_given header at left = (at - header.rows.at) / 12 - (header.constraints - left)

-- the next constraint's place is in section 2, whose places are below 2^64, and after the constraints that were returned
pub record IsWithin (header : Header) (at left : ℕ) : Type 0 where
  pub within : at ≤ header.rows.at + header.rows.size
  pub ends : header.rows.at + header.rows.size < 2 ^ 64
  pub ahead : left ≤ header.constraints
  pub counted : header.rows.at + 12 * (header.constraints - left) ≤ at

-- no constraint was read, and there is a wire for the constant 1 and each public number
pub record IsBegun (reached : Reached) : Type 0 where
  pub room : HasRoom reached.header
  pub at : reached.at ≡ reached.header.rows.at
  pub left : reached.left ≡ reached.header.constraints
  pub terms : reached.terms ≡ 0
  pub stopped : reached.stopped ≡ None

-- reading is on in this file
pub record Follows (reached : Reached) (file : List ℕ) : Type 0 where
  pub piece : IsPiece reached.piece file
  pub within : reached.header.rows.at + reached.header.rows.size ≤ places file
  pub on : reached.stopped ≡ None

-- the constraints ahead, or the first fault in them
abbrev pub ahead : Reached → List ℕ → Result (List Constraint) Fault
ahead reached file = constraints_from file reached.header.wires reached.header.rows reached.left reached.at

-- what the system counts, and the terms of the rows that were returned
abbrev pub counts_of : Reached → Counts
counts_of reached = record {
  wires = reached.header.wires;
  outputs = reached.header.outputs;
  inputs = reached.header.inputs;
  constraints = reached.header.constraints;
  terms = reached.terms;
}
