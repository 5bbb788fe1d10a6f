-- Constraints whose terms stand in one list, one after another.
use Rattle.std.specs.Prelude.{◌+◌, ◌≤◌, slice_range, length}
use Rattle.tv_core.specs.Constraints.{Constraint, Combination}
use Rattle.tv_core.specs.declared.rows.TermRow.{TermRow}

-- the constraint of a row: its three combinations follow each other from the row's start
abbrev pub constraint_at : Combination → TermRow → Constraint
constraint_at terms row = record {
  a = slice_range terms row.start (row.start + row.a_end);
  b = slice_range terms (row.start + row.a_end) (row.start + row.b_end);
  c = slice_range terms (row.start + row.b_end) (row.start + row.c_end);
}

-- a row lies within the terms, and each of its combinations has at most 128
pub record Within (terms : Combination) (row : TermRow) : Type 0 where
  pub a_length : row.a_end ≤ 128
  pub b_from : row.a_end ≤ row.b_end
  pub b_length : row.b_end ≤ row.a_end + 128
  pub c_from : row.b_end ≤ row.c_end
  pub c_length : row.c_end ≤ row.b_end + 128
  pub within : row.start + row.c_end ≤ length terms

-- the row of combinations that are appended to the terms
abbrev pub row_after : Combination → Combination → Combination → Combination → TermRow
row_after terms a b c = record {
  start = length terms;
  a_end = length a;
  b_end = length a + length b;
  c_end = length a + length b + length c;
}
