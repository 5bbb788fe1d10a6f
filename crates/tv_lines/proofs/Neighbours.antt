-- First line and sorted pairs along a list.
use Rattle.tv_core.proofs.Common.{◌≡◌, ℕ, ◌+◌, ◌<◌, get_or, ◌∙◌, ap, arith, length-each_below, each_below, Line}
use Rattle.std.proofs.Common.{zero-add}
use Rattle.std.proofs.lemmas.List.FromFn.{get_or-map-range_with_len}
use Rattle.tv_lines.proofs.FirstLaws.{first_line_sound}
use Rattle.tv_lines.proofs.SortedLaws.{sorted_pair_sound}
use Rattle.tv_lines.specs.Ordered.{Follows, Ordered}
use Rattle.tv_lines.specs.SortedPair.{NeighboursAreOrdered}

pub each_below-at : {A : Type 0} (n i : ℕ) (f : ℕ → A) (d : A) → i < n → get_or (each_below n f) i d ≡ f i
unfolding each_below
each_below-at n i f d h = get_or-map-range_with_len f 0 n i i d h (zero-add i)

-- by places and as a list
pub ordered_places : (n : ℕ) (line : ℕ → Line) → (0 < n → (line 0).old ≡ 0) → ((i : ℕ) → i + 1 < n → Follows (line i) (line (i + 1)))
    → Ordered (each_below n line)
ordered_places n line first follows =
    let long = length-each_below n line in
    record {
      first = λ d h. ap (λ (l : Line). l.old) (each_below-at n 0 line d (omega arith)) ∙ first (omega arith);
      follows = λ i d h. rw (each_below-at n i line d (omega arith), each_below-at n (i + 1) line d (omega arith)) (follows i (omega arith));
    }

pub neighbours_ordered : NeighboursAreOrdered
neighbours_ordered z n bits line assigns s = ordered_places n line
    (λ h. first_line_sound z s.first_at (bits 0) (line 0) (s.widths 0 h) assigns (s.decomposes 0 h) (s.first h))
    (λ i h. sorted_pair_sound z (s.pair_at i) (bits i) (bits (i + 1)) (line i) (line (i + 1)) (s.widths i (omega arith)) (s.widths (i + 1) h) assigns
    (s.decomposes i (omega arith)) (s.decomposes (i + 1) h) (s.pairs i h))
