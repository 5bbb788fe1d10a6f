-- Items of lines, one after another.
use Rattle.tv_core.proofs.Common.{◌≡◌, List, [], ◌∷◌, ◌++◌, map, sym, ap, ◌∙◌, append_assoc, Line}
use Rattle.std.proofs.lemmas.List.{map-append}
use Rattle.tv_core.specs.declared.lines.PairNum.{PairNum}
use Rattle.tv_lines.specs.PackedLines.{packed_item}

-- one line more
pub item_more : (front : List PairNum) (lines : List Line) (line : Line)
    → (front ++ map packed_item lines) ++ packed_item line ∷ [] ≡ front ++ map packed_item (lines ++ line ∷ [])
item_more front lines line = append_assoc front (map packed_item lines) (packed_item line ∷ [])
    ∙ ap (λ items. front ++ items) (sym (map-append packed_item lines (line ∷ [])))
