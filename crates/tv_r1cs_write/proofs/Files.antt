-- Files as a whole, from before they were created.
use Rattle.tv_core.proofs.Common.{◌≡◌, inl, inr, ℕ, List, ◌++◌, length, append_assoc, ap, refl, sym, ◌∙◌, arith, Constraint}
use Rattle.std.proofs.lemmas.Grind.{flat_map-append}
use Rattle.tv_container.specs.Bytes.{front_bytes, section_bytes, section_head}
use Rattle.tv_container.proofs.Streamed.{written_whole}
use Rattle.tv_container.proofs.Written.{but_front, front_front}
use Rattle.tv_r1cs_write.specs.Bytes.{constraint_bytes, counts_bytes, head_bytes, label_bytes, rows_bytes, rows_size}
use Rattle.tv_r1cs_write.specs.Laws.{FilesAreFronts, FilesAreOfSystems, FilesAreWhole}
use Rattle.tv_r1cs_write.specs.Streams.{SystemProgress, begun_bytes, finished_bytes}
use Rattle.tv_r1cs_write.proofs.Sizes.{length-rows_bytes}

-- each section is as long as its header says
pub files_of_systems : FilesAreOfSystems
files_of_systems counts count list labels are =
    let front = front_bytes 0x73633172 1 3 in
    let one = section_bytes 1 (counts_bytes counts count) in
    let rest = rows_bytes list ++ section_bytes 3 (label_bytes labels) in
    let size : rows_size counts ≡ length (rows_bytes list) = omega (arith, are.constraints, are.terms, length-rows_bytes list) in
    append_assoc front (one ++ section_head 2 (rows_size counts)) rest
    ∙ ap (λ l. front ++ l) (append_assoc one (section_head 2 (rows_size counts)) rest)
    ∙ ap (λ n. front ++ (one ++ (section_head 2 n ++ rest))) size
    ∙ ap (λ l. front ++ (one ++ l)) (sym (append_assoc (section_head 2 (length (rows_bytes list))) (rows_bytes list) (section_bytes 3 (label_bytes labels))))
    ∙ rw (are.constraints) refl

-- the bytes before the labels are the first of each longer list's file
fronts : (progress : SystemProgress) (list more : List Constraint) (labels : List ℕ) →
    finished_bytes progress (list ++ more) labels ≡ begun_bytes progress list ++ (rows_bytes more ++ section_bytes 3 (label_bytes labels))
fronts progress list more labels =
    ap (λ rows. head_bytes progress.counts progress.labels ++ (rows ++ section_bytes 3 (label_bytes labels))) (flat_map-append constraint_bytes list more)
    ∙ ap (λ l. head_bytes progress.counts progress.labels ++ l) (append_assoc (rows_bytes list) (rows_bytes more) (section_bytes 3 (label_bytes labels)))
    ∙ sym (append_assoc (head_bytes progress.counts progress.labels) (rows_bytes list) (rows_bytes more ++ section_bytes 3 (label_bytes labels)))

pub files_are_fronts : FilesAreFronts
files_are_fronts sink list more labels (inl stands) =
    but_front sink.outside sink.name sink.progress.held (begun_bytes sink.progress list) _ _ stands.written (fronts sink.progress list more labels)
files_are_fronts sink list more labels (inr tried) =
    front_front sink.outside sink.name (begun_bytes sink.progress list) _ _ tried.written (fronts sink.progress list more labels)

-- a name that was created has no bytes, and what it has later is what was appended
pub files_are_whole : FilesAreWhole
files_are_whole old begun new name bytes creates appends has =
    let is = written_whole old begun new name creates appends bytes has in
    record { whole = is.0; only = is.1 }
