use Rattle.std.proofs.Common.{◌≡◌, arith, unwrap_or}
use Rattle.std.proofs.lemmas.Map.Text.{btree_map_updates_str}
use Rattle.std.proofs.lemmas.Slice.Eq.{bytes_eq-Decides}
use Rattle.std.specs.BTreeMap.Entry.{map_with_value}
use Rattle.tv_asm.specs.Views.{place_in}
use Rattle.tv_asm.proofs.labels.Labels.define.Goals as goal

pub returns : goal.returns
returns c = λ name.
    let label = c.args.label.now in
    let place = c.or_insert.result.now in
    let put = btree_map_updates_str label c.args.self.now.places (map_with_value c.in_ok-self.field-0 place) _ (c.in_ok-self.ensures.update.0 place) name in
    let had : place ≡ unwrap_or (place_in c.args.self.now label) c.args.place = grind arith in
    grind (arith, put, bytes_eq-Decides label name)
