use Rattle.std.proofs.Common.{◌≡◌, Some, ap, sym, refl, inl, rules}
use Rattle.std.specs.BTreeMap.{get_by_text}
use Rattle.tv_files.specs.MemFiles.{is_due}
use Rattle.tv_files.proofs.Cases.{OnErr-map, OnOk-map}
use Rattle.tv_files.proofs.Kept.{Updates, names_in-more, names_in-refused, prefix_added, found_is_there}
use Rattle.tv_files.proofs.mem_files.MemFilesFiles.append.Goals as goal

pub returns-in-Some-clause-appends : goal.returns-in-Some-clause-appends
returns-in-Some-clause-appends c =
    let name = c.args.name.now in
    let bytes = c.args.bytes.now in
    let due = c.next_is_due-due.result in
    let old = c.args.self.now.names in
    let new = c.get_mut.follows.lender c.add.new.to in
    let had = c.in-Some.held.now in
    let has = c.add.new.to in
    let found : get_by_text old name ≡ Some had = sym c.in-Some.ensures.value in
    let changed : Updates name old new (Some has) = (c.get_mut.follows.holds has).3 (search rules) in
    let more = names_in-more name bytes old new had has changed found in
    let refused = names_in-refused name bytes due old new had has changed found in
    record {
      done = OnOk-map c.add.result (λ added. ap Some (more added)) c.add.ensures.ok;
      refused = OnErr-map c.add.result (λ h. prefix_added name bytes _ _ _ (refused h)) c.add.ensures.refused;
      said = refl;
      counts = search rules;
      later = search rules;
      failed = search rules;
      memory = search rules;
      missing = λ files known gone. absurd (found_is_there name old had files found known gone);
      there = λ _ _. inl refl;
    }

pub returns-in-Some-clause-refused : goal.returns-in-Some-clause-refused
returns-in-Some-clause-refused c =
    let name = c.args.name.now in
    let bytes = c.args.bytes.now in
    let due = is_due c.args.self.now in
    let old = c.args.self.now.names in
    let new = c.get_mut.follows.lender c.add.new.to in
    let had = c.in-Some.held.now in
    let has = c.add.new.to in
    let found : get_by_text old name ≡ Some had = sym c.in-Some.ensures.value in
    let changed : Updates name old new (Some has) = (c.get_mut.follows.holds has).3 (search rules) in
    let listed : c.next_is_due-due.result ≡ due = search rules in
    let refused = rw listed at c.add.ensures.refused in
    OnErr-map c.add.result (names_in-refused name bytes due old new had has changed found) refused
