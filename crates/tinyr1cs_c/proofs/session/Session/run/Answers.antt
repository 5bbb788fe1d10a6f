use Rattle.std.proofs.Common.{List, length, map, drop, String, string_bytes, subst, ap}
use Rattle.std.specs.Global.{Global}
use Rattle.tv_files.specs.MemFiles.{outside_of, said_of}
use Rattle.tv_top.specs.Commands.{Commands}
use Rattle.tinyr1cs_c.proofs.session.Session.run.Goals as goal

pub returns : goal.returns
returns c =
    let old = c.args.self.now.files in
    let new = c.command-status.new.files in
    record {
      command = subst
          (λ (ws : List (String Global)).
          Commands (map string_bytes ws) (length ws) (record { before = outside_of old; after = outside_of new; status = c.command-status.result }))
          c.deref.ensures.value c.command-status.ensures;
      words = ap (map string_bytes) c.clear.ensures.items;
      line = ap (λ said. drop (length said) (said_of new)) c.said_bytes.ensures;
    }
