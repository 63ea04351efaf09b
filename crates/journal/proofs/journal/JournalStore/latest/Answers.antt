use Rattle.std.proofs.Common.{vec_items, ◌∙◌, rules}
use Rattle.journal.proofs.Puts.{latest_found}
use Rattle.journal.proofs.journal.JournalStore.latest.Goals as goal

pub returns : goal.returns
returns g c =
    let s = c.args.self.now in
    (search rules) ∙ latest_found s.fresh (vec_items s.entries) c.args.register c.newest.result c.newest.ensures
