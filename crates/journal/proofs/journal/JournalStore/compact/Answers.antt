use Rattle.std.proofs.Common.{◌≡◌, ◌<◌, vec_items}
use Rattle.std.proofs.lemmas.List.Elements.{All-same}
use Rattle.journal.specs.Journals.{kept}
use Rattle.journal.proofs.Cleans.{kept_all}
use Rattle.journal.proofs.journal.JournalStore.compact.Goals as goal

pub invariant_of-self-clause-known_registers : goal.invariant_of-self-clause-known_registers
invariant_of-self-clause-known_registers g c =
    let s = c.args.self.now in
    let es = vec_items s.entries in
    let e : vec_items c.refill.new.entries ≡ kept es = cc in
    All-same (λ e. e.register < s.registers) _ _ e (kept_all (λ e. e.register < s.registers) es s.known_registers)
