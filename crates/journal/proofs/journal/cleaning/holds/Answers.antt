use Rattle.std.proofs.Common.{eqb, sym, ◌∙◌, rules, tests}
use Rattle.std.proofs.lemmas.Iterator.{YieldsList-from_slice}
use Rattle.std.proofs.lemmas.Iterator.Search.{any_from_yields_List}
use Rattle.journal.proofs.Puts.{puts_any}
use Rattle.journal.proofs.journal.cleaning.holds.Goals as goal

pub returns : goal.returns
returns g c =
    let es = c.args.entries.now in
    let q = c.args.register in
    any_from_yields_List (λ e. eqb e.register q) _ _ _ c.any.ensures.ran (YieldsList-from_slice es cc) (λ x b f k. search (rules, tests)) ∙ sym (puts_any es q)
