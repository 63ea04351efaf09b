use Rattle.std.proofs.Common.{◌≡◌, ◌-◌, ◌<◌, ◌≤◌, ◌++◌, ◌∷◌, [], false, drop, length}
use Rattle.std.proofs.lemmas.List.{length-append}
use Rattle.std.proofs.lemmas.List.Elements.{All-drop}
use Rattle.std.proofs.lemmas.Iterator.Consumers.{YieldsList-turn}
use Rattle.std.proofs.lemmas.Iterator.Adapters.{YieldsList-from_rev_slice}
use Rattle.journal.proofs.Cleans.{one_back, gathered_old, gathered_new, gathered_room}
use Rattle.journal.proofs.journal.cleaning.gather.Given as given
use Rattle.journal.proofs.journal.cleaning.gather.Goals as goal
use Rattle.journal.proofs.journal.cleaning.gather.Goals.{After-holds}

module _ (g : given.Over) (c : After-holds g) where
  -- the entry that is met stands before those that were met
  met : drop (length c.args.entries.now - length (c.loop-entry.yielded ++ c.in-Some.entry ∷ [])) c.args.entries.now ≡ c.in-Some.entry.now ∷ drop (length c.args.entries.now - length c.loop-entry.yielded) c.args.entries.now
  met =
      let es = c.args.entries.now in
      let road = YieldsList-from_rev_slice es cc in
      let t = YieldsList-turn road c.loop-entry.yielded c.loop-entry.entry-iterator c.loop-entry.yielded_by c.next.result c.next.new.self c.in-Some.entry c.in-Some.is c.next.ensures.steps in
      one_back es (length c.loop-entry.yielded) _ c.in-Some.entry.now (length-append c.loop-entry.yielded (c.in-Some.entry ∷ [])) t.0 t.1

  room : c.holds.result ≡ false → 1 ≤ c.loop-entry.from
  room h =
      let es = c.args.entries.now in
      let own = c.loop-entry.own in
      let l = c.loop-entry.auto.own in
      let low = All-drop (λ e. e.register < length own) (length es - length (c.loop-entry.yielded ++ c.in-Some.entry ∷ [])) es (rw l c.requires) in
      gathered_room c.loop-entry.invariant c.in-Some.entry.now (rw met at low) cc

pub overflow_sub-from : goal.overflow_sub-from
overflow_sub-from g c = room g (goal.at.overflow_sub-from g c).After-holds c.if-not-holds.true

pub loop-entry-preserved-then-not-holds : goal.loop-entry-preserved-then-not-holds
loop-entry-preserved-then-not-holds g c =
    let d = (goal.at.loop-entry-preserved-then-not-holds g c).After-holds in
    let h = c.if-not-holds.true in
    rw (met g d) (gathered_new c.loop-entry.invariant c.in-Some.entry.now (room g d h) cc)

pub loop-entry-preserved : goal.loop-entry-preserved
loop-entry-preserved g c =
    let d = (goal.at.loop-entry-preserved g c).After-holds in
    rw (met g d) (gathered_old c.loop-entry.invariant c.in-Some.entry.now cc)
