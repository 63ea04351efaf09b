-- Every write counts once: a hub's entry follows its requests through a history.
use Rattle.std.proofs.Common.{◌≡◌, ℕ, ◌-◌, ◌^◌, ◌≤◌, Bool, true, false, cond, eqb, List, [], ◌∷◌, ◌++◌, Some, None, Ok, Option, Result, Equal, sym, refl, ap, ◌∙◌, subst, ⊎_elim, arith}
use Rattle.std.proofs.lemmas.List.{get_or-replicate}
use Rattle.std.proofs.lemmas.Bool.{eqb-true, eqb-false, cases_eq}
use Rattle.std.specs.Cmp.{nat_cmp_is}
use Rattle.protocol.specs.declared.kind.Applied.{Applied}
use Rattle.protocol.specs.declared.kind.Applied.TheVariants.{Already}
use Rattle.protocol.specs.declared.kind.Denial.{Denial}
use Rattle.protocol.specs.Histories.{Done, History, nothing, one_more}
use Rattle.protocol.proofs.Histories.{newest, parts}
use Rattle.once.specs.declared.layer.Once.{Once}
use Rattle.once.specs.declared.layer.Request.{Request}
use Rattle.once.specs.declared.layer.Session.{Session}
use Rattle.once.specs.declared.layer.Writer.{Writer}
use Rattle.once.specs.Layers.{no_session, new_sessions, new_layer, session_of, writing, by_number, once_applies}
use Rattle.once.specs.Writes.{last_by, EntryOf, EntriesAreLastWrites, NumbersGrow, NoWriteTwice, RepeatsAreAnswered}
use Rattle.once.proofs.Same.{is_writer}
use Rattle.once.proofs.Requests.{Wrote, wrote}

-- a hub's entry is that of its request, which is in range
record Noted {C : Type 0} (s : Session) (hub : ℕ) (d : Done (Request C)) : Type 0 where
  from : 1 ≤ hub
  to : hub ≤ 15
  low : 1 ≤ d.command.number
  within : d.command.number ≤ 2 ^ 40
  numbered : s.number ≡ d.command.number
  answered : s.answer ≡ d.answer

-- what became of a hub's entry: it is that of the hub's last request, and with none it is the old one
abbrev Since : {C : Type 0} → Session → Session → ℕ → Option (Done (Request C)) → Type 0
Since old s hub (Some d) = Noted s hub d
Since old s hub None = 1 ≤ hub → s ≡ old

module _ {K C : Type 0} (applies : K → C → Result (Applied K) Denial) where
  -- numbers in the table never fall
  no_fall : (from v : Once K) (list : List (Done (Request C))) → History (once_applies applies) from list v → (hub : ℕ) → 1 ≤ hub → (session_of from.sessions hub).number ≤ (session_of v.sessions hub).number
  no_fall from _ [] nothing hub l = omega arith
  no_fall from w (d ∷ list) (one_more {v = v} _ h e) hub l =
      let ih = no_fall from v list h hub l in
      let new = wrote applies v w d.answer d.command e in
      ⊎_elim (λ same. omega (arith, ih, new.above, new.numbered, ap (λ k. (session_of v.sessions k).number) same, ap (λ k. (session_of w.sessions k).number) same))
      (λ apart. omega (arith, ih, ap (λ (s : Session). s.number) (new.others_stay hub l apart)))
      (cases_eq hub d.command.hub)

  since : (from v : Once K) (list : List (Done (Request C))) → History (once_applies applies) from list v → (hub : ℕ) → Since (session_of from.sessions hub) (session_of v.sessions hub) hub (last_by hub list)
  since from _ [] nothing hub = λ l. refl
  since from w (x ∷ list) (one_more {v = v} _ h e) hub = by (eqb x.command.hub hub) refl (last_by hub list) (since from v list h hub)
    where
      new : Wrote v.sessions w.sessions x.command.hub x.command.number x.answer
      new = wrote applies v w x.answer x.command e

      own : Noted (session_of w.sessions x.command.hub) x.command.hub x
      own = record { from = new.from; to = new.to; low = omega (arith, new.above); within = new.within; numbered = new.numbered; answered = new.answered }

      by : (b : Bool) → eqb x.command.hub hub ≡ b → (o : Option (Done (Request C))) → Since (session_of from.sessions hub) (session_of v.sessions hub) hub o → Since (session_of from.sessions hub) (session_of w.sessions hub) hub (cond b (Some x) o)
      by true t o ih = subst (λ k. Noted (session_of w.sessions k) k x) (eqb-true _ _ t) own
      by false t None ih = λ l. new.others_stay hub l (λ z. eqb-false _ _ t (sym z)) ∙ ih l
      by false t (Some d) ih = subst (λ s. Noted s hub d) (sym (new.others_stay hub ih.from (λ z. eqb-false _ _ t (sym z)))) ih

  pub numbers_grow : NumbersGrow applies
  numbers_grow from to newer between older second one h same =
      let a = parts (once_applies applies) from newer (second ∷ (between ++ (one ∷ older))) to h in
      let b = newest (once_applies applies) from second (between ++ (one ∷ older)) a.0 a.1.0 in
      let c = parts (once_applies applies) from between (one ∷ older) b.0 b.1.0 in
      let d = newest (once_applies applies) from one older c.0 c.1.0 in
      let early = wrote applies d.0 c.0 one.answer one.command d.1.1 in
      let late = wrote applies b.0 a.0 second.answer second.command b.1.1 in
      let kept = no_fall c.0 b.0 between c.1.1 one.command.hub early.from in
      omega (arith, early.numbered, kept, late.above, ap (λ k. (session_of b.0.sessions k).number) same)

  pub no_write_twice : NoWriteTwice applies
  no_write_twice from to newer between older second one h same twice = omega (arith, numbers_grow from to newer between older second one h same)

  answers_again : (v : Once K) (d : Done (Request C)) (again : Request C) → Noted (session_of v.sessions again.hub) again.hub d → again.number ≡ d.command.number → once_applies applies v again ≡ Ok (Already d.answer)
  answers_again v d again n e =
      let w : Writer = record { hub = again.hub; number = again.number; hub_from = n.from; hub_within = n.to; number_from = omega (arith, n.low); number_within = omega (arith, n.within) } in
      let is_last = nat_cmp_is again.number (session_of v.sessions again.hub).number Equal (omega (arith, n.numbered)) in
      sym (ap (writing applies v again.command) (is_writer w)) ∙ sym (ap (by_number v w (applies v.below again.command)) is_last) ∙ ap (λ a. Ok (Already a)) n.answered

  pub repeats_are_answered : RepeatsAreAnswered applies
  repeats_are_answered from to list h d again last same = answers_again to d again (subst (Since (session_of from.sessions again.hub) (session_of to.sessions again.hub) again.hub) last (since from to list h again.hub)) same

  pub entries_are_last_writes : (start : K) → EntriesAreLastWrites start applies
  unfolding new_sessions
  entries_are_last_writes start list v h hub from to = by (last_by hub list) (since (new_layer start) v list h hub)
    where
      by : (o : Option (Done (Request C))) → Since (session_of new_sessions hub) (session_of v.sessions hub) hub o → EntryOf o (session_of v.sessions hub)
      by (Some d) n = (n.numbered, n.answered)
      by None stays = stays from ∙ get_or-replicate 15 (hub - 1) no_session no_session (omega arith)
