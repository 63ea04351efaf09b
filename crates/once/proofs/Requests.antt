-- What a request that is carried leaves in the table.
use Rattle.std.proofs.Common.{◌≡◌, ℕ, ◌-◌, ◌^◌, ◌<◌, ◌≤◌, Ok, Err, Result, Ordering, Less, Equal, Greater, ap, subst, arith}
use Rattle.std.proofs.lemmas.List.{get_or-set_same, get_or-set_other}
use Rattle.std.specs.Cmp.{ranks}
use Rattle.std.specs.Ordering.{MatchOrdering}
use Rattle.protocol.specs.declared.kind.Applied.{Applied}
use Rattle.protocol.specs.declared.kind.Applied.TheVariants.{Carried, Already}
use Rattle.protocol.specs.declared.kind.Denial.{Denial}
use Rattle.protocol.specs.Ranges.{Within, both, within?, made}
use Rattle.once.specs.declared.layer.Once.{Once}
use Rattle.once.specs.declared.layer.Request.{Request}
use Rattle.once.specs.declared.layer.Session.{Session}
use Rattle.once.specs.declared.layer.Sessions.{Sessions}
use Rattle.once.specs.declared.layer.Writer.{Writer}
use Rattle.once.specs.Layers.{no_session, writer_from, writer_of, session_of, noted, writing, by_number, once_applies}

-- the request's own entry is new, and greater than the old one; the others stay
pub record Wrote (before after : Sessions) (hub number answer : ℕ) : Type 0 where
  pub from : 1 ≤ hub
  pub to : hub ≤ 15
  pub above : (session_of before hub).number < number
  pub within : number ≤ 2 ^ 40
  pub numbered : (session_of after hub).number ≡ number
  pub answered : (session_of after hub).answer ≡ answer
  pub others_stay : (h : ℕ) → 1 ≤ h → (h ≡ hub → ⊥) → session_of after h ≡ session_of before h

-- the table with one entry replaced
noted_wrote : (s : Sessions) (w : Writer) (answer : ℕ) → (session_of s w.hub).number < w.number → Wrote s (noted s w answer) w.hub w.number answer
noted_wrote s w answer above =
    let entry : Session = record { number = w.number; answer = answer; number_within = w.number_within } in
    let same = get_or-set_same s.table (w.hub - 1) entry no_session (omega arith) in
    record {
      from = w.hub_from;
      to = w.hub_within;
      above = above;
      within = w.number_within;
      numbered = ap (λ (x : Session). x.number) same;
      answered = ap (λ (x : Session). x.answer) same;
      others_stay = λ h l apart. get_or-set_other s.table (w.hub - 1) (h - 1) entry no_session (λ z. apart (omega arith));
    }

module _ {K C : Type 0} (applies : K → C → Result (Applied K) Denial) (v : Once K) where
  -- nothing is said of a request that is not carried
  abbrev WroteIfCarried : ℕ → ℕ → Result (Applied (Once K)) Denial → Type 0
  WroteIfCarried hub number (Ok (Carried after answer)) = Wrote v.sessions after.sessions hub number answer
  WroteIfCarried hub number (Ok (Already answer)) = Unit {0}
  WroteIfCarried hub number (Err denial) = Unit {0}

  -- by how its number stands to the hub's last
  numbered : (w : Writer) (came : Result (Applied K) Denial) (o : Ordering) → MatchOrdering o (w.number < (session_of v.sessions w.hub).number) (w.number ≡ (session_of v.sessions w.hub).number) ((session_of v.sessions w.hub).number < w.number) → WroteIfCarried w.hub w.number (by_number v w came o)
  numbered w came Less m = tt
  numbered w came Equal m = tt
  numbered w (Err denial) Greater m = tt
  numbered w (Ok (Carried below a)) Greater m = noted_wrote v.sessions w a m
  numbered w (Ok (Already a)) Greater m = noted_wrote v.sessions w a m

  -- and by whether the hub and the number are in range
  ranged : (r : Request C) (d : Dec (Within 1 15 r.hub × Within 1 (2 ^ 40) r.number)) → WroteIfCarried r.hub r.number (writing applies v r.command (made (writer_from r.hub r.number) d))
  ranged r (yes h) = numbered (writer_from r.hub r.number h) _ _ (ranks r.number (session_of v.sessions r.hub).number)
  ranged r (no h) = tt

  pub wrote : (after : Once K) (answer : ℕ) (r : Request C) → once_applies applies v r ≡ Ok (Carried after answer) → Wrote v.sessions after.sessions r.hub r.number answer
  unfolding writer_of
  wrote after answer r e = subst (WroteIfCarried r.hub r.number) e (ranged r (both (within? 1 15 r.hub) (within? 1 (2 ^ 40) r.number)))
