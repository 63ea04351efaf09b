-- The law of grants: a held permit changes hands only by a give-back of its holder.
use Rattle.std.proofs.Common.{◌≡◌, ◌≢◌, ℕ, ◌-◌, ◌≤◌, Bool, true, false, cond, ◌⊎◌, List, [], ◌∷◌, ◌++◌, get_or, set, Some, None, Option, Ok, Err, sym, refl, ap, ◌∙◌, subst, inl, inr, ⊎_elim, arith}
use Rattle.std.specs.Option.{option_eq}
use Rattle.std.proofs.lemmas.List.{get_or-set_same, get_or-set_other}
use Rattle.std.proofs.lemmas.Bool.{eqb-true, cases_eq}
use Rattle.protocol.specs.declared.kind.Applied.TheVariants.{Carried}
use Rattle.protocol.specs.declared.kind.Denial.TheVariants.{NotTheHolder}
use Rattle.protocol.specs.Histories.{Done, History, nothing, one_more, Among, first, further}
use Rattle.protocol.specs.Ranges.{within?}
use Rattle.protocol.specs.Refusals.{if_there}
use Rattle.protocol.proofs.Histories.{newest, parts}
use Rattle.protocol.proofs.Made.{made_of, was_there}
use Rattle.kinds.specs.declared.pool.Flat.{Flat}
use Rattle.kinds.specs.declared.pool.Permit.{Permit}
use Rattle.kinds.specs.declared.pool.Pool.{Pool}
use Rattle.kinds.specs.declared.pool.PoolCommand.{PoolCommand}
use Rattle.kinds.specs.declared.pool.PoolCommand.TheVariants.{Take, GiveBack}
use Rattle.kinds.specs.Pools.{permit_numbered, flat_numbered, granting, granted, given_back, taking, giving_back, one_flat?, first_free, pool_applies, count_of, flat_of, holder_for, holder_of, holding, NearestFree}
use Rattle.kinds.specs.Grants.{Grants, GivesBack, GivenBackBetween}
use Rattle.kinds.proofs.Permits.{same_flat, says_it}
use Rattle.kinds.proofs.Searches.{nearest}

-- a command changed who holds one permit
record Changed (pool after : Pool) (permit : ℕ) (was is : Option Flat) : Type 0 where
  from : 1 ≤ permit
  to : permit ≤ 32
  before : holding pool permit ≡ was
  now : after.holders ≡ set pool.holders (permit - 1) (holder_for is)

abbrev Took : Pool → Pool → ℕ → ℕ → Type 0
Took pool after flat permit = (f : Flat) × ((flat ≡ f.number) × Changed pool after permit None (Some f))

abbrev Gave : Pool → Pool → ℕ → ℕ → Type 0
Gave pool after flat permit = (f : Flat) × ((flat ≡ f.number) × Changed pool after permit (Some f) None)

flat_is : (n : ℕ) (f : Flat) → flat_numbered n ≡ Ok f → n ≡ f.number
unfolding flat_numbered
flat_is n f e = ap (λ (x : Flat). x.number) (made_of _ f (within? 1 200 n) e).1

permit_is : (n : ℕ) (p : Permit) → permit_numbered n ≡ Ok p → n ≡ p.number
unfolding permit_numbered
permit_is n p e = ap (λ (x : Permit). x.number) (made_of _ p (within? 1 32 n) e).1

took_if : (pool after : Pool) (f : Flat) (a : ℕ) (o : Option Permit) → NearestFree pool o → granting pool f o ≡ Ok (Carried after a) → Changed pool after a None (Some f)
took_if pool after f a (Some p) near e =
    let s : granted pool p f ≡ after = cc in
    let n : p.number ≡ a = cc in
    record {
      from = omega (arith, p.from);
      to = omega (arith, p.within);
      before = ap (holding pool) (sym n) ∙ near.1.free;
      now = ap (λ (x : Pool). x.holders) (sym s) ∙ ap (λ k. set pool.holders (k - 1) (holder_for (Some f))) n;
    }
took_if pool after f a None near e = absurd (cc)

-- a take that is carried: the permit was free, and is the flat's
took : (pool after : Pool) (flat a : ℕ) → pool_applies pool (Take flat) ≡ Ok (Carried after a) → Took pool after flat a
took pool after flat a e =
    let f = was_there (flat_numbered flat) (λ f. taking pool f) (Carried after a) e in
    (f.0, (flat_is flat f.0 f.1.0, took_if pool after f.0 a (first_free pool) (nearest pool) f.1.1))

is_his : (h : Option Flat) (f : Flat) → option_eq one_flat? h (Some f) ≡ true → h ≡ Some f
is_his (Some g) f t = ap Some (same_flat g f (eqb-true _ _ t))
is_his None f t = absurd (cc)

gave_if : (pool after : Pool) (p : Permit) (f : Flat) (a : ℕ) (b : Bool) → option_eq one_flat? (holder_of pool p) (Some f) ≡ b → cond b (Ok (Carried (given_back pool p) (count_of (given_back pool p)))) (Err NotTheHolder) ≡ Ok (Carried after a) → Changed pool after p.number (Some f) None
gave_if pool after p f a true t e =
    let s : given_back pool p ≡ after = cc in
    record { from = p.from; to = p.within; before = is_his _ f t; now = ap (λ (x : Pool). x.holders) (sym s) }
gave_if pool after p f a false t e = absurd (cc)

-- a give-back that is carried: the permit was the flat's, and is nobody's
gave : (pool after : Pool) (flat permit a : ℕ) → pool_applies pool (GiveBack permit flat) ≡ Ok (Carried after a) → Gave pool after flat permit
gave pool after flat permit a e =
    let p = was_there (permit_numbered permit) (λ p. if_there (flat_numbered flat) (λ f. giving_back pool p f)) (Carried after a) e in
    let f = was_there (flat_numbered flat) (λ f. giving_back pool p.0 f) (Carried after a) p.1.1 in
    subst (Gave pool after flat) (sym (permit_is permit p.0 p.1.0)) (f.0, (flat_is flat f.0 f.1.0, gave_if pool after p.0 f.0 a _ refl f.1.1))

module _ (pool after : Pool) (changed : ℕ) (was is : Option Flat) (c : Changed pool after changed was is) where
  -- the changed permit has its new holder, and any other keeps its own
  changes : holding after changed ≡ is
  changes = let w = pool.whole in ap (λ l. flat_of (get_or l (changed - 1) (holder_for None))) c.now ∙ ap flat_of (get_or-set_same pool.holders (changed - 1) (holder_for is) (holder_for None) (omega arith)) ∙ says_it is

  others_stay : (permit : ℕ) → 1 ≤ permit → permit ≢ changed → holding after permit ≡ holding pool permit
  others_stay permit from apart = ap (λ l. flat_of (get_or l (permit - 1) (holder_for None))) c.now ∙ ap flat_of (get_or-set_other pool.holders (changed - 1) (permit - 1) (holder_for is) (holder_for None) (λ z. apart (omega arith)))

module _ (holder : Flat) (flat permit : ℕ) (named : flat ≡ holder.number) (from : 1 ≤ permit) where
  step : (pool after : Pool) (c : PoolCommand) (a : ℕ) → pool_applies pool c ≡ Ok (Carried after a) → holding pool permit ≡ Some holder → (c ≡ GiveBack permit flat) ⊎ (holding after permit ≡ Some holder)
  step pool after (Take other) a e held =
      let t = took pool after other a e in
      inr (others_stay pool after a None (Some t.0) t.1.1 permit from (λ z. let free = ap (holding pool) z ∙ t.1.1.before in (cc)) ∙ held)
  step pool after (GiveBack given other) a e held =
      let g = gave pool after other given a e in
      ⊎_elim (λ same. inl (let his = ap (holding pool) same ∙ g.1.1.before in let o = g.1.0 in cc))
      (λ apart. inr (others_stay pool after given (Some g.0) None g.1.1 permit from apart ∙ held))
      (cases_eq permit given)

  -- a permit stays with its flat until that flat gives it back
  stays : (pool after : Pool) (ds : List (Done PoolCommand)) → History pool_applies pool ds after → holding pool permit ≡ Some holder → Among (GivesBack flat permit) ds ⊎ (holding after permit ≡ Some holder)
  stays pool _ [] nothing held = inr held
  stays pool after (d ∷ ds) (one_more {v = v} _ h e) held =
      ⊎_elim (λ b. inl (further b))
      (λ still. ⊎_elim (λ b. inl (first b)) inr (step v after d.command d.answer e still))
      (stays pool v ds h held)

-- a permit that one flat took, and a flat takes again, was given back by the first in between
between_takes : (p q r s : Pool) (flat other permit : ℕ) (between : List (Done PoolCommand)) → Took p q flat permit → History pool_applies q between r → Took r s other permit → Among (GivesBack flat permit) between
between_takes p q r s flat other permit between one h again =
    ⊎_elim (λ x. x) (λ still. let free = again.1.1.before in absurd (cc))
    (stays one.0 flat permit one.1.0 one.1.1.from q r between h (changes p q permit None (Some one.0) one.1.1))

took_of : (pool after : Pool) (flat permit : ℕ) (d : Done PoolCommand) → Grants flat permit d → pool_applies pool d.command ≡ Ok (Carried after d.answer) → Took pool after flat permit
took_of pool after flat permit d g e =
    subst (Took pool after flat) g.answers (took pool after flat d.answer (ap (pool_applies pool) (sym g.takes) ∙ e))

pub given_back_between : GivenBackBetween
given_back_between from to newer between older second one permit flat other h g k =
    let a = parts pool_applies from newer (second ∷ (between ++ (one ∷ older))) to h in
    let b = newest pool_applies from second (between ++ (one ∷ older)) a.0 a.1.0 in
    let c = parts pool_applies from between (one ∷ older) b.0 b.1.0 in
    let d = newest pool_applies from one older c.0 c.1.0 in
    between_takes d.0 c.0 b.0 a.0 flat other permit between (took_of d.0 c.0 flat permit one g d.1.1) c.1.1 (took_of b.0 a.0 other permit second k b.1.1)
