-- The parts of messages have their texts, and no two of one sort have the same.
use Rattle.std.specs.Prelude.{◌≡◌, ◌≤◌, Bool, true, false, List, [], ◌∷◌, ◌++◌, refl}
use Rattle.std.proofs.Common.{inl, inr, arith}
use Rattle.protocol.specs.declared.message.Access.{Access}
use Rattle.protocol.specs.declared.message.Access.TheVariants.{Read, Write}
use Rattle.protocol.specs.declared.message.Head.{Head}
use Rattle.protocol.specs.declared.message.KeeperId.{KeeperId}
use Rattle.protocol.specs.declared.message.Number.{Number}
use Rattle.protocol.specs.declared.message.Promise.{Promise}
use Rattle.protocol.specs.declared.message.State.{State}
use Rattle.protocol.specs.declared.round.Round.{Round}
use Rattle.protocol.proofs.Same.{same_head, same_keeper, same_number, same_promise, same_round}
use Rattle.fields.specs.Forms.{Item, num, Form, Fit, ◌▷◌}
use Rattle.fields.specs.Readers.{access_letter, access_items}
use Rattle.fields.proofs.Joins.{fit_join}
use Rattle.texts.specs.Parts.{head_form, head_items, round_form, round_items, promise_form, promise_items, bit, keeper_form, keeper_items, number_form, number_items, access_form, state_form, state_items}

pub head_fits : (h : Head) → Fit head_form (head_items h)
head_fits h = (
  (omega arith, h.register_within, omega arith),
  ((h.hub_from, h.hub_within, omega arith), ((h.attempt_from, h.attempt_within, h.attempt_within), tt)),
)

pub head_apart : (h k : Head) → head_items h ≡ head_items k → h ≡ k
head_apart h k e = same_head h k (cc) (cc) (cc)

pub round_fits : (r : Round) → Fit round_form (round_items r)
round_fits r = (
  (omega arith, r.n_within, r.n_within),
  ((omega arith, r.hub_within, omega arith), ((omega arith, r.attempt_within, r.attempt_within), tt)),
)

pub round_apart : (r s : Round) → round_items r ≡ round_items s → r ≡ s
round_apart r s e = same_round r s (cc) (cc) (cc)

pub promise_fits : (p : Promise) → Fit promise_form (promise_items p)
promise_fits p = go p.raised p.from_one_where_raised
  where
    go : (b : Bool) → (b ≡ true → 1 ≤ p.n) → Fit promise_form (num (bit b) ∷ num p.n ∷ [])
    go true h = ((omega arith, omega arith, omega arith), ((h refl, p.within, p.within), tt))
    go false h = ((omega arith, omega arith, omega arith), ((omega arith, p.within, p.within), tt))

bit_same : (a b : Bool) → bit a ≡ bit b → a ≡ b
bit_same true true e = refl
bit_same true false e = absurd (omega (arith, e))
bit_same false true e = absurd (omega (arith, e))
bit_same false false e = refl

pub promise_apart : (p q : Promise) → promise_items p ≡ promise_items q → p ≡ q
promise_apart p q e =
    let raised : bit p.raised ≡ bit q.raised = cc in
    same_promise p q (bit_same p.raised q.raised raised) (cc)

pub keeper_fits : (k : KeeperId) → Fit keeper_form (keeper_items k)
keeper_fits k = ((omega arith, k.within, omega arith), tt)

pub keeper_apart : (j k : KeeperId) → keeper_items j ≡ keeper_items k → j ≡ k
keeper_apart j k e = same_keeper j k (cc)

pub number_fits : (m : Number) → Fit number_form (number_items m)
number_fits m = ((m.from, m.within, m.within), tt)

pub number_apart : (m n : Number) → number_items m ≡ number_items n → m ≡ n
number_apart m n e = same_number m n (cc)

pub access_fits : (a : Access) → Fit access_form (access_items a)
access_fits Read = (inl refl, tt)
access_fits Write = (inr refl, tt)

access_same : (a b : Access) → access_letter a ≡ access_letter b → a ≡ b
access_same Read Read e = refl
access_same Read Write e = absurd (omega (arith, e))
access_same Write Read e = absurd (omega (arith, e))
access_same Write Write e = refl

pub access_apart : (a b : Access) → access_items a ≡ access_items b → a ≡ b
access_apart a b e = access_same a b (cc)

pub state_fits : {V : Type 0} (value : Form) (items : V → List Item) → ((v : V) → Fit value (items v)) → (s : State V) → Fit (state_form value) (state_items items s)
state_fits value items fits s =
    fit_join keeper_form (λ k. promise_form ▷ (λ p. round_form ▷ (λ r. value))) (keeper_items s.keeper) (promise_items s.promise ++ (round_items s.voted ++ items s.value)) (keeper_fits s.keeper)
    (fit_join promise_form (λ p. round_form ▷ (λ r. value)) (promise_items s.promise) (round_items s.voted ++ items s.value) (promise_fits s.promise)
    (fit_join round_form (λ r. value) (round_items s.voted) (items s.value) (round_fits s.voted) (fits s.value)))

pub state_apart : {V : Type 0} (items : V → List Item) → ((v w : V) → items v ≡ items w → v ≡ w) → (s t : State V) → state_items items s ≡ state_items items t → s ≡ t
state_apart items apart s t e =
    let k = keeper_apart s.keeper t.keeper (cc) in
    let p = promise_apart s.promise t.promise (cc) in
    let r = round_apart s.voted t.voted (cc) in
    let is : items s.value ≡ items t.value = cc in
    let v = apart s.value t.value is in
    λ i. record { keeper = k i; promise = p i; voted = r i; value = v i }
