-- Messages of one letter and the same fields are the same.
use Rattle.std.proofs.Common.{◌≡◌, ℕ, cond, eqb, List, sym, refl, ap, ◌∙◌, subst}
use Rattle.protocol.specs.declared.message.Access.{Access}
use Rattle.protocol.specs.declared.message.Body.{Body}
use Rattle.protocol.specs.declared.message.Body.TheVariants as body
use Rattle.protocol.specs.declared.message.KeeperId.{KeeperId}
use Rattle.protocol.specs.declared.message.Message.{Message}
use Rattle.protocol.specs.declared.message.Number.{Number}
use Rattle.protocol.specs.declared.message.State as state
use Rattle.fields.specs.Forms.{Item}
use Rattle.texts.specs.PartLaws.{head_apart, keeper_apart, number_apart, access_apart, state_apart}
use Rattle.lines.specs.declared.letter.MessageKind.{MessageKind}
use Rattle.lines.specs.declared.letter.MessageKind.TheVariants.{Prepare, PrepareAt, Vote, State, Voted}
use Rattle.lines.specs.Letters.{letter, kind_of}
use Rattle.lines.specs.Messages.{body_items, message_items}

-- the message of a letter
abbrev kind_at : ℕ → MessageKind
kind_at b = cond (eqb b 80) Prepare (cond (eqb b 70) PrepareAt (cond (eqb b 86) Vote (cond (eqb b 65) State Voted)))

kind_letter : (k : MessageKind) → kind_at (letter k) ≡ k
kind_letter Prepare = refl
kind_letter PrepareAt = refl
kind_letter Vote = refl
kind_letter State = refl
kind_letter Voted = refl

pub letter_same : (j k : MessageKind) → letter j ≡ letter k → j ≡ k
letter_same j k e = sym (kind_letter j) ∙ ap kind_at e ∙ kind_letter k

-- a body is its kind, and what a body of that kind holds
abbrev Held : Type 0 → MessageKind → Type 0
Held V Prepare = Access
Held V PrepareAt = Number
Held V Vote = Number × V
Held V State = state.State V
Held V Voted = KeeperId × Number

abbrev made : {V : Type 0} (k : MessageKind) → Held V k → Body V
made Prepare a = body.Prepare a
made PrepareAt n = body.PrepareAt n
made Vote x = body.Vote x.0 x.1
made State s = body.State s
made Voted x = body.Voted x.0 x.1

taken_apart : {V : Type 0} (b : Body V) → (x : Held V (kind_of b)) × (b ≡ made (kind_of b) x)
taken_apart (body.Prepare a) = (a, refl)
taken_apart (body.PrepareAt n) = (n, refl)
taken_apart (body.Vote n v) = ((n, v), refl)
taken_apart (body.State s) = (s, refl)
taken_apart (body.Voted k n) = ((k, n), refl)

module _ {V : Type 0} (items : V → List Item) (apart : (v w : V) → items v ≡ items w → v ≡ w) where
  held_same : (k : MessageKind) (x y : Held V k) → body_items items (made k x) ≡ body_items items (made k y) → made k x ≡ made k y
  held_same Prepare a b e = ap body.Prepare (access_apart a b e)
  held_same PrepareAt m n e = ap body.PrepareAt (number_apart m n e)
  held_same Vote x y e =
      let n = number_apart x.0 y.0 (cc) in
      let t : items x.1 ≡ items y.1 = cc in
      let v = apart x.1 y.1 t in
      cc
  held_same State s t e = ap body.State (state_apart items apart s t e)
  held_same Voted x y e =
      let k = keeper_apart x.0 y.0 (cc) in
      let n = number_apart x.1 y.1 (cc) in
      cc

  body_same : (b c : Body V) → kind_of b ≡ kind_of c → body_items items b ≡ body_items items c → b ≡ c
  body_same b c e f =
      let x = taken_apart b in
      let y = subst (λ k. (z : Held V k) × (c ≡ made k z)) (sym e) (taken_apart c) in
      let g = held_same (kind_of b) x.0 y.0 (sym (ap (body_items items) x.1) ∙ f ∙ ap (body_items items) y.1) in
      x.1 ∙ g ∙ sym y.1

  pub message_same : (m n : Message V) → kind_of m.body ≡ kind_of n.body → message_items items m ≡ message_items items n → m ≡ n
  message_same m n e f =
      let h = head_apart m.head n.head (cc) in
      let is : body_items items m.body ≡ body_items items n.body = cc in
      let b = body_same m.body n.body e is in
      λ i. record { head = h i; body = b i }
