-- The fields of each message: what they have to be, and those of a message that is at hand.
use Rattle.std.specs.Prelude.{◌≡◌, ℕ, List, [], ◌∷◌, ◌++◌, Ok, Err, Result}
use Rattle.protocol.specs.declared.message.Body.{Body}
use Rattle.protocol.specs.declared.message.Body.TheVariants as body
use Rattle.protocol.specs.declared.message.Message.{Message}
use Rattle.fields.specs.declared.fault.Fault.{Fault}
use Rattle.fields.specs.declared.reader.Reader.{Reader}
use Rattle.fields.specs.Forms.{Item, written, Form, ◌▷◌}
use Rattle.fields.specs.Readers.{access_items, Went, FaultAt}
use Rattle.texts.specs.Parts.{head_form, head_items, keeper_form, keeper_items, number_form, number_items, access_form, state_form, state_items}
use Rattle.lines.specs.declared.letter.MessageKind.{MessageKind}
use Rattle.lines.specs.declared.letter.MessageKind.TheVariants.{Prepare, PrepareAt, Vote, State, Voted}
use Rattle.lines.specs.Letters.{letter, kind_of}

-- what stands behind the head, by the message: r or w; n; n and the value; the keeper's state; keeper and n
abbrev pub body_form : Form → MessageKind → Form
body_form value Prepare = access_form
body_form value PrepareAt = number_form
body_form value Vote = number_form ▷ (λ n. value)
body_form value State = state_form value
body_form value Voted = keeper_form ▷ (λ k. number_form)

abbrev pub body_items : {V : Type 0} → (V → List Item) → Body V → List Item
body_items items (body.Prepare a) = access_items a
body_items items (body.PrepareAt n) = number_items n
body_items items (body.Vote n v) = number_items n ++ items v
body_items items (body.State s) = state_items items s
body_items items (body.Voted k n) = keeper_items k ++ number_items n

-- what reading the fields behind the head answers
abbrev pub BodyReading : {V : Type 0} → Form → (V → List Item) → MessageKind → Reader → Reader → Result (Body V) Fault → Type 0
BodyReading value items k p q (Ok b) = (kind_of b ≡ k) × Went p q (body_form value k) (body_items items b)
BodyReading value items k p q (Err e) = FaultAt p q (body_form value k) e

-- all fields behind the letter
abbrev pub message_form : Form → MessageKind → Form
message_form value k = head_form ▷ (λ h. body_form value k)

abbrev pub message_items : {V : Type 0} → (V → List Item) → Message V → List Item
message_items items m = head_items m.head ++ body_items items m.body

-- THE LINE of a message: its letter, its fields each behind a tab, and a line feed
abbrev pub line_of : {V : Type 0} → (V → List Item) → Message V → List ℕ
line_of items m = letter (kind_of m.body) ∷ (written (message_items items m) ++ (10 ∷ []))
