-- What reading and writing a line answer.
use Rattle.std.specs.Prelude.{◌≡◌, ℕ, ◌+◌, ◌<◌, ◌≤◌, ◌⊎◌, List, ◌∷◌, ◌++◌, length, drop, Ok, Err, Result}
use Rattle.protocol.specs.declared.message.Message.{Message}
use Rattle.fields.specs.declared.buffer.TooLong.{TooLong}
use Rattle.fields.specs.declared.fault.Fault.{Fault}
use Rattle.fields.specs.declared.fault.FaultKind.TheVariants.{Frame, Letter, Count}
use Rattle.fields.specs.Cuts.{Framed, Plain, Ends}
use Rattle.fields.specs.Faults.{FaultIn}
use Rattle.fields.specs.Forms.{Item, written, Form, Fit}
use Rattle.lines.specs.declared.letter.MessageKind.{MessageKind}
use Rattle.lines.specs.Letters.{letter, Unknown}
use Rattle.lines.specs.Messages.{message_form, line_of}

-- this is the line of a message, and not too long to be one
pub record LineOf {V : Type 0} (items : V → List Item) (m : Message V) (line : List ℕ) : Type 0 where
  pub is : line ≡ line_of items m
  pub short : length line ≤ 1024

-- a line has the fault e: it is not framed; its first field is no letter of a message; a field behind
-- the letter is missing or wrong; or all fields are right and one more follows
pub data Faulty (value : Form) (line : List ℕ) (e : Fault) : Type 0 where
  frame : (Framed line → ⊥) → e.kind ≡ Frame → e.at ≡ 0 → Faulty value line e
  unknown : (f more : List ℕ) → line ≡ f ++ more → Plain f → Ends more → Unknown f → e.kind ≡ Letter → e.at ≡ 0 → Faulty value line e
  field : (k : MessageKind) (bs : List ℕ) → line ≡ letter k ∷ bs → FaultIn (message_form value k) bs 1 e → Faulty value line e
  extra : (k : MessageKind) (is : List Item) (more : List ℕ) → line ≡ letter k ∷ (written is ++ (9 ∷ more)) → Fit (message_form value k) is → e.kind ≡ Count → e.at ≡ 1 + length (written is) + 1 → Faulty value line e

-- reading answers the message whose line it is, or a fault that is there
abbrev pub Told : {V : Type 0} → Form → (V → List Item) → List ℕ → Result (Message V) Fault → Type 0
Told value items line (Ok m) = LineOf items m line
Told value items line (Err e) = Faulty value line e

-- what reading answers: of the line of a message that message, of any other a fault
pub record Reads {V : Type 0} (value : Form) (items : V → List Item) (line : List ℕ) (r : Result (Message V) Fault) : Type 0 where
  pub tells_the_message_or_a_fault : Told value items line r
  pub takes_the_line_of_every_message : (m : Message V) → LineOf items m line → r ≡ Ok m

-- THE LAW OF LINES, over all that reading may tell: a message whose line is not too long has that
-- one accepted line, and any other message has none
pub record OneLine {V : Type 0} (value : Form) (items : V → List Item) (m : Message V) : Type 0 where
  pub accepted : length (line_of items m) ≤ 1024 → (r : Result (Message V) Fault) → Told value items (line_of items m) r → r ≡ Ok m
  pub no_other : (line : List ℕ) → Told value items line (Ok m) → line ≡ line_of items m
  pub too_long : 1024 < length (line_of items m) → (line : List ℕ) → Told value items line (Ok m) → ⊥

-- the line stands at the start of what was `before`, and the rest is as it was
pub record Stands (line before after : List ℕ) (n : ℕ) : Type 0 where
  pub count : n ≡ length line
  pub fits : length line ≤ length before
  pub short : length line ≤ 1024
  pub is : after ≡ line ++ drop (length line) before

-- the line is longer than the buffer, or than any line, and the buffer is as it was
pub record NoRoomFor (line before after : List ℕ) : Type 0 where
  pub long : (1024 < length line) ⊎ (length before < length line)
  pub untouched : after ≡ before

-- what writing a line answers: its length, or that there is no room
abbrev pub Writing : List ℕ → List ℕ → List ℕ → Result ℕ TooLong → Type 0
Writing line before after (Ok n) = Stands line before after n
Writing line before after (Err e) = NoRoomFor line before after

-- a message that was written to a buffer and read again is as it was, and its line stands in the
-- buffer; it is not written only where there is no room
abbrev pub ReadBack : {V : Type 0} → (V → List Item) → Message V → List ℕ → List ℕ → Result (Message V) TooLong → Type 0
ReadBack items m before after (Ok n) = (n ≡ m) × Stands (line_of items m) before after (length (line_of items m))
ReadBack items m before after (Err e) = NoRoomFor (line_of items m) before after
