-- What a keeper writes for a line.
use Rattle.std.specs.Prelude.{◌≡◌, ℕ, ◌<◌, ◌≤◌, Bool, List, [], ◌∷◌, ◌++◌, length, Ok, Err, Result}
use Rattle.protocol.specs.declared.message.Message.{Message}
use Rattle.protocol.specs.declared.record.Record.{Record}
use Rattle.protocol.specs.declared.refusal.Reason.{Reason}
use Rattle.protocol.specs.declared.refusal.Reason.TheVariants.{NoRoom}
use Rattle.protocol.specs.Refusals.{number_of}
use Rattle.fields.specs.declared.buffer.Buffer.{Buffer}
use Rattle.fields.specs.declared.fault.Fault.{Fault}
use Rattle.fields.specs.Buffers.{content}
use Rattle.fields.specs.Faults.{fault_reason}
use Rattle.fields.specs.Forms.{Item, num, written, Form}
use Rattle.keeper.specs.declared.keeper.Keeper.{Keeper}
use Rattle.keeper.specs.declared.refusal.KeeperRefusal.{KeeperRefusal}
use Rattle.keeper.specs.Keepers.{Received}
use Rattle.keeper.specs.Refusals.{keeper_reason}
use Rattle.lines.specs.Lines.{LineOf, Faulty}
use Rattle.lines.specs.Messages.{line_of}

-- X, a tab, the number of the refusal
abbrev pub refusal_line : ℕ → List ℕ
refusal_line n = 88 ∷ (written (num n ∷ []) ++ (10 ∷ []))

-- the buffer holds this line and nothing else
pub record Filled (line : List ℕ) (buffer : Buffer) : Type 0 where
  pub holds : content buffer ≡ line
  pub count : buffer.count ≡ length line
  pub short : length line ≤ 1024

-- the line of a reply, or a refusal where that is longer than any line
pub data Replied (line : List ℕ) (buffer : Buffer) : Type 0 where
  in_full : Filled line buffer → Replied line buffer
  too_long : 1024 < length line → Filled (refusal_line (number_of NoRoom)) buffer → Replied line buffer

-- what a keeper makes of a line, over what its store means: the line has a fault, which is named; or it
-- is the line of a message, which the keeper refuses or replies to by its rules
pub data Heard {S V : Type 0} (value : Form) (items : V → List Item) (records : S → List (Record V)) (opened : S → Bool) (before : Keeper S V) (line : List ℕ) (after : Keeper S V) : Result (Message V) Reason → Type 0 where
  faulty : (e : Fault) → Faulty value line e → after ≡ before → Heard value items records opened before line after (Err (fault_reason e.kind))
  refused : (m : Message V) (e : KeeperRefusal) → LineOf items m line → Received records opened before m (Err e) after → Heard value items records opened before line after (Err (keeper_reason e))
  replied : (m reply : Message V) → LineOf items m line → Received records opened before m (Ok reply) after → Heard value items records opened before line after (Ok reply)

-- the buffer holds the line of the reply, or the refusal for this reason
abbrev pub Reports : {V : Type 0} → (V → List Item) → Result (Message V) Reason → Buffer → Type 0
Reports items (Ok reply) buffer = Replied (line_of items reply) buffer
Reports items (Err reason) buffer = Filled (refusal_line (number_of reason)) buffer

-- a keeper answered a line: the buffer reports what it made of it
pub record Answered {S V : Type 0} (value : Form) (items : V → List Item) (records : S → List (Record V)) (opened : S → Bool) (before : Keeper S V) (line : List ℕ) (after : Keeper S V) (buffer : Buffer) : Type 0 where
  pub outcome : Result (Message V) Reason
  pub heard : Heard value items records opened before line after outcome
  pub reports : Reports items outcome buffer
