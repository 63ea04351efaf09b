-- What reading fields from a line answers.
use Rattle.std.specs.Prelude.{◌≡◌, ℕ, ◌+◌, ◌<◌, List, [], ◌∷◌, ◌++◌, length, drop, Some, None, Ok, Err, Option, Result, slice_index}
use Rattle.protocol.specs.declared.message.Access.{Access}
use Rattle.protocol.specs.declared.message.Access.TheVariants.{Read, Write}
use Rattle.fields.specs.declared.fault.Fault.{Fault}
use Rattle.fields.specs.declared.fault.FaultKind.{FaultKind}
use Rattle.fields.specs.declared.fault.FaultKind.TheVariants.{Frame, Letter, Count, Form as BadForm, Range}
use Rattle.fields.specs.declared.reader.Reader.{Reader}
use Rattle.fields.specs.declared.token.Token.{Token}
use Rattle.fields.specs.Cuts.{Mark, Framed, Plain, Next}
use Rattle.fields.specs.Faults.{FaultIn}
use Rattle.fields.specs.Forms.{Item, letter, written, Form, Fit}

-- the bytes of the line that a reader has not read yet
abbrev pub rest : Reader → List ℕ
rest p = drop p.at p.line.now

-- the reader went from p to q, past the field of the token t
pub record Passed (p q : Reader) (t : Token) : Type 0 where
  pub same_line : q.line.now ≡ p.line.now
  pub next : Next (rest p) t.bytes.now (rest q)
  pub offset : t.at ≡ p.at + 1
  pub on : q.at ≡ p.at + 1 + length t.bytes.now

-- the next field, or none at the line feed
abbrev pub Steps : Reader → Reader → Option Token → Type 0
Steps p q None = (slice_index p.line.now p.at ≡ 10) × (q ≡ p)
Steps p q (Some t) = Passed p q t

-- a reader takes the next field for what `told` says of its token; one that is missing or wrong is not
-- passed
pub data Takes {X : Type 0} (told : Token → Result X FaultKind → Type 0) (p : Reader) : Reader → Result X Fault → Type 0 where
  took : {q : Reader} {x : X} (t : Token) → Passed p q t → told t (Ok x) → Takes told p q (Ok x)
  none_left : slice_index p.line.now p.at ≡ 10 → Takes told p p (Err (record { kind = Count; at = p.at }))
  amiss : {k : FaultKind} (t : Token) (q : Reader) → Passed p q t → told t (Err k) → Takes told p p (Err (record { kind = k; at = p.at + 1 }))

-- the reader went from p to q, past these items, which fit the form
pub record Went (p q : Reader) (form : Form) (is : List Item) : Type 0 where
  pub same_line : q.line.now ≡ p.line.now
  pub there : rest p ≡ written is ++ rest q
  pub on : q.at ≡ p.at + length (written is)
  pub fit : Fit form is

-- where a fault is, for a reader that stands in front of the field: a missing one would begin where the
-- line feed is, any other begins behind its tab, and the faults of a whole line are at 0
abbrev pub offset_of : FaultKind → ℕ → ℕ
offset_of Count at = at
offset_of BadForm at = at + 1
offset_of Range at = at + 1
offset_of Frame at = 0
offset_of Letter at = 0

-- the fields that the reader p came to have this fault, and q stands in front of the field
pub record FaultAt (p q : Reader) (form : Form) (e : Fault) : Type 0 where
  pub there : FaultIn form (rest p) p.at e
  pub same_line : q.line.now ≡ p.line.now
  pub in_front : e.at ≡ offset_of e.kind q.at

-- what a reader of a form answers: the value whose items stand there, or a fault that is there
abbrev pub Reading : {X : Type 0} → Form → (X → List Item) → Reader → Reader → Result X Fault → Type 0
Reading form items p q (Ok x) = Went p q form (items x)
Reading form items p q (Err e) = FaultAt p q form e

-- r for a read, w for a write
abbrev pub access_letter : Access → ℕ
access_letter Read = 114
access_letter Write = 119

abbrev pub access_items : Access → List Item
access_items a = letter (access_letter a) ∷ []

-- behind the last field: the line feed is next, or there is one field too many
abbrev pub Ending : Reader → Result (Unit {0}) Fault → Type 0
Ending p (Ok u) = rest p ≡ 10 ∷ []
Ending p (Err e) = (slice_index p.line.now p.at ≡ 9) × (e.kind ≡ Count) × (e.at ≡ p.at + 1)

-- a framed line whose first field ends here
pub record FirstEnds (line : List ℕ) (end : ℕ) : Type 0 where
  pub framed : Framed line
  pub within : end < length line
  pub mark : Mark (slice_index line end)
  pub plain : (i : ℕ) → i < end → Mark (slice_index line i) → ⊥

-- a line is not framed
abbrev pub Unframed : List ℕ → Fault → Type 0
Unframed line e = (Framed line → ⊥) × (e.kind ≡ Frame) × (e.at ≡ 0)

-- where the first field of a line ends; a line that is not framed is refused
abbrev pub Opening : List ℕ → Result ℕ Fault → Type 0
Opening line (Ok end) = FirstEnds line end
Opening line (Err e) = Unframed line e

-- a framed line begins with the field of the token t, and the reader p stands behind it
pub record Opened (line : List ℕ) (t : Token) (p : Reader) : Type 0 where
  pub framed : Framed line
  pub same_line : p.line.now ≡ line
  pub is : line ≡ t.bytes.now ++ rest p
  pub offset : t.at ≡ 0
  pub on : p.at ≡ length t.bytes.now
  pub plain : Plain t.bytes.now
