-- Reading the fields of a message behind its head.
use Rattle.std.proofs.Common.{◌≡◌, List, IsErrAnd, Ok, Err, Result, sym, subst}
use Rattle.protocol.specs.declared.message.Body.{Body}
use Rattle.fields.specs.declared.fault.Fault.{Fault}
use Rattle.fields.specs.declared.reader.Reader.{Reader}
use Rattle.fields.specs.Forms.{Item, Form}
use Rattle.fields.specs.Readers.{FaultAt}
use Rattle.lines.specs.declared.letter.MessageKind.{MessageKind}
use Rattle.lines.specs.Messages.{body_form, BodyReading}

-- the exit of a `?`
pub body_exit : {V : Type 0} (value : Form) (items : V → List Item) (k : MessageKind) (p q : Reader) (r : Result (Body V) Fault) (e : Fault) → IsErrAnd r (λ y. y ≡ e) → FaultAt p q (body_form value k) e → BodyReading value items k p q r
body_exit value items k p q (Ok b) e h f = absurd h
body_exit value items k p q (Err y) e h f = subst (FaultAt p q (body_form value k)) (sym h) f
