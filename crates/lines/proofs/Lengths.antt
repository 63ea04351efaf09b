-- How long a line can be.
use Rattle.std.proofs.Common.{◌+◌, ◌*◌, ◌≤◌, List, [], ◌∷◌, length, arith, length-append}
use Rattle.std.proofs.lemmas.Fmt.{length-decimal-le}
use Rattle.protocol.specs.declared.message.Body.{Body}
use Rattle.protocol.specs.declared.message.Body.TheVariants as body
use Rattle.protocol.specs.declared.message.Message.{Message}
use Rattle.kinds.specs.declared.meter.Meter.{Meter}
use Rattle.fields.specs.Forms.{Item, num, letter, spelt, written, Shape, range, access, Meets, Form, end, field, Fit}
use Rattle.texts.specs.Laws.{meter_fits}
use Rattle.texts.specs.Meters.{meter_form, meter_items}
use Rattle.lines.specs.Letters.{kind_of}
use Rattle.lines.specs.Messages.{body_items, message_form, message_items, line_of}
use Rattle.lines.proofs.Whole.{message_fits}

item_short : (s : Shape) (i : Item) → Meets s i → length (spelt i) ≤ 13
item_short (range lo hi) (num n) m = let top = m.2 in length-decimal-le 13 n (omega arith) (omega arith) (omega arith)
item_short (range lo hi) (letter b) m = absurd m
item_short access (num n) m = absurd m
item_short access (letter b) m = omega arith

items_short : (form : Form) (is : List Item) → Fit form is → length (written is) ≤ 14 * length is
items_short end [] f = omega arith
items_short end (i ∷ is) f = absurd f
items_short (field s next) [] f = absurd f
items_short (field s next) (i ∷ is) f =
    let a = item_short s i f.0 in
    let b = items_short (next i) is f.1 in
    omega (arith, length-append (spelt i) (written is))

pub line_short : {V : Type 0} (value : Form) (items : V → List Item) → ((v : V) → Fit value (items v)) → (m : Message V) → length (line_of items m) ≤ 14 * length (message_items items m) + 2
line_short value items fits m =
    let a = items_short (message_form value (kind_of m.body)) (message_items items m) (message_fits value items fits m) in
    omega (arith, length-append (written (message_items items m)) (10 ∷ []))

-- a message about a meter has at most ten fields behind its letter
few_fields : (b : Body Meter) → length (body_items meter_items b) ≤ 7
few_fields (body.Prepare a) = omega arith
few_fields (body.PrepareAt n) = omega arith
few_fields (body.Vote n v) = omega arith
few_fields (body.State s) = omega arith
few_fields (body.Voted k n) = omega arith

pub meter_line_short : (m : Message Meter) → length (line_of meter_items m) ≤ 1024
meter_line_short m =
    let a = line_short meter_form meter_items meter_fits m in
    let b = few_fields m.body in
    omega arith
