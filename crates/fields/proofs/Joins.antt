-- Fields read one after another.
use Rattle.std.proofs.Common.{◌≡◌, ℕ, ◌+◌, List, [], ◌∷◌, ◌++◌, length, IsErrAnd, Ok, Err, decimal, Result, sym, refl, ap, ◌∙◌, subst, append_assoc, add-zero, arith, length-append}
use Rattle.std.proofs.lemmas.Fmt.{decimal_injective}
use Rattle.fields.specs.declared.fault.Fault.{Fault}
use Rattle.fields.specs.declared.reader.Reader.{Reader}
use Rattle.fields.specs.Cuts.{Plain, Ends}
use Rattle.fields.specs.Faults.{FaultIn, missing, wrong, later}
use Rattle.fields.specs.Forms.{Item, num, letter, spelt, written, Shape, range, access, Meets, Form, end, field, Fit, ◌▷◌}
use Rattle.fields.specs.Readers.{rest, Went, FaultAt, Reading}
use Rattle.fields.proofs.Digits.{numeral_decimal, plain_digits}
use Rattle.fields.proofs.Parts.{ends_rest}
use Rattle.fields.proofs.Writes.{written_append}

-- an item that a field may hold is written without a mark
pub meets_plain : (s : Shape) (i : Item) → Meets s i → Plain (spelt i)
meets_plain (range lo hi) (num n) m = plain_digits (decimal n) (numeral_decimal n m.2).0.digits
meets_plain (range lo hi) (letter b) m = absurd m
meets_plain access (num n) m = absurd m
meets_plain access (letter b) m = (λ k. omega (arith, k, m), tt)

-- and no other item of the same shape is written so
pub item_same : (s : Shape) (i j : Item) → Meets s i → Meets s j → spelt i ≡ spelt j → i ≡ j
item_same (range lo hi) (num m) (num n) a b e = ap num (decimal_injective m n (omega (arith, a.2)) (omega (arith, b.2)) e)
item_same (range lo hi) (num m) (letter c) a b e = absurd b
item_same (range lo hi) (letter c) j a b e = absurd a
item_same access (num m) j a b e = absurd a
item_same access (letter c) (num n) a b e = absurd b
item_same access (letter c) (letter d) a b e = cc

pub ends_on : (is : List Item) (more : List ℕ) → Ends more → Ends (written is ++ more)
ends_on [] more h = h
ends_on (i ∷ is) more h = (omega arith, omega arith)

pub fit_join : (form : Form) (after : List Item → Form) (is js : List Item) → Fit form is → Fit (after is) js → Fit (form ▷ after) (is ++ js)
fit_join end after [] js h k = k
fit_join end after (i ∷ is) js h k = absurd h
fit_join (field s next) after [] js h k = absurd h
fit_join (field s next) after (i ∷ is) js h k = (h.0, fit_join (next i) (λ l. after (i ∷ l)) is js h.1 k)

-- a fault of the first fields is a fault of them all
pub fault_front : (form : Form) (after : List Item → Form) (bs : List ℕ) (o : ℕ) (e : Fault) → FaultIn form bs o e → FaultIn (form ▷ after) bs o e
fault_front _ after bs o e (missing a k p) = missing a k p
fault_front _ after bs o e (wrong f more n w p) = wrong f more n w p
fault_front _ after bs o e (later {next = next} f more n i st h) = later f more n i st (fault_front (next i) (λ l. after (i ∷ l)) more (o + 1 + length f) e h)

-- and so is a fault past fields that are there
pub fault_past : (form : Form) (after : List Item → Form) (is : List Item) (bs more : List ℕ) (o : ℕ) (e : Fault) → bs ≡ written is ++ more → Ends more → Fit form is → FaultIn (after is) more (o + length (written is)) e → FaultIn (form ▷ after) bs o e
fault_past end after [] bs more o e at ends fit h = subst (λ l. FaultIn (after []) l o e) (sym at) (subst (λ k. FaultIn (after []) more k e) (add-zero o) h)
fault_past end after (i ∷ is) bs more o e at ends fit h = absurd fit
fault_past (field s next) after [] bs more o e at ends fit h = absurd fit
fault_past (field s next) after (i ∷ is) bs more o e at ends fit h =
    later (spelt i) (written is ++ more)
    (record { is = at ∙ ap (λ l. 9 ∷ l) (append_assoc (spelt i) (written is) more); plain = meets_plain s i fit.0; ends = ends_on is more ends })
    i (record { allowed = fit.0; no_other = λ j m f. item_same s j i m fit.0 (sym f) })
    (fault_past (next i) (λ l. after (i ∷ l)) is (written is ++ more) more (o + 1 + length (spelt i)) e refl ends fit.1
    (let k : o + length (written (i ∷ is)) ≡ o + 1 + length (spelt i) + length (written is) = omega (arith, length-append (spelt i) (written is)) in subst (λ k. FaultIn (after (i ∷ is)) more k e) k h))

module _ (p q : Reader) (form : Form) (after : List Item → Form) (is : List Item) where
  pub went_join : (r : Reader) (js : List Item) → Went p q form is → Went q r (after is) js → Went p r (form ▷ after) (is ++ js)
  went_join r js g h = record {
    same_line = h.same_line ∙ g.same_line;
    there = g.there ∙ ap (λ l. written is ++ l) h.there ∙ sym (append_assoc (written is) (written js) (rest r)) ∙ ap (λ l. l ++ rest r) (sym (written_append is js));
    on = omega (arith, h.on, g.on, ap length (written_append is js), length-append (written is) (written js));
    fit = fit_join form after is js g.fit h.fit;
  }

  pub went_fault : (r : Reader) (e : Fault) → Went p q form is → FaultAt q r (after is) e → FaultAt p r (form ▷ after) e
  went_fault r e g h = record { there = fault_past form after is (rest p) (rest q) p.at e g.there (ends_rest q) g.fit (subst (λ k. FaultIn (after is) (rest q) k e) g.on h.there); same_line = h.same_line ∙ g.same_line; in_front = h.in_front }

pub front_fault : (p q : Reader) (form : Form) (after : List Item → Form) (e : Fault) → FaultAt p q form e → FaultAt p q (form ▷ after) e
front_fault p q form after e h = record { there = fault_front form after (rest p) p.at e h.there; same_line = h.same_line; in_front = h.in_front }

-- the exit of a `?`
pub exit : {X : Type 0} (form : Form) (items : X → List Item) (p q : Reader) (r : Result X Fault) (e : Fault) → IsErrAnd r (λ y. y ≡ e) → FaultAt p q form e → Reading form items p q r
exit form items p q (Ok x) e h f = absurd h
exit form items p q (Err y) e h f = subst (λ x. FaultAt p q form x) (sym h) f

-- the same where what follows does not depend on the first fields
pub then_went : (p q r : Reader) (form more : Form) (is js : List Item) → Went p q form is → Went q r more js → Went p r (form ▷ (λ l. more)) (is ++ js)
then_went p q r form more is js g h = went_join p q form (λ l. more) is r js g h

pub then_fault : (p q r : Reader) (form more : Form) (is : List Item) (e : Fault) → Went p q form is → FaultAt q r more e → FaultAt p r (form ▷ (λ l. more)) e
then_fault p q r form more is e g h = went_fault p q form (λ l. more) is r e g h

pub first_fault : (p q : Reader) (form more : Form) (e : Fault) → FaultAt p q form e → FaultAt p q (form ▷ (λ l. more)) e
first_fault p q form more e h = front_fault p q form (λ l. more) e h
