-- From the fields behind the first one to the line.
use Rattle.std.proofs.Common.{◌≡◌, ℕ, ◌+◌, List, [], ◌∷◌, ◌++◌, length, drop, Ok, Err, sym, ap, ◌∙◌, subst, arith}
use Rattle.std.proofs.lemmas.List.{drop_more}
use Rattle.protocol.specs.declared.message.Body.{Body}
use Rattle.protocol.specs.declared.message.Head.{Head}
use Rattle.fields.specs.declared.fault.Fault.{Fault}
use Rattle.fields.specs.declared.reader.Reader.{Reader}
use Rattle.fields.specs.declared.token.Token.{Token}
use Rattle.fields.specs.Faults.{FaultIn}
use Rattle.fields.specs.Forms.{Item, written, Form}
use Rattle.fields.specs.Readers.{rest, Opened, Went, FaultAt, Ending}
use Rattle.fields.proofs.Joins.{then_went}
use Rattle.fields.proofs.Parts.{ends_rest}
use Rattle.texts.specs.Parts.{head_form, head_items}
use Rattle.lines.specs.declared.letter.MessageKind.{MessageKind}
use Rattle.lines.specs.Letters.{letter, kind_of, Naming}
use Rattle.lines.specs.Lines.{LineOf, Faulty, unknown, field, extra}
use Rattle.lines.specs.Messages.{body_form, body_items, BodyReading, message_form}

module _ {V : Type 0} (value : Form) (items : V → List Item) (line : List ℕ) (t : Token) (p : Reader) (o : Opened line t p) where
  pub unknown_letter : (e : Fault) → Naming t (Err e) → Faulty value line e
  unknown_letter e h = unknown t.bytes.now (rest p) o.is o.plain (ends_rest p) h.0 h.1 h.2

  module _ (k : MessageKind) (named : t.bytes.now ≡ letter k ∷ []) where
    behind : (line ≡ letter k ∷ rest p) × (p.at ≡ 1)
    behind = (o.is ∙ ap (λ g. g ++ rest p) named, o.on ∙ ap length named)

    pub told_fault : (q : Reader) (e : Fault) → FaultAt p q (message_form value k) e → Faulty value line e
    told_fault q e h = field k (rest p) behind.0 (subst (λ n. FaultIn (message_form value k) (rest p) n e) behind.1 h.there)

    module _ (h : Head) (b : Body V) (q r : Reader) (w : Went p q head_form (head_items h)) (x : BodyReading value items k q r (Ok b)) where
      all_fields : Went p r (message_form value k) (head_items h ++ body_items items b)
      all_fields = then_went p q r head_form (body_form value k) (head_items h) (body_items items b) w x.1

      pub told_message : rest r ≡ 10 ∷ [] → LineOf items (record { head = h; body = b }) line
      told_message e = record {
        is = behind.0 ∙ ap (λ j. letter j ∷ rest p) (sym x.0) ∙ ap (λ l. letter (kind_of b) ∷ l) (all_fields.there ∙ ap (λ l. written (head_items h ++ body_items items b) ++ l) e);
        short = o.framed.short;
      }

      pub told_extra : (e : Fault) → Ending r (Err e) → Faulty value line e
      told_extra e y =
          let more = drop (r.at + 1) r.line.now in
          let tab : rest r ≡ 9 ∷ more = drop_more r.line.now r.at 0 r.within ∙ ap (λ c. c ∷ more) y.0 in
          extra k (head_items h ++ body_items items b) more
          (behind.0 ∙ ap (λ l. letter k ∷ l) (all_fields.there ∙ ap (λ l. written (head_items h ++ body_items items b) ++ l) tab))
          all_fields.fit y.1
          (let on = all_fields.on in let one = behind.1 in let at = y.2 in omega arith)
