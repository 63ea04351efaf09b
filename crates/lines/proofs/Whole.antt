-- A line is the line of at most one message, and of none where a fault is.
use Rattle.std.proofs.Common.{◌≡◌, ℕ, ◌-◌, ◌<◌, List, [], ◌∷◌, ◌++◌, length, get_or, IsErrAnd, Ok, Err, Result, sym, refl, ap, ◌∙◌, subst, arith}
use Rattle.std.specs.List.{AllByRecursion}
use Rattle.std.proofs.ByRecursion.{All-append, All-get_or, All-weaker}
use Rattle.std.proofs.lemmas.List.{get_or_push, get_or_append_left, length_push}
use Rattle.protocol.specs.declared.message.Body.{Body}
use Rattle.protocol.specs.declared.message.Body.TheVariants as body
use Rattle.protocol.specs.declared.message.Message.{Message}
use Rattle.fields.specs.declared.fault.Fault.{Fault}
use Rattle.fields.specs.Cuts.{Mark, Closed, Plain}
use Rattle.fields.specs.Forms.{Item, spelt, written, Form, end, field, Fit}
use Rattle.fields.proofs.Apart.{prefix, items_same, excludes}
use Rattle.fields.proofs.Joins.{meets_plain, ends_on, fit_join}
use Rattle.texts.specs.Parts.{head_form, head_items, keeper_form, keeper_items, number_form, number_items}
use Rattle.texts.specs.PartLaws.{head_fits, keeper_fits, number_fits, access_fits, state_fits}
use Rattle.lines.specs.declared.letter.MessageKind.{MessageKind}
use Rattle.lines.specs.declared.letter.MessageKind.TheVariants.{Prepare, PrepareAt, Vote, State, Voted}
use Rattle.lines.specs.Letters.{letter, kind_of}
use Rattle.lines.specs.Lines.{LineOf, Faulty, frame, unknown, field as field_fault, extra, Told, Reads, OneLine}
use Rattle.lines.specs.Messages.{body_form, body_items, message_form, message_items, line_of}
use Rattle.lines.proofs.Same.{letter_same, message_same}

-- the line feed is the last byte and the only one, where the bytes before it have none
abbrev NoFeed : List ℕ → Type 0
NoFeed xs = AllByRecursion (λ b. b ≡ 10 → ⊥) xs

closed_feed : (xs : List ℕ) → NoFeed xs → Closed (xs ++ (10 ∷ []))
closed_feed xs h =
    let l = length_push xs 10 in
    record {
      some = omega arith;
      last = get_or_push xs 10 0 (length (xs ++ (10 ∷ [])) - 1) (omega arith);
      only = λ i k e. let j : i < length xs = omega arith in All-get_or (λ b. b ≡ 10 → ⊥) xs i 0 j h (sym (get_or_append_left xs (10 ∷ []) 0 i j) ∙ e);
    }

no_feed : (form : Form) (is : List Item) → Fit form is → NoFeed (written is)
no_feed end [] f = tt
no_feed end (i ∷ is) f = absurd f
no_feed (field s next) [] f = absurd f
no_feed (field s next) (i ∷ is) f =
    let plain = All-weaker (λ b. Mark b → ⊥) (λ b. b ≡ 10 → ⊥) (λ b h e. h (omega arith, omega arith)) (spelt i) (meets_plain s i f.0) in
    (λ e. omega (arith, e), All-append (λ b. b ≡ 10 → ⊥) (spelt i) (written is) plain (no_feed (next i) is f.1))

-- letters are no digits, and no marks
pub letter_high : (k : MessageKind) → 57 < letter k
letter_high Prepare = omega arith
letter_high PrepareAt = omega arith
letter_high Vote = omega arith
letter_high State = omega arith
letter_high Voted = omega arith

plain_letter : (k : MessageKind) → Plain (letter k ∷ [])
plain_letter k = (λ m. omega (arith, m, letter_high k), tt)

module _ {V : Type 0} (value : Form) (items : V → List Item) (fits : (v : V) → Fit value (items v)) where
  body_fits : (b : Body V) → Fit (body_form value (kind_of b)) (body_items items b)
  body_fits (body.Prepare a) = access_fits a
  body_fits (body.PrepareAt n) = number_fits n
  body_fits (body.Vote n v) = fit_join number_form (λ l. value) (number_items n) (items v) (number_fits n) (fits v)
  body_fits (body.State s) = state_fits value items fits s
  body_fits (body.Voted k n) = fit_join keeper_form (λ l. number_form) (keeper_items k) (number_items n) (keeper_fits k) (number_fits n)

  pub message_fits : (m : Message V) → Fit (message_form value (kind_of m.body)) (message_items items m)
  message_fits m = fit_join head_form (λ h. body_form value (kind_of m.body)) (head_items m.head) (body_items items m.body) (head_fits m.head) (body_fits m.body)

  -- a fault is in no line of a message
  no_fault : (line : List ℕ) (e : Fault) → Faulty value line e → (m : Message V) → LineOf items m line → ⊥
  no_fault line e (frame n k a) m l = n (record { short = l.short; closed = subst Closed (sym l.is) (closed_feed (letter (kind_of m.body) ∷ written (message_items items m)) (λ x. omega (arith, x, letter_high (kind_of m.body)), no_feed (message_form value (kind_of m.body)) (message_items items m) (message_fits m))) })
  no_fault line e (unknown f more is p q u k a) m l =
      let j = kind_of m.body in
      u j (prefix f (letter j ∷ []) more (written (message_items items m) ++ (10 ∷ [])) p (plain_letter j) q (ends_on (message_items items m) (10 ∷ []) (omega arith, omega arith)) (sym is ∙ l.is)).0
  no_fault line e (field_fault k bs is f) m l =
      let at = l.is in
      let x : letter k ≡ letter (kind_of m.body) = cc in
      let y : bs ≡ written (message_items items m) ++ (10 ∷ []) = cc in
      let fit = subst (λ j. Fit (message_form value j) (message_items items m)) (sym (letter_same k (kind_of m.body) x)) (message_fits m) in
      excludes (message_form value k) bs 1 e f (message_items items m) (10 ∷ []) fit (omega arith, omega arith) y
  no_fault line e (extra k is more at' f p q) m l =
      let at = l.is in
      let x : letter k ≡ letter (kind_of m.body) = cc in
      let y : written is ++ (9 ∷ more) ≡ written (message_items items m) ++ (10 ∷ []) = cc in
      let fit = subst (λ j. Fit (message_form value j) (message_items items m)) (sym (letter_same k (kind_of m.body) x)) (message_fits m) in
      let z = (items_same (message_form value k) is (message_items items m) (9 ∷ more) (10 ∷ []) f fit (omega arith, omega arith) (omega arith, omega arith) y).1 in
      let n = ap (λ t. get_or t 0 0) z in
      omega (arith, n)

  module _ (apart : (v w : V) → items v ≡ items w → v ≡ w) where
    line_same : (m n : Message V) → line_of items m ≡ line_of items n → m ≡ n
    line_same m n e =
        let x : letter (kind_of m.body) ≡ letter (kind_of n.body) = cc in
        let y : written (message_items items m) ++ (10 ∷ []) ≡ written (message_items items n) ++ (10 ∷ []) = cc in
        let k = letter_same (kind_of m.body) (kind_of n.body) x in
        let fit = subst (λ j. Fit (message_form value j) (message_items items n)) (sym k) (message_fits n) in
        message_same items apart m n k (items_same (message_form value (kind_of m.body)) (message_items items m) (message_items items n) (10 ∷ []) (10 ∷ []) (message_fits m) fit (omega arith, omega arith) (omega arith, omega arith) y).0

    -- whatever reading tells of the line of a message, it tells the message
    told_line : (line : List ℕ) (r : Result (Message V) Fault) → Told value items line r → (m : Message V) → LineOf items m line → r ≡ Ok m
    told_line line (Ok n) t m l = ap Ok (line_same n m (sym t.is ∙ l.is))
    told_line line (Err y) t m l = absurd (no_fault line y t m l)

    pub reads_message : (line : List ℕ) (m : Message V) → LineOf items m line → Reads value items line (Ok m)
    reads_message line m t = record { tells_the_message_or_a_fault = t; takes_the_line_of_every_message = told_line line (Ok m) t }

    -- the exit of a `?`
    pub reads_fault : (line : List ℕ) (r : Result (Message V) Fault) (e : Fault) → IsErrAnd r (λ y. y ≡ e) → Faulty value line e → Reads value items line r
    reads_fault line (Ok m) e h f = absurd h
    reads_fault line (Err y) e h f = let t = subst (λ x. Faulty value line x) (sym h) f in record { tells_the_message_or_a_fault = t; takes_the_line_of_every_message = told_line line (Err y) t }

    pub one_line : (m : Message V) → OneLine value items m
    one_line m = record {
      accepted = λ short r t. told_line (line_of items m) r t m (record { is = refl; short = short });
      no_other = λ line t. t.is;
      too_long = λ long line t. let e = ap length t.is in let s = t.short in omega arith;
    }
