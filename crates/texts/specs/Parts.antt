-- The text forms of the parts of a message: what their fields have to be, and those of a part that is
-- at hand.
use Rattle.std.specs.Prelude.{ℕ, ◌^◌, Bool, true, false, List, [], ◌∷◌, ◌++◌}
use Rattle.protocol.specs.declared.message.Head.{Head}
use Rattle.protocol.specs.declared.message.KeeperId.{KeeperId}
use Rattle.protocol.specs.declared.message.Number.{Number}
use Rattle.protocol.specs.declared.message.Promise.{Promise}
use Rattle.protocol.specs.declared.message.State.{State}
use Rattle.protocol.specs.declared.round.Round.{Round}
use Rattle.fields.specs.Forms.{Item, num, letter, Form, range, access, one, ◌▷◌}

-- register, hub, attempt
abbrev pub head_form : Form
head_form = one (range 0 63) ▷ (λ r. one (range 1 15) ▷ (λ h. one (range 1 (2 ^ 40))))

abbrev pub head_items : Head → List Item
head_items h = num h.register ∷ num h.hub ∷ num h.attempt ∷ []

-- n, hub, attempt
abbrev pub round_form : Form
round_form = one (range 0 (2 ^ 40)) ▷ (λ n. one (range 0 15) ▷ (λ h. one (range 0 (2 ^ 40))))

abbrev pub round_items : Round → List Item
round_items r = num r.n ∷ num r.hub ∷ num r.attempt ∷ []

abbrev pub first_number : List Item → ℕ
first_number [] = 0
first_number (num n ∷ is) = n
first_number (letter b ∷ is) = 0

-- the promised n, which is from 1 where raised is 1
abbrev pub promised_form : List Item → Form
promised_form raised = one (range (first_number raised) (2 ^ 40))

-- raised (0 or 1), then the promised n
abbrev pub promise_form : Form
promise_form = one (range 0 1) ▷ promised_form

abbrev pub bit : Bool → ℕ
bit true = 1
bit false = 0

abbrev pub promise_items : Promise → List Item
promise_items p = num (bit p.raised) ∷ num p.n ∷ []

-- a keeper's number
abbrev pub keeper_form : Form
keeper_form = one (range 0 6)

abbrev pub keeper_items : KeeperId → List Item
keeper_items k = num k.id ∷ []

-- the number of a round
abbrev pub number_form : Form
number_form = one (range 1 (2 ^ 40))

abbrev pub number_items : Number → List Item
number_items m = num m.n ∷ []

-- r or w
abbrev pub access_form : Form
access_form = one access

-- keeper, raised, promised n, the voted round, the value
abbrev pub state_form : Form → Form
state_form value = keeper_form ▷ (λ k. promise_form ▷ (λ p. round_form ▷ (λ r. value)))

abbrev pub state_items : {V : Type 0} → (V → List Item) → State V → List Item
state_items items s = keeper_items s.keeper ++ (promise_items s.promise ++ (round_items s.voted ++ items s.value))
