-- The letter of each message.
use Rattle.std.specs.Prelude.{◌≡◌, ℕ, List, [], ◌∷◌, Ok, Err, Result, ◌≢◌}
use Rattle.protocol.specs.declared.message.Body.{Body}
use Rattle.protocol.specs.declared.message.Body.TheVariants as body
use Rattle.fields.specs.declared.fault.Fault.{Fault}
use Rattle.fields.specs.declared.fault.FaultKind.TheVariants as fault
use Rattle.fields.specs.declared.token.Token.{Token}
use Rattle.lines.specs.declared.letter.MessageKind.{MessageKind}
use Rattle.lines.specs.declared.letter.UnknownLetter.{UnknownLetter}
use Rattle.lines.specs.declared.letter.MessageKind.TheVariants.{Prepare, PrepareAt, Vote, State, Voted}

-- P, F, V, A and D
abbrev pub letter : MessageKind → ℕ
letter Prepare = 80
letter PrepareAt = 70
letter Vote = 86
letter State = 65
letter Voted = 68

abbrev pub kind_of : {V : Type 0} → Body V → MessageKind
kind_of (body.Prepare a) = Prepare
kind_of (body.PrepareAt n) = PrepareAt
kind_of (body.Vote n v) = Vote
kind_of (body.State s) = State
kind_of (body.Voted k n) = Voted

-- the kind whose letter this byte is, or it is the letter of none
abbrev pub Lettered : ℕ → Result MessageKind UnknownLetter → Type 0
Lettered b (Ok k) = b ≡ letter k
Lettered b (Err e) = (k : MessageKind) → b ≢ letter k

-- a first field that is none of the five letters
abbrev pub Unknown : List ℕ → Type 0
Unknown f = (k : MessageKind) → f ≢ letter k ∷ []

-- what the first field of a line names
abbrev pub Naming : Token → Result MessageKind Fault → Type 0
Naming t (Ok k) = t.bytes.now ≡ letter k ∷ []
Naming t (Err e) = Unknown (t.bytes.now) × (e.kind ≡ fault.Letter) × (e.at ≡ 0)
