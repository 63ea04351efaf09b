-- The faults of fields. Of several faults the reader may name any one: that freedom is `FaultIn`,
-- which holds of each fault that is there, at its offset.
use Rattle.std.specs.Prelude.{◌≡◌, ℕ, ◌+◌, List, [], ◌∷◌, length, ◌≢◌, slice_index}
use Rattle.protocol.specs.declared.refusal.Reason.{Reason}
use Rattle.protocol.specs.declared.refusal.Reason.TheVariants.{LineFrame, UnknownLetter, FieldCount, FieldForm, FieldRange}
use Rattle.fields.specs.declared.fault.Fault.{Fault}
use Rattle.fields.specs.declared.fault.FaultKind.{FaultKind}
use Rattle.fields.specs.declared.fault.FaultKind.TheVariants.{Frame, Letter, Count, Form as BadForm, Range}
use Rattle.fields.specs.Cuts.{Next}
use Rattle.fields.specs.Forms.{Item, spelt, Shape, range, access, InRange, Meets, Form, field}
use Rattle.fields.specs.Numerals.{Numeral, number}

abbrev pub fault_reason : FaultKind → Reason
fault_reason Frame = LineFrame
fault_reason Letter = UnknownLetter
fault_reason Count = FieldCount
fault_reason BadForm = FieldForm
fault_reason Range = FieldRange

-- what is wrong with a field that has to be of this shape
pub data Wrong : Shape → List ℕ → FaultKind → Type 0 where
  no_number : {lo hi : ℕ} {f : List ℕ} → (Numeral f → ⊥) → Wrong (range lo hi) f BadForm
  out_of_range : {lo hi : ℕ} {f : List ℕ} → Numeral f → (InRange lo hi (number f) → ⊥) → Wrong (range lo hi) f Range
  no_access : {f : List ℕ} → (f ≢ 114 ∷ []) → (f ≢ 119 ∷ []) → Wrong access f BadForm

-- the field f, which has to be of this shape, stands for the item i; one that is at fault may stand for
-- any item of the shape
pub record StandsFor (s : Shape) (f : List ℕ) (i : Item) : Type 0 where
  pub allowed : Meets s i
  pub no_other : (j : Item) → Meets s j → f ≡ spelt j → j ≡ i

-- the fields that begin bs, which stands at the offset o of a line, have the fault e: the line feed
-- comes where a field is missing, a field is wrong, or a later one is
pub data FaultIn : Form → List ℕ → ℕ → Fault → Type 0 where
  missing : {s : Shape} {next : Item → Form} {bs : List ℕ} {o : ℕ} {e : Fault} → slice_index bs 0 ≡ 10 → e.kind ≡ Count → e.at ≡ o → FaultIn (field s next) bs o e
  wrong : {s : Shape} {next : Item → Form} {bs : List ℕ} {o : ℕ} {e : Fault} (f more : List ℕ) → Next bs f more → Wrong s f e.kind → e.at ≡ o + 1 → FaultIn (field s next) bs o e
  later : {s : Shape} {next : Item → Form} {bs : List ℕ} {o : ℕ} {e : Fault} (f more : List ℕ) → Next bs f more → (i : Item) → StandsFor s f i → FaultIn (next i) more (o + 1 + length f) e → FaultIn (field s next) bs o e
