-- Two sessions, tables or writers are the same where their numbers are: a range has one proof.
use Rattle.std.proofs.Common.{◌≡◌, ℕ, ◌^◌, List, length, set, Ok, Err, refl, ap, ◌∙◌}
use mathlib.Core.HLevel.{is_prop→PathP}
use native.Mathlib.Nat.{ℕ_set}
use Rattle.protocol.specs.Ranges.{Within, both, within?}
use Rattle.protocol.proofs.Made.{is_made, not_made}
use Rattle.protocol.proofs.Same.{from_path, within_path}
use Rattle.once.specs.declared.layer.Session.{Session}
use Rattle.once.specs.declared.layer.Sessions.{Sessions}
use Rattle.once.specs.declared.layer.Writer.{Writer}
use Rattle.once.specs.Layers.{writer_from, writer_of}

pub same_session : (a b : Session) → a.number ≡ b.number → a.answer ≡ b.answer → a ≡ b
same_session a b p q = λ i. record {
  number = p i;
  answer = q i;
  number_within = within_path p (2 ^ 40) a.number_within b.number_within i;
}

pub same_sessions : (a b : Sessions) → a.table ≡ b.table → a ≡ b
same_sessions a b p = λ i. record { table = p i; whole = is_prop→PathP (λ j. length (p j) ≡ 15) (λ j. ℕ_set (length (p j)) 15) a.whole b.whole i }

-- one entry replaced, by the same numbers in the same place
pub same_entry : (t : List Session) (i j : ℕ) (a b : Session) → i ≡ j → a.number ≡ b.number → a.answer ≡ b.answer → set t i a ≡ set t j b
same_entry t i j a b p q r = ap (λ k. set t k a) p ∙ ap (set t j) (same_session a b q r)

same_writer : (v w : Writer) → v.hub ≡ w.hub → v.number ≡ w.number → v ≡ w
same_writer v w p q = λ i. record {
  hub = p i;
  number = q i;
  hub_from = from_path p 1 v.hub_from w.hub_from i;
  hub_within = within_path p 15 v.hub_within w.hub_within i;
  number_from = from_path q 1 v.number_from w.number_from i;
  number_within = within_path q (2 ^ 40) v.number_within w.number_within i;
}

pub is_writer : (w : Writer) → Ok w ≡ writer_of w.hub w.number
unfolding writer_of
is_writer w =
    is_made (writer_from w.hub w.number) w ((w.hub_from, w.hub_within), (w.number_from, w.number_within)) (λ r. same_writer w _ refl refl)
    (both (within? 1 15 w.hub) (within? 1 (2 ^ 40) w.number))

pub no_writer : (hub number : ℕ) → (Within 1 15 hub → Within 1 (2 ^ 40) number → ⊥) → Err (record {}) ≡ writer_of hub number
unfolding writer_of
no_writer hub number out = not_made (writer_from hub number) (λ r. out r.0 r.1) (both (within? 1 15 hub) (within? 1 (2 ^ 40) number))
