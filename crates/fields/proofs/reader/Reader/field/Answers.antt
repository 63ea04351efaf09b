use Rattle.std.proofs.Common.{◌+◌, ◌≡◌, IsErrAnd, Ok, Err, Result, sym, ap, ◌∙◌, subst, rules}
use Rattle.std.specs.Result.{MatchResult}
use Rattle.std.proofs.lemmas.Result.{err_from_is_err_and}
use Rattle.fields.specs.declared.fault.Fault.{Fault}
use Rattle.fields.specs.declared.fault.FaultKind.{FaultKind}
use Rattle.fields.specs.declared.fault.FaultKind.TheVariants.{Count}
use Rattle.fields.specs.declared.reader.Reader.{Reader}
use Rattle.fields.specs.declared.token.Token.{Token}
use Rattle.fields.specs.Readers.{Passed, Takes, took, none_left, amiss}
use Rattle.fields.proofs.reader.Reader.field.Goals as goal

-- m is r, with a fault made of what was wrong
module _ {X : Type 0} (made : FaultKind → Fault → Type 0) where
  mapped_ok : (r : Result X FaultKind) (m : Result X Fault) (x : X) → MatchResult r (λ y. m ≡ Ok y) (λ k. IsErrAnd m (made k)) → m ≡ Ok x → r ≡ Ok x
  mapped_ok (Ok y) m x h e = cc
  mapped_ok (Err k) m x h e = absurd (subst (λ z. IsErrAnd z (made k)) e h)

  mapped_err : (told : Token → Result X FaultKind → Type 0) (p q : Reader) (t : Token) (r : Result X FaultKind) (m : Result X Fault) (e : Fault) → Passed p q t → ((k : FaultKind) → made k e → e ≡ record { kind = k; at = t.at }) → told t r → MatchResult r (λ x. m ≡ Ok x) (λ k. IsErrAnd m (made k)) → m ≡ Err e → Takes told p p (Err e)
  mapped_err told p q t (Ok x) m e h f a b c = cc
  mapped_err told p q t (Err k) m e h f a b c =
      let is = f k (subst (λ z. IsErrAnd z (made k)) c b) in
      let at : ◌≡◌ {A = Fault} (record { kind = k; at = p.at + 1 }) e = ap (λ n. record { kind = k; at = n }) (sym h.offset) ∙ sym is in
      subst (λ y. Takes told p p (Err y)) at (amiss t q h a)

pub returns-in_err-token : goal.returns-in_err-token
returns-in_err-token g c =
    let p = err_from_is_err_and c.from_residual.result c.from_residual.ensures.1 in
    let e : c.in_err-token.field-0.0 ≡ record { kind = Count; at = c.args.self.now.at } = search rules in
    rw (p.1, p.2, e) (none_left (search rules))

pub returns-in_err-value : goal.returns-in_err-value
returns-in_err-value g c =
    let p = err_from_is_err_and c.from_residual-in_err-value.result c.from_residual-in_err-value.ensures.1 in
    rw (p.1, p.2)
    (mapped_err _ (goal.F-post g c.args.read) c.args.self.now c.next.new.self c.in_ok-token.token c.read.result c.map_err.result _ (search rules) (λ k h. search rules) c.read.ensures c.map_err.ensures.cases c.in_err-value.was)

pub returns : goal.returns
returns g c =
    let e = mapped_ok _ c.read.result c.map_err.result c.in_ok-value.value c.map_err.ensures.cases c.in_ok-value.was in
    took c.in_ok-token.token (search rules) (rw e at c.read.ensures)
