-- What one field that was read says of the line.
use Rattle.std.proofs.Common.{inl, inr, ◌≡◌, ℕ, ◌+◌, ◌-◌, List, [], ◌∷◌, ◌++◌, length, get_or, take, drop, Ok, Err, decimal, Result, sym, refl, ap, ◌∙◌, subst, append-nil, arith}
use Rattle.std.proofs.lemmas.Bool.Decides.{nat_tests}
use Rattle.protocol.specs.declared.message.Access.{Access}
use Rattle.protocol.specs.declared.message.Access.TheVariants.{Read, Write}
use Rattle.std.proofs.lemmas.List.{drop_more}
use Rattle.fields.specs.declared.fault.Fault.{Fault}
use Rattle.fields.specs.declared.fault.FaultKind.{FaultKind}
use Rattle.fields.specs.declared.fault.FaultKind.TheVariants.{Count, Form as BadForm, Range}
use Rattle.fields.specs.declared.reader.Reader.{Reader}
use Rattle.fields.specs.declared.token.Token.{Token}
use Rattle.fields.specs.declared.token.TokenKind.{TokenKind}
use Rattle.fields.specs.declared.token.TokenKind.TheVariants.{Letter, Number, Bad}
use Rattle.fields.specs.Cuts.{Closed, Ends, Next}
use Rattle.fields.specs.Faults.{Wrong, no_number, out_of_range, no_access, missing, wrong}
use Rattle.fields.specs.Forms.{letter, Item, spelt, Shape, range, access, InRange, Meets, one}
use Rattle.fields.specs.Numerals.{number}
use Rattle.fields.specs.Readers.{rest, Passed, Takes, took, none_left, amiss, Went, offset_of, FaultAt, Reading, access_letter}
use Rattle.fields.specs.Tokens.{Says, number_within, access_named}
use Rattle.fields.proofs.Digits.{decimal_number, no_digit_alone}
use Rattle.fields.proofs.Slices.{FieldEnds, cut, length_cut, ends_drop}

-- a reader's line is closed, and a field ends where the reader stands
pub closed_of : (p : Reader) → Closed p.line.now
closed_of p = record { some = omega (arith, p.within); last = p.last; only = p.only }

pub ends_rest : (p : Reader) → Ends (rest p)
ends_rest p = ends_drop p.line.now p.at p.within p.mark

pub passed : (p q : Reader) (t : Token) → q.line.now ≡ p.line.now → (get_or p.line.now p.at 0 ≡ 10 → ⊥) → FieldEnds p.line.now p.at q.at → t.bytes.now ≡ take (q.at - (p.at + 1)) (drop (p.at + 1) p.line.now) → t.at ≡ p.at + 1 → Passed p q t
passed p q t same no_feed h e at =
    let line = p.line.now in
    let next = cut line p.at q.at p.within p.mark (closed_of p) no_feed h in
    let on = length_cut line p.at q.at p.within p.mark (closed_of p) no_feed h in
    record {
      same_line = same;
      next = subst (λ l. Next (rest p) t.bytes.now (drop q.at l)) (sym same) (subst (λ f. Next (rest p) f (drop q.at line)) (sym e) next);
      offset = at;
      on = on ∙ ap (λ f. p.at + 1 + length f) (sym e);
    }

-- what a field is read as, and what one that is not taken is wrong with
pub right_number : (lo hi n : ℕ) (f : List ℕ) (kind : TokenKind) → Says f kind → Ok n ≡ number_within lo hi kind → (decimal n ≡ f) × InRange lo hi n
right_number lo hi n f (Number m) says e =
    let fit : InRange lo hi n = (grind (arith, nat_tests), grind (arith, nat_tests), grind (arith, nat_tests)) in
    let z : number f ≡ n = grind (arith, nat_tests) in
    (ap decimal (sym z) ∙ decimal_number f says.0 (omega (arith, fit.2)), fit)
right_number lo hi n f (Letter b) says e = cc
right_number lo hi n f Bad says e = cc

pub wrong_number : (lo hi : ℕ) (f : List ℕ) (kind : TokenKind) (k : FaultKind) → Says f kind → Err k ≡ number_within lo hi kind → Wrong (range lo hi) f k
wrong_number lo hi f (Number m) k says e =
    let z : Range ≡ k = grind (arith, nat_tests) in
    subst (λ x. Wrong (range lo hi) f x) z (out_of_range says.0 (λ (h : InRange lo hi (number f)). grind (arith, nat_tests)))
wrong_number lo hi f (Letter b) k says e = let z : BadForm ≡ k = cc in subst (λ x. Wrong (range lo hi) f x) z (no_number says.1)
wrong_number lo hi f Bad k says e = let z : BadForm ≡ k = cc in subst (λ x. Wrong (range lo hi) f x) z (no_number says.0)

pub right_access : (a : Access) (f : List ℕ) (kind : TokenKind) → Says f kind → Ok a ≡ access_named kind → (access_letter a ∷ [] ≡ f) × Meets access (letter (access_letter a))
right_access Read f (Letter b) says e = (grind (arith, nat_tests), inl refl)
right_access Write f (Letter b) says e = (grind (arith, nat_tests), inr refl)
right_access a f (Number m) says e = cc
right_access a f Bad says e = cc

pub wrong_access : (f : List ℕ) (kind : TokenKind) (k : FaultKind) → Says f kind → Err k ≡ access_named kind → Wrong access f k
wrong_access f (Letter b) k says e =
    let z : BadForm ≡ k = grind (arith, nat_tests) in
    subst (λ x. Wrong access f x) z (no_access (λ g. grind (arith, nat_tests)) (λ g. grind (arith, nat_tests)))
wrong_access f (Number m) k says e = let z : BadForm ≡ k = cc in subst (λ x. Wrong access f x) z (no_access (λ g. no_digit_alone f 114 says.0 g (omega arith)) (λ g. no_digit_alone f 119 says.0 g (omega arith)))
wrong_access f Bad k says e = let z : BadForm ≡ k = cc in subst (λ x. Wrong access f x) z (no_access (says.1 114) (says.1 119))

-- a wrong field begins behind its tab
behind_tab : {s : Shape} {f : List ℕ} {k : FaultKind} → Wrong s f k → (at : ℕ) → offset_of k at ≡ at + 1
behind_tab (no_number n) at = refl
behind_tab (out_of_range n o) at = refl
behind_tab (no_access r w) at = refl

module _ (p q : Reader) where
  -- one field that is what it has to be
  pub went_one : (s : Shape) (i : Item) (t : Token) → Passed p q t → spelt i ≡ t.bytes.now → Meets s i → Went p q (one s) (i ∷ [])
  went_one s i t h e m = record {
    same_line = h.same_line;
    there = h.next.is ∙ ap (λ l. 9 ∷ (l ++ rest q)) (sym e ∙ sym (append-nil (spelt i)));
    on = omega (arith, h.on, ap length e, ap length (append-nil (spelt i)));
    fit = (m, tt);
  }

  -- a field that is wrong, which the reader does not pass
  pub wrong_at : (s : Shape) (t : Token) (k : FaultKind) → Passed p q t → Wrong s t.bytes.now k → FaultAt p p (one s) (record { kind = k; at = p.at + 1 })
  wrong_at s t k h w = record { there = wrong t.bytes.now (rest q) h.next w refl; same_line = refl; in_front = sym (behind_tab w p.at) }

-- the line feed comes where a field has to be
missing_at : (p : Reader) (s : Shape) → get_or p.line.now p.at 0 ≡ 10 → FaultAt p p (one s) (record { kind = Count; at = p.at })
missing_at p s h = record { there = missing (ap (λ l. get_or l 0 0) (drop_more p.line.now p.at 0 p.within) ∙ h) refl refl; same_line = refl; in_front = refl }

-- one field, of which `told` tells the value whose item it is, or what is wrong with it
pub read_one : {X : Type 0} (s : Shape) (item : X → Item) (told : Token → Result X FaultKind → Type 0) (p q : Reader) (r : Result X Fault) → Takes told p q r → ((t : Token) (x : X) → told t (Ok x) → (spelt (item x) ≡ t.bytes.now) × Meets s (item x)) → ((t : Token) (k : FaultKind) → told t (Err k) → Wrong s t.bytes.now k) → Reading (one s) (λ x. item x ∷ []) p q r
read_one s item told p q _ (took {x = x} t h a) right bad = let f = right t x a in went_one p q s (item x) t h f.0 f.1
read_one s item told p _ _ (none_left h) right bad = missing_at p s h
read_one s item told p _ _ (amiss {k} t n h a) right bad = wrong_at p n s t k h (bad t k a)
