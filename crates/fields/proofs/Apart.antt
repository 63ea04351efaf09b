-- A text has one reading: none where a fault is, and else one row of items.
use Rattle.std.proofs.Common.{◌≡◌, ℕ, ◌+◌, List, [], ◌∷◌, ◌++◌, length, get_or, sym, refl, ap, ◌∙◌, subst, ⊎_elim, append_assoc, arith}
use Rattle.fields.specs.declared.fault.Fault.{Fault}
use Rattle.fields.specs.declared.fault.FaultKind.{FaultKind}
use Rattle.fields.specs.Cuts.{Plain, Ends, Next}
use Rattle.fields.specs.Faults.{Wrong, no_number, out_of_range, no_access, FaultIn, missing, wrong, later}
use Rattle.fields.specs.Forms.{Item, num, letter, spelt, written, Shape, InRange, Meets, Form, end, field, Fit}
use Rattle.fields.specs.Numerals.{Numeral, number}
use Rattle.fields.proofs.Digits.{numeral_decimal}
use Rattle.fields.proofs.Joins.{meets_plain, item_same, ends_on}

-- a field ends at the first mark
pub prefix : (f g t u : List ℕ) → Plain f → Plain g → Ends t → Ends u → f ++ t ≡ g ++ u → (f ≡ g) × (t ≡ u)
prefix [] [] t u p q h k e = (refl, e)
prefix [] (b ∷ g) t u p q h k e = absurd (q.0 (subst Ends e h))
prefix (a ∷ f) [] t u p q h k e = absurd (p.0 (subst Ends (sym e) k))
prefix (a ∷ f) (b ∷ g) t u p q h k e =
    let r = prefix f g t u p.1 q.1 h k (cc) in
    let x = r.0 in (cc, r.1)

-- the first of the items that begin bs is its first field
first_item : (s : Shape) (i : Item) (is : List Item) (bs f t more : List ℕ) → Meets s i → Ends more → Next bs f t → bs ≡ written (i ∷ is) ++ more → (f ≡ spelt i) × (t ≡ written is ++ more)
first_item s i is bs f t more m ends n at =
    let x = n.is in
    let y = append_assoc (spelt i) (written is) more in
    let same : f ++ t ≡ spelt i ++ (written is ++ more) = cc in
    prefix f (spelt i) t (written is ++ more) n.plain (meets_plain s i m) n.ends (ends_on is more ends) same

pub items_same : (form : Form) (is js : List Item) (t u : List ℕ) → Fit form is → Fit form js → Ends t → Ends u → written is ++ t ≡ written js ++ u → (is ≡ js) × (t ≡ u)
items_same end [] [] t u a b h k e = (refl, e)
items_same end [] (j ∷ js) t u a b h k e = absurd b
items_same end (i ∷ is) js t u a b h k e = absurd a
items_same (field s next) [] js t u a b h k e = absurd a
items_same (field s next) (i ∷ is) [] t u a b h k e = absurd b
items_same (field s next) (i ∷ is) (j ∷ js) t u a b h k e =
    let n : Next (written (i ∷ is) ++ t) (spelt i) (written is ++ t) = record { is = ap (λ l. 9 ∷ l) (append_assoc (spelt i) (written is) t); plain = meets_plain s i a.0; ends = ends_on is t h } in
    let r = first_item s j js (written (i ∷ is) ++ t) (spelt i) (written is ++ t) u b.0 k n e in
    let z : i ≡ j = item_same s i j a.0 b.0 r.0 in
    let q = items_same (next i) is js t u a.1 (subst (λ x. Fit (next x) js) (sym z) b.1) h k r.1 in
    let w = q.0 in (cc, q.1)

wrong_meets : (s : Shape) (f : List ℕ) (k : FaultKind) → Wrong s f k → (i : Item) → f ≡ spelt i → Meets s i → ⊥
wrong_meets _ f k (no_number n) (num m) e a = n (subst Numeral (sym e) (numeral_decimal m a.2).0)
wrong_meets _ f k (no_number n) (letter m) e a = a
wrong_meets _ f k (out_of_range {lo} {hi} n o) (num m) e a = o (subst (InRange lo hi) (sym (ap number e ∙ (numeral_decimal m a.2).1)) a)
wrong_meets _ f k (out_of_range n o) (letter m) e a = a
wrong_meets _ f k (no_access p q) (num m) e a = a
wrong_meets _ f k (no_access p q) (letter m) e a = ⊎_elim (λ x. p (e ∙ ap (λ b. b ∷ []) x)) (λ x. q (e ∙ ap (λ b. b ∷ []) x)) a

-- where a fault is, no items of the form stand
pub excludes : (form : Form) (bs : List ℕ) (o : ℕ) (e : Fault) → FaultIn form bs o e → (is : List Item) (more : List ℕ) → Fit form is → Ends more → bs ≡ written is ++ more → ⊥
excludes _ bs o e (missing a k p) [] more fit ends at = fit
excludes _ bs o e (missing a k p) (i ∷ is) more fit ends at = let z = ap (λ l. get_or l 0 0) at in omega (arith, z, a)
excludes _ bs o e (wrong f t n w p) [] more fit ends at = fit
excludes _ bs o e (wrong {s} f t n w p) (i ∷ is) more fit ends at = wrong_meets s f e.kind w i (first_item s i is bs f t more fit.0 ends n at).0 fit.0
excludes _ bs o e (later f t n i st h) [] more fit ends at = fit
excludes _ bs o e (later {s} {next} f t n i st h) (j ∷ js) more fit ends at =
    let r = first_item s j js bs f t more fit.0 ends n at in
    let z = st.no_other j fit.0 r.0 in
    excludes (next i) t (o + 1 + length f) e h js more (subst (λ x. Fit (next x) js) z fit.1) ends r.1
