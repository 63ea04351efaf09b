-- Values in a row: their forms, their faults, and that a row has one reading.
use Rattle.std.specs.Prelude.{◌≡◌, ℕ, zero, suc, ◌+◌, ◌-◌, ◌<◌, ◌≤◌, List, [], ◌∷◌, ◌++◌, length, take, slice_index_or, slice_set, refl}
use Rattle.std.proofs.Common.{append_assoc, sym, ap, subst, ◌∙◌, add-zero, zero-add, arith}
use Rattle.std.proofs.Math.Path.{fun_ext}
use Rattle.std.specs.List.{flat_map}
use Rattle.std.proofs.lemmas.List.{take_all, take_more, take_more_set, flat_map_more}
use Rattle.fields.specs.declared.buffer.Buffer.{Buffer}
use Rattle.fields.specs.declared.fault.Fault.{Fault}
use Rattle.fields.specs.declared.reader.Reader.{Reader}
use Rattle.fields.specs.Buffers.{Put}
use Rattle.fields.specs.Forms.{Item, Form, end, field, Fit, ◌▷◌}
use Rattle.fields.specs.Readers.{Went, FaultAt}
use Rattle.fields.proofs.Joins.{fit_join, then_went, then_fault, first_fault}
use Rattle.fields.proofs.Writes.{wrote_none}
use Rattle.texts.specs.Rows.{times}

nothing_after : (form : Form) → form ▷ (λ is. end) ≡ form
nothing_after end = refl
nothing_after (field s next) = ap (field s) (fun_ext (λ i. nothing_after (next i)))

regrouped : (a b c : Form) → (a ▷ (λ is. b)) ▷ (λ is. c) ≡ a ▷ (λ is. b ▷ (λ is. c))
regrouped end b c = refl
regrouped (field s next) b c = ap (field s) (fun_ext (λ i. regrouped (next i) b c))

module _ (form : Form) where
  -- a row is its first part and then the rest
  times_add : (m n : ℕ) → times (m + n) form ≡ times m form ▷ (λ is. times n form)
  times_add zero n = ap (λ k. times k form) (zero-add n)
  times_add (suc m) n =
      let e : suc m + n ≡ suc (m + n) = omega arith in
      ap (λ k. times k form) e ∙ ap (λ f. form ▷ (λ is. f)) (times_add m n) ∙ sym (regrouped form (times m form) (times n form))

  times_one : times 1 form ≡ form
  times_one = nothing_after form

  -- none yet
  pub went_none : (p : Reader) → Went p p (times 0 form) []
  went_none p = record { same_line = refl; there = refl; on = sym (add-zero p.at); fit = tt }

  -- one value more
  pub went_more : (p q r : Reader) (n : ℕ) (is js : List Item) → Went p q (times n form) is → Went q r form js → Went p r (times (n + 1) form) (is ++ js)
  went_more p q r n is js g h =
      subst (λ f. Went p r f (is ++ js)) (sym (times_add n 1 ∙ ap (λ f. times n form ▷ (λ is. f)) times_one)) (then_went p q r (times n form) form is js g h)

  -- a value that is at fault, behind some that are not
  pub went_amiss : (p q r : Reader) (n all : ℕ) (is : List Item) (e : Fault) → n < all → Went p q (times n form) is → FaultAt q r form e → FaultAt p r (times all form) e
  went_amiss p q r n all is e l g h =
      let more : all ≡ n + suc (all - n - 1) = omega arith in
      subst (λ f. FaultAt p r f e) (sym (ap (λ k. times k form) more ∙ times_add n (suc (all - n - 1))))
      (then_fault p q r (times n form) (times (suc (all - n - 1)) form) is e g (first_fault q r form (times (all - n - 1) form) e h))

-- two rows of items that fit one form, and begin alike, are the same
fit_same : (form : Form) (is js t u : List Item) → Fit form is → Fit form js → is ++ t ≡ js ++ u → (is ≡ js) × (t ≡ u)
fit_same end [] [] t u a b e = (refl, e)
fit_same end [] (j ∷ js) t u a b e = absurd b
fit_same end (i ∷ is) js t u a b e = absurd a
fit_same (field s next) [] js t u a b e = absurd a
fit_same (field s next) (i ∷ is) [] t u a b e = absurd b
fit_same (field s next) (i ∷ is) (j ∷ js) t u a b e =
    let same : i ≡ j = cc in
    let more : is ++ t ≡ js ++ u = cc in
    let r = fit_same (next i) is js t u a.1 (subst (λ x. Fit (next x) js) (sym same) b.1) more in
    let x = r.0 in
    let y : i ∷ is ≡ j ∷ js = cc in
    (y, r.1)

module _ {X : Type 0} (form : Form) (items : X → List Item) (fits : (x : X) → Fit form (items x)) where
  pub row_fits : (xs : List X) (n : ℕ) → length xs ≡ n → Fit (times n form) (flat_map items xs)
  row_fits [] zero e = tt
  row_fits [] (suc n) e = absurd (omega arith)
  row_fits (x ∷ xs) zero e = absurd (omega arith)
  row_fits (x ∷ xs) (suc n) e = fit_join form (λ is. times n form) (items x) (flat_map items xs) (fits x) (row_fits xs n (omega arith))

  -- rows of one length that are written alike are the same
  pub row_same : ((x y : X) → items x ≡ items y → x ≡ y) → (xs ys : List X) (t u : List Item) → length xs ≡ length ys → flat_map items xs ++ t ≡ flat_map items ys ++ u → (xs ≡ ys) × (t ≡ u)
  row_same apart [] [] t u l e = (refl, e)
  row_same apart [] (y ∷ ys) t u l e = absurd (omega arith)
  row_same apart (x ∷ xs) [] t u l e = absurd (omega arith)
  row_same apart (x ∷ xs) (y ∷ ys) t u l e =
      let a = sym (append_assoc (items x) (flat_map items xs) t) ∙ e ∙ append_assoc (items y) (flat_map items ys) u in
      let r = fit_same form (items x) (items y) (flat_map items xs ++ t) (flat_map items ys ++ u) (fits x) (fits y) a in
      let q = row_same apart xs ys t u (omega arith) r.1 in
      let same = apart x y r.0 in
      let more = q.0 in
      let z : x ∷ xs ≡ y ∷ ys = cc in
      (z, q.1)

-- a row so far, and one value more
pub joined_take : {X : Type 0} (items : X → List Item) (xs : List X) (i : ℕ) (x : X) → i < length xs → x ≡ slice_index_or xs i x → flat_map items (take i xs) ++ items x ≡ flat_map items (take (i + 1) xs)
joined_take items xs i x l e = flat_map_more items [] (take i xs) x ∙ ap (flat_map items) (ap (λ y. take i xs ++ (y ∷ [])) e ∙ sym (take_more xs i x l))

pub joined_set : {X : Type 0} (items : X → List Item) (xs : List X) (i : ℕ) (x : X) → i < length xs → flat_map items (take i xs) ++ items x ≡ flat_map items (take (i + 1) (slice_set xs i x))
joined_set items xs i x l = flat_map_more items [] (take i xs) x ∙ ap (flat_map items) (sym (take_more_set xs i x l))

-- nothing is written
pub put_none : (b : Buffer) → Put [] b b
put_none b = record { wrote = wrote_none b }

-- a row so far is the row, where there are no more
pub joined_all : {X : Type 0} (items : X → List Item) (xs : List X) (i : ℕ) → length xs ≤ i → flat_map items (take i xs) ≡ flat_map items xs
joined_all items xs i l = ap (flat_map items) (take_all i xs l)

-- all values are read
pub went_all : {X : Type 0} (form : Form) (items : X → List Item) (p q : Reader) (row : List X) (i n : ℕ) → i ≡ n → length row ≡ n → Went p q (times i form) (flat_map items (take i row)) → Went p q (times n form) (flat_map items row)
went_all form items p q row i n e l g =
    subst (λ k. Went p q (times k form) (flat_map items row)) e (subst (Went p q (times i form)) (joined_all items row i (omega arith)) g)
