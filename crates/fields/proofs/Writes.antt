-- Texts written one behind another.
use Rattle.std.proofs.Common.{◌≡◌, ℕ, zero, suc, ◌+◌, ◌<◌, ◌≤◌, List, [], ◌∷◌, ◌++◌, length, get_or, take, set, sym, refl, ap, ◌∙◌, subst, append_assoc, append-nil, arith, length-append, length-take, take_all}
use Rattle.std.proofs.lemmas.List.{take_more, take_more_set, take_at}
use Rattle.fields.specs.declared.buffer.Buffer.{Buffer}
use Rattle.fields.specs.Buffers.{content, Wrote, Put}
use Rattle.fields.specs.Forms.{Item, spelt, written}

take_join : (n : ℕ) (xs ys : List ℕ) → take n (take n xs ++ ys) ≡ take n (xs ++ ys)
take_join zero xs ys = refl
take_join (suc n) [] ys = refl
take_join (suc n) (x ∷ xs) ys = ap (λ l. x ∷ l) (take_join n xs ys)

pub wrote_join : (t s : List ℕ) (p q z : Buffer) → Wrote t p q → Wrote s q z → Wrote (t ++ s) p z
wrote_join t s p q z g h = record {
  counted = omega (arith, g.counted, h.counted, length-append t s);
  kept = h.kept ∙ ap (λ l. take 1024 (l ++ s)) g.kept ∙ take_join 1024 (content p ++ t) s ∙ ap (take 1024) (append_assoc (content p) t s);
}

-- nothing is written
pub wrote_none : (b : Buffer) → Wrote [] b b
wrote_none b =
    let within = b.within in
    let whole = b.whole in
    record { counted = omega arith; kept = sym (ap (take 1024) (append-nil (content b)) ∙ take_all 1024 (content b) (omega (arith, length-take b.count b.bytes))) }

-- one byte more of a text
pub wrote_more : (t : List ℕ) (i b : ℕ) (p q z : Buffer) → i < length t → b ≡ get_or t i 0 → Wrote (take i t) p q → Wrote (b ∷ []) q z → Wrote (take (i + 1) t) p z
wrote_more t i b p q z l e g h =
    subst (λ s. Wrote s p z) (ap (λ x. take i t ++ (x ∷ [])) e ∙ sym (take_more t i 0 l)) (wrote_join (take i t) (b ∷ []) p q z g h)

-- a byte that is kept
pub byte_kept : (bs : List ℕ) (n b : ℕ) → length bs ≡ 1024 → n < 1024 → take (n + 1) (set bs n b) ≡ take 1024 (take n bs ++ (b ∷ []))
byte_kept bs n b w h = grind (arith, take_more_set bs n b, take_all 1024 (take n bs ++ (b ∷ [])), length-append (take n bs) (b ∷ []), length-take n bs)

-- and one past the longest line
pub byte_lost : (bs : List ℕ) (n b : ℕ) → length bs ≡ 1024 → 1024 ≤ n → take 1025 bs ≡ take 1024 (take n bs ++ (b ∷ []))
byte_lost bs n b w h = grind (arith, take_all 1025 bs, take_all n bs, take_at bs (b ∷ []) 1024)

pub written_append : (is js : List Item) → written (is ++ js) ≡ written is ++ written js
written_append [] js = refl
written_append (i ∷ is) js = ap (λ l. 9 ∷ (spelt i ++ l)) (written_append is js) ∙ ap (λ l. 9 ∷ l) (sym (append_assoc (spelt i) (written is) (written js)))

-- items behind items
pub put_join : (is js : List Item) (p q z : Buffer) → Put is p q → Put js q z → Put (is ++ js) p z
put_join is js p q z g h = record { wrote = subst (λ t. Wrote t p z) (sym (written_append is js)) (wrote_join (written is) (written js) p q z g.wrote h.wrote) }

-- one item, behind its tab
pub put_one : (i : Item) (p q z : Buffer) → Wrote (9 ∷ []) p q → Wrote (spelt i) q z → Put (i ∷ []) p z
put_one i p q z g h = record { wrote = subst (λ t. Wrote (9 ∷ t) p z) (sym (append-nil (spelt i))) (wrote_join (9 ∷ []) (spelt i) p q z g h) }
