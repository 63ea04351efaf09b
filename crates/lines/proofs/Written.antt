-- Writing a message.
use Rattle.std.proofs.Common.{◌≡◌, ℕ, ◌≤◌, List, [], ◌∷◌, ◌++◌, length, take, drop, ap, ◌∙◌, subst, arith, take_all}
use Rattle.protocol.specs.declared.message.Message.{Message}
use Rattle.fields.specs.declared.buffer.Buffer.{Buffer}
use Rattle.fields.specs.Buffers.{content, Wrote, Put}
use Rattle.fields.specs.Forms.{Item, written}
use Rattle.fields.proofs.Writes.{wrote_join, put_join}
use Rattle.texts.specs.Parts.{head_items}
use Rattle.lines.specs.Letters.{letter, kind_of}
use Rattle.lines.specs.Lines.{Stands}
use Rattle.lines.specs.Messages.{body_items, message_items, line_of}

-- the letter, the fields and the line feed
pub wrote_line : {V : Type 0} (items : V → List Item) (m : Message V) (b : ℕ) (p q r s z : Buffer) → b ≡ letter (kind_of m.body) → Wrote (b ∷ []) p q → Put (head_items m.head) q r → Put (body_items items m.body) r s → Wrote (10 ∷ []) s z → Wrote (line_of items m) p z
wrote_line items m b p q r s z e first head more last =
    let is = message_items items m in
    subst (λ x. Wrote (x ∷ (written is ++ (10 ∷ []))) p z) e
    (wrote_join (b ∷ []) (written is ++ (10 ∷ [])) p q z first
    (wrote_join (written is) (10 ∷ []) q s z (put_join (head_items m.head) (body_items items m.body) q r s head more).wrote last))

-- a buffer that was empty holds just what was written, unless that is too long
pub whole_line : (l : List ℕ) (p q : Buffer) → p.count ≡ 0 → Wrote l p q → q.count ≤ 1024 → (length l ≡ q.count) × (content q ≡ l)
whole_line l p q empty w h =
    let n : length l ≡ q.count = omega (arith, w.counted) in
    (n, w.kept ∙ ap (λ k. take 1024 (take k p.bytes ++ l)) empty ∙ take_all 1024 l (omega arith))

-- the line in front of what was there
pub stands_first : (l before copied line : List ℕ) → copied ≡ line → line ≡ l → length line ≤ length before → length l ≤ 1024 → Stands l before (copied ++ drop (length line) before) (length line)
stands_first l before copied line same is fits short =
    let n = ap length is in record { count = n; fits = omega arith; short = short; is = ap (λ k. k ++ drop (length line) before) (same ∙ is) ∙ ap (λ k. l ++ drop k before) n }
