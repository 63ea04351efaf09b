-- A buffer that was empty is filled by one line.
use Rattle.std.proofs.Common.{◌≡◌, ℕ, ◌<◌, ◌≤◌, List, [], ◌∷◌, ◌++◌, length, decimal, Ok, Err, Result, sym, subst, arith, length-append}
use Rattle.std.proofs.lemmas.Fmt.{length-decimal-le}
use Rattle.std.specs.Result.{IsErrAnd}
use Rattle.protocol.specs.declared.refusal.Reason.{Reason}
use Rattle.fields.specs.declared.buffer.Buffer.{Buffer}
use Rattle.fields.specs.Buffers.{Wrote, Put}
use Rattle.fields.specs.Forms.{num, written}
use Rattle.fields.proofs.Writes.{wrote_join}
use Rattle.lines.proofs.Written.{whole_line}
use Rattle.answering.specs.Answers.{refusal_line, Filled}

pub filled : (l : List ℕ) (p q : Buffer) → p.count ≡ 0 → Wrote l p q → q.count ≤ 1024 → Filled l q
filled l p q empty w h = let r = whole_line l p q empty w h in record { holds = r.1; count = sym r.0; short = let e = r.0 in omega arith }

-- the letter X, the number and the line feed
pub filled_refusal : (n : ℕ) (p q r z : Buffer) → n < 256 → p.count ≡ 0 → Wrote (88 ∷ []) p q → Put (num n ∷ []) q r → Wrote (10 ∷ []) r z → Filled (refusal_line n) z
filled_refusal n p q r z small empty first number last =
    let line = wrote_join (88 ∷ []) (written (num n ∷ []) ++ (10 ∷ [])) p q z first (wrote_join (written (num n ∷ [])) (10 ∷ []) q r z number.wrote last) in
    let digits = length-decimal-le 3 n (omega arith) (omega arith) (omega arith) in
    let short : length (refusal_line n) ≤ 1024 = omega (arith, digits, length-append (decimal n) [], length-append (written (num n ∷ [])) (10 ∷ [])) in
    filled (refusal_line n) p z empty line (omega (arith, line.counted))

-- a refusal that goes up comes out with its reason
pub came_out : {M : Type 0} (P : Result M Reason → Type 0) (r : Result M Reason) (why : Reason) → IsErrAnd r (λ x. x ≡ why) → P (Err why) → P r
came_out P (Ok m) why e p = absurd e
came_out P (Err x) why e p = subst (λ y. P (Err y)) (sym e) p
