-- What lies between a tab and the next mark of a line.
use Rattle.std.proofs.Common.{◌≡◌, ℕ, ◌+◌, ◌-◌, ◌<◌, ◌≤◌, List, length, get_or, take, drop, sym, ap, ◌∙◌, subst, arith, length-drop, take-append-drop, length-take, get_or-drop, get_or-take, drop-drop}
use Rattle.std.proofs.ByRecursion.{All-from_get_or}
use Rattle.std.proofs.lemmas.List.{drop_more}
use Rattle.fields.specs.Cuts.{Mark, Closed, Plain, Ends, Next}

-- the field behind the tab at `from` ends at `to`
pub record FieldEnds (line : List ℕ) (from to : ℕ) : Type 0 where
  pub after : from + 1 ≤ to
  pub within : to ≤ length line
  pub plain : (i : ℕ) → from + 1 ≤ i → i < to → Mark (get_or line i 0) → ⊥
  pub stops : to < length line → Mark (get_or line to 0)

pub ends_drop : (line : List ℕ) (at : ℕ) → at < length line → Mark (get_or line at 0) → Ends (drop at line)
ends_drop line at l m = subst Ends (sym (drop_more line at 0 l)) m

-- a field is plain where no byte of it is a mark
pub plain_cut : (line : List ℕ) (from n : ℕ) → ((i : ℕ) → from ≤ i → i < from + n → Mark (get_or line i 0) → ⊥) → Plain (take n (drop from line))
plain_cut line from n none =
    All-from_get_or (λ b. Mark b → ⊥) _ 0
    (λ i l. let k : i < n = omega (arith, length-take n (drop from line)) in
    λ m. none (from + i) (omega arith) (omega arith) (subst Mark (get_or-take n (drop from line) i 0 k ∙ get_or-drop from line i 0) m))

-- the line has no mark up to `to` where what stands from `from` on has none so far
pub plain_up_to : (line : List ℕ) (from to : ℕ) → to ≤ length line → ((k : ℕ) → from + k < to → Mark (get_or (take (length line - from) (drop from line)) k 0) → ⊥) → (i : ℕ) → from ≤ i → i < to → Mark (get_or line i 0) → ⊥
plain_up_to line from to w none i lo hi m =
    let at : from + (i - from) ≡ i = omega arith in
    none (i - from) (omega arith)
    (subst Mark (sym (get_or-take (length line - from) (drop from line) (i - from) 0 (omega arith) ∙ get_or-drop from line (i - from) 0 ∙ ap (λ j. get_or line j 0) at)) m)

module _ (line : List ℕ) (from to : ℕ) (in_line : from < length line) (mark : Mark (get_or line from 0)) (closed : Closed line) (no_feed : get_or line from 0 ≡ 10 → ⊥) (h : FieldEnds line from to) where
  tab : get_or line from 0 ≡ 9
  tab = grind arith

  -- the tab is not the last byte
  early : from + 1 < length line
  early = grind (arith, closed.last)

  pub short : to < length line
  short = grind (arith, early, closed.last, h.within, h.plain)

  pub cut : Next (drop from line) (take (to - (from + 1)) (drop (from + 1) line)) (drop to line)
  cut =
      let n = to - (from + 1) in
      let e : from + 1 + n ≡ to = omega (arith, h.after) in
      record {
        is = grind (arith, tab, drop_more line from 0, take-append-drop n (drop (from + 1) line), drop-drop n (from + 1) line, e);
        plain = plain_cut line (from + 1) n (λ i lo hi. h.plain i lo (omega arith));
        ends = ends_drop line to short (h.stops short);
      }

  pub length_cut : to ≡ from + 1 + length (take (to - (from + 1)) (drop (from + 1) line))
  length_cut = omega (arith, length-take (to - (from + 1)) (drop (from + 1) line), length-drop (from + 1) line, h.after, h.within)
