-- What a cleaning keeps: how it is gathered and written back, how much it is, and that it leaves every record as it was.
use Rattle.std.proofs.Common.{reverse, get_or, ◌≡◌, ℕ, ◌+◌, ◌-◌, ◌<◌, ◌≤◌, Bool, true, false, cond, eqb, List, [], ◌∷◌, map, length, All, drop, set, vec_items, sym, refl, ap, ◌∙◌, arith}
use mathlib.Core.Path.{fun_ext}
use Rattle.std.specs.List.{range_with_len, IsDistinct, AllByRecursion}
use Rattle.std.proofs.lemmas.List.{length-map, length-drop, length-set, drop-set, drop_more, length-reverse, get_or-reverse}
use Rattle.std.proofs.lemmas.List.Elements.{All-cons, All-head, All-tail, All-map, All-contains}
use Rattle.std.proofs.lemmas.Map.Steps.{length-le_from_distinct_below}
use Rattle.std.proofs.lemmas.Map.Views.{Contains-from_any}
use Rattle.std.proofs.lemmas.Bool.Decides.{nat_tests}
use Rattle.std.proofs.lemmas.Bool.{eqb-true, lt-ltb}
use Rattle.protocol.specs.declared.record.Record.{Record}
use Rattle.protocol.specs.declared.store.Entry.{Entry}
use Rattle.journal.specs.declared.journal.JournalStore.{JournalStore}
use Rattle.journal.specs.Journals.{puts_of, kept, latest, journal_records, journal_open, JournalCleans}

-- the latest entries are of the same registers as all entries
puts_kept : {V : Type 0} (es : List (Entry V)) (q : ℕ) → puts_of (kept es) q ≡ puts_of es q
puts_kept [] q = refl
puts_kept (e ∷ es) q = let ih = puts_kept es q in grind (arith, nat_tests)

-- what holds of each entry holds of the latest ones
pub kept_all : {V : Type 0} (P : Entry V → Type 0) (es : List (Entry V)) → All P es → All P (kept es)
kept_all P [] h = h
kept_all P (e ∷ es) h = by (puts_of es e.register) (kept_all P es (All-tail P e es h))
  where
    by : (b : Bool) → All P (kept es) → All P (cond b (kept es) (e ∷ kept es))
    by true ih = ih
    by false ih = All-cons P e (kept es) (All-head P e es h) ih

abbrev registers_of : {V : Type 0} → List (Entry V) → List ℕ
registers_of es = map (λ e. e.register) es

apart_of : {V : Type 0} (a : ℕ) (es : List (Entry V)) → puts_of es a ≡ false → AllByRecursion (λ b. eqb a b ≡ false) (registers_of es)
apart_of a [] p = tt
apart_of a (e ∷ es) p = (grind (arith, nat_tests), apart_of a es (grind (arith, nat_tests)))

-- no two of the latest entries are of one register
kept_distinct : {V : Type 0} (es : List (Entry V)) → IsDistinct eqb (registers_of (kept es))
unfolding IsDistinct
kept_distinct [] = tt
kept_distinct (e ∷ es) = by (puts_of es e.register) refl (kept_distinct es)
  where
    by : (b : Bool) → puts_of es e.register ≡ b → IsDistinct eqb (registers_of (kept es)) → IsDistinct eqb (registers_of (cond b (kept es) (e ∷ kept es)))
    by true p ih = ih
    by false p ih = (apart_of e.register (kept es) (puts_kept es e.register ∙ p), ih)

-- so they are no more than there are registers
pub kept_fits : {V : Type 0} (es : List (Entry V)) (n : ℕ) → All (λ e. e.register < n) es → length (kept es) ≤ n
kept_fits es n h =
    let ks = registers_of (kept es) in
    let low = All-map (λ k. k < n) (λ e. e.register) (kept es) (kept_all (λ e. e.register < n) es h) in
    let fits = length-le_from_distinct_below ks n (kept_distinct es) (λ q p. All-contains (λ k. k < n) ks q low (Contains-from_any (eqb-true) q ks p)) in
    rw length-map at fits

-- one entry back: from the newest on, entries have been met
pub one_back : {V : Type 0} (es : List (Entry V)) (k m : ℕ) (x : Entry V) → m ≡ k + 1 → k < length (reverse es) → x ≡ get_or (reverse es) k x → drop (length es - m) es ≡ x ∷ drop (length es - k) es
one_back es k m x e h at =
    let l = length-reverse es in
    let i = length es - 1 - k in
    let a : length es - m ≡ i = omega arith in
    let b : i + 1 ≡ length es - k = omega arith in
    let read = get_or-reverse es k x (omega arith) in
    let more = drop_more es i x (omega arith) in
    cc

-- the latest of some entries stand from p on at the end of `own`
pub record Gathered {V : Type 0} (es own : List (Entry V)) (p : ℕ) : Type 0 where
  pub within : p ≤ length own
  pub latest_ones : drop p own ≡ kept es

-- the entry before these is met
module _ {V : Type 0} {es own : List (Entry V)} {p : ℕ} (got : Gathered es own p) (x : Entry V) where
  told : (b : Bool) → puts_of (drop p own) x.register ≡ b → puts_of es x.register ≡ b
  told b h = sym (puts_kept es x.register) ∙ ap (λ l. puts_of l x.register) (sym got.latest_ones) ∙ h

  pub gathered_old : puts_of (drop p own) x.register ≡ true → Gathered (x ∷ es) own p
  gathered_old h = record { within = got.within; latest_ones = rw (told true h) got.latest_ones }

  kept_new : puts_of (drop p own) x.register ≡ false → x ∷ drop p own ≡ kept (x ∷ es)
  kept_new h = rw (told false h) (ap (λ l. x ∷ l) got.latest_ones)

  pub gathered_room : All (λ e. e.register < length own) (x ∷ es) → puts_of (drop p own) x.register ≡ false → 1 ≤ p
  gathered_room low h =
      let l = got.within in
      let fits = kept_fits (x ∷ es) (length own) low in
      let a = ap length (kept_new h) in
      let b = length-drop p own in
      omega arith

  pub gathered_new : 1 ≤ p → puts_of (drop p own) x.register ≡ false → Gathered (x ∷ es) (set own (p - 1) x) (p - 1)
  gathered_new q h =
      let l = got.within in
      let s = length-set own (p - 1) x in
      let a : (p - 1) + 1 ≡ p = omega arith in
      let w = drop-set own (p - 1) x (omega arith) in
      let k = kept_new h in
      record { within = omega arith; latest_ones = cc }

-- where a register has an entry, what it had before does not matter
latest_any : {V : Type 0} (es : List (Entry V)) (q : ℕ) → puts_of es q ≡ true → (r s : Record V) → latest r es q ≡ latest s es q
latest_any [] q p r s = cc
latest_any (e ∷ es) q p r s = let ih = λ (h : puts_of es q ≡ true). latest_any es q h r s in grind (arith, nat_tests)

latest_old : {V : Type 0} (e : Entry V) (es : List (Entry V)) (q : ℕ) (r : Record V) → puts_of es e.register ≡ true → latest r es q ≡ latest r (e ∷ es) q
latest_old e es q r p = let any = λ (h : puts_of es q ≡ true). latest_any es q h r e.«record» in grind (arith, nat_tests)

-- the latest entries leave every record as it was
latest_kept : {V : Type 0} (es : List (Entry V)) (q : ℕ) (r : Record V) → latest r (kept es) q ≡ latest r es q
latest_kept [] q r = refl
latest_kept {V} (e ∷ es) q r = by (puts_of es e.register) refl (latest_kept es q)
  where
    by : (b : Bool) → puts_of es e.register ≡ b → ((s : Record V) → latest s (kept es) q ≡ latest s es q) → latest r (cond b (kept es) (e ∷ kept es)) q ≡ latest r (e ∷ es) q
    by true p ih = ih r ∙ latest_old e es q r p
    by false p ih = ih (cond (eqb e.register q) e.«record» r)

-- so a cleaning changes no record, and leaves a place free
module _ {V : Type 0} (before after : JournalStore V) (c : JournalCleans before after) where
  pub records_cleaned : journal_records after ≡ journal_records before
  records_cleaned =
      let same = ap (λ f. map f (range_with_len 0 before.registers)) (fun_ext (λ q. latest_kept (vec_items before.entries) q before.fresh)) in
      cc

  pub open_cleaned : journal_open after ≡ true
  open_cleaned =
      let z = before.entries.ok.0 in
      let y = after.entries.ok.0 in
      let f = kept_fits (vec_items before.entries) before.registers before.known_registers in
      let l = ap length c.latest_entries_stay in
      lt-ltb _ _ (omega arith)
