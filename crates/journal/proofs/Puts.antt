-- The latest record of each register: with no entry, after one entry more, and as a search from the newest entry on finds it.
use Rattle.std.proofs.Common.{Bor, Bool, Option, reverse, ◌||◌, ◌≡◌, ℕ, ◌<◌, ◌≤◌, true, false, cond, eqb, List, [], ◌∷◌, ◌++◌, length, get_or, set, replicate, Some, None, vec_items, sym, refl, ap, ◌∙◌, arith}
use Rattle.std.specs.List.{slice_get, list_any, find}
use Rattle.std.specs.Option.{option_map, option_map_or, option_or}
use Rattle.std.proofs.lemmas.Grind.{common_steps}
use Rattle.std.proofs.lemmas.List.FromFn.{length-map-range_with_len, get_or-map-range_with_len, fill_by_all}
use Rattle.std.proofs.lemmas.List.{reverse-append, length-set, length-replicate, get_or-replicate}
use Rattle.std.proofs.lemmas.List.Folds.{find-append}
use Rattle.std.proofs.lemmas.Option.{slice_get-get_or, slice_get_past}
use Rattle.std.proofs.lemmas.Bool.Decides.{nat_tests}
use Rattle.protocol.specs.declared.record.Record.{Record}
use Rattle.protocol.specs.declared.store.Entry.{Entry}
use Rattle.journal.specs.declared.journal.JournalStore.{JournalStore}
use Rattle.journal.specs.Journals.{latest, puts_of, records_after, journal_records, JournalPuts}

length_records : {V : Type 0} (n : ℕ) (r : Record V) (es : List (Entry V)) → length (records_after n r es) ≡ n
length_records n r es = length-map-range_with_len (latest r es) 0 n

get_or-records : {V : Type 0} (n : ℕ) (r : Record V) (es : List (Entry V)) (q : ℕ) (d : Record V) → q < n → get_or (records_after n r es) q d ≡ latest r es q
get_or-records n r es q d h = get_or-map-range_with_len (latest r es) 0 n q q d h (omega arith)

-- a journal has a record in the place of each register, and none past the last register
module _ {V : Type 0} (s : JournalStore V) (q : ℕ) where
  pub records_at : q < s.registers → slice_get (journal_records s) q ≡ Some (latest s.fresh (vec_items s.entries) q)
  records_at h =
      let es = vec_items s.entries in
      let l = length_records s.registers s.fresh es in
      slice_get-get_or (journal_records s) q s.fresh (omega arith) ∙ ap Some (get_or-records s.registers s.fresh es q s.fresh h)

  pub records_past : s.registers ≤ q → slice_get (journal_records s) q ≡ None
  records_past h =
      let l = length_records s.registers s.fresh (vec_items s.entries) in
      slice_get_past (journal_records s) q (omega arith)

-- with no entry every record is the fresh one
pub records_none : {V : Type 0} (n : ℕ) (r : Record V) → records_after n r [] ≡ replicate n r
records_none n r = sym (fill_by_all (latest r []) (replicate n r) n r (length-replicate n r) (λ k h. get_or-replicate n k r r h))

latest_push : {V : Type 0} (r : Record V) (es : List (Entry V)) (e : Entry V) (q : ℕ) → latest r (es ++ e ∷ []) q ≡ cond (eqb e.register q) e.«record» (latest r es q)
latest_push r [] e q = refl
latest_push r (x ∷ es) e q = latest_push (cond (eqb x.register q) x.«record» r) es e q

-- one entry more replaces that register's record and no other
module _ {V : Type 0} (n : ℕ) (r : Record V) (es : List (Entry V)) (e : Entry V) (low : e.register < n) where
  place : (k : ℕ) → k < n → get_or (set (records_after n r es) e.register e.«record») k r ≡ latest r (es ++ e ∷ []) k
  place k h =
      let p = latest_push r es e k in
      let l = length_records n r es in
      let w = get_or-records n r es k r h in
      grind (arith, common_steps, nat_tests)

  pub records_push : records_after n r (es ++ e ∷ []) ≡ set (records_after n r es) e.register e.«record»
  records_push =
      let a = length_records n r es in
      let l = length-set (records_after n r es) e.register e.«record» in
      sym (fill_by_all (latest r (es ++ e ∷ [])) _ n r (l ∙ a) place)

-- a put replaces that register's record and no other
pub records_put : {V : Type 0} (before : JournalStore V) (q : ℕ) (new : Record V) (after : JournalStore V) → q < before.registers → JournalPuts before q new after → journal_records after ≡ set (journal_records before) q new
records_put {V} before q new after low p =
    let e : Entry V = record { register = q; «record» = new } in
    let pushed = records_push before.registers before.fresh (vec_items before.entries) e low in
    cc

-- some entry is of a register, in the library's word
pub puts_any : {V : Type 0} (es : List (Entry V)) (q : ℕ) → puts_of es q ≡ list_any (λ e. eqb e.register q) es
puts_any [] q = refl
puts_any (e ∷ es) q = ap (λ b. eqb e.register q || b) (puts_any es q)

-- a search from the newest entry on finds the latest record of a register
searched : {V : Type 0} (r : Record V) (es : List (Entry V)) (q : ℕ) → option_map_or (λ e. e.«record») (find (λ e. eqb e.register q) (reverse es)) r ≡ latest r es q
searched r [] q = refl
searched {V} r (x ∷ es) q =
    let test = λ (e : Entry V). eqb e.register q in
    rw (reverse-append (x ∷ []) es, find-append test (reverse es) (x ∷ [])) (or_last (find test (reverse es)) (test x) ∙ searched (cond (test x) x.«record» r) es q)
  where
    or_last : (o : Option (Entry V)) (b : Bool) → option_map_or (λ e. e.«record») (option_or o (cond b (Some x) None)) r ≡ option_map_or (λ e. e.«record») o (cond b x.«record» r)
    or_last (Some e) b = refl
    or_last None true = refl
    or_last None false = refl

pub latest_found : {V : Type 0} (r : Record V) (es : List (Entry V)) (q : ℕ) (o : Option (Bor (Entry V))) → option_map (λ e. e.now) o ≡ find (λ e. eqb e.register q) (reverse es) → option_map_or (λ e. e.now.«record») o r ≡ latest r es q
latest_found {V} r es q o f = read o ∙ ap (λ p. option_map_or (λ e. e.«record») p r) f ∙ searched r es q
  where
    read : (o : Option (Bor (Entry V))) → option_map_or (λ e. e.now.«record») o r ≡ option_map_or (λ e. e.«record») (option_map (λ e. e.now) o) r
    read None = refl
    read (Some e) = refl
