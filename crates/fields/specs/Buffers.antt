-- What a buffer holds.
use Rattle.std.specs.Prelude.{◌≡◌, ℕ, ◌+◌, min, List, ◌++◌, length, take}
use Rattle.fields.specs.declared.buffer.Buffer.{Buffer}
use Rattle.fields.specs.Forms.{Item, written}

abbrev pub content : Buffer → List ℕ
content b = take b.count b.bytes

-- t is written behind what was there: the first 1,024 bytes are kept, and all are counted, up to 1,025
pub record Wrote (t : List ℕ) (before after : Buffer) : Type 0 where
  pub counted : after.count ≡ min (before.count + length t) 1025
  pub kept : content after ≡ take 1024 (content before ++ t)

-- these items are written behind what was there, each behind a tab
pub record Put (is : List Item) (before after : Buffer) : Type 0 where
  pub wrote : Wrote (written is) before after
