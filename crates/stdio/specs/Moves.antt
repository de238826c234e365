-- Which bytes reads and writes move, of a reader that states the bytes that it has left, and of a writer that states those that it holds.
-- Where one states none, nothing is said.
-- Assumes nothing.
use Rattle.std.specs.Prelude.{◌≡◌, Bool, true, false, List, ℕ, ◌<◌, take, Option}
use Rattle.std.specs.Io.KnownBytes.{Appends, Consumes, IsAtEnd}
use Rattle.stdio.specs.Counts.{read_failed}
use Rattle.stdio.specs.declared.Input.{Input}

-- a read took these bytes from a reader: the next ones that it had, and none where it failed. Where it went well and none came though some
-- were asked for, the reader has none left
pub record Came (input : Input) (old new : Option (List ℕ)) (bytes : List ℕ) : Type 0 where
  pub taken : Consumes old new bytes
  pub end : read_failed input ≡ false → input.bytes ≡ 0 → 0 < input.asked → IsAtEnd new

-- a text's bytes went to a writer from the first on: so many, and all of them where the writing went well
pub record Put (well : Bool) (old new : Option (List ℕ)) (text : List ℕ) : Type 0 where
  pub count : ℕ
  pub written : Appends old new (take count text)
  pub whole : well ≡ true → take count text ≡ text
