-- The words of the lines of spec 10.4.
-- Assumes nothing.
use Rattle.std.specs.Prelude.{List, ℕ, get_or}
use Rattle.rules.specs.Text.{bytes}
use Rattle.rules.specs.Transcripts.{status_words}

-- the word of a status, none of an unknown one
unfoldable pub status_word : ℕ → List ℕ
status_word status = bytes (get_or status_words status "")
