-- Spec 10.2: a sample line written out, the samples that can be, and what a line that is read must be.
-- Assumes nothing.
use Rattle.std.specs.Prelude.{◌≡◌, Bool, true, ◌&&◌, List, ◌∷◌, ◌++◌, map, ◌↔◌, ℕ, eqb, leb, pos, length}
use Rattle.rules.specs.Tests.{all}
use Rattle.rules.specs.Text.{feed}
use Rattle.rules.specs.Forms.{sample_form}
use Rattle.rules.specs.Samples.{Slice, Equipment}
use Rattle.rules.specs.Records.{turned_away, step_of}
use Rattle.rules.specs.Transcripts.{Line, ended, lines_in}
use Rattle.rules.specs.declared.Settings.{Settings}
use Rattle.rules.specs.declared.Board.{Board}
use Rattle.rules.specs.declared.Refusal.TheVariants.{Sample}
use Rattle.rules.specs.declared.Stepped.{Stepped}
use Rattle.formats.specs.Marks.{filled_in}

abbrev pub six_digits : ℕ → Bool
six_digits n = leb n 999999

-- seven numbers of at most six digits
abbrev pub writable : List ℕ → Bool
writable x = eqb (length x) 7 && all (map six_digits x)

unfoldable pub written_sample : List ℕ → List ℕ
written_sample x = filled_in sample_form (map pos x)

-- an ended line that is such a sample written out
pub record IsSampleLine (l : Line) : Type 0 where
  pub sample : Slice
  pub can : writable sample ≡ true
  pub text : l ≡ ended (written_sample sample)

-- ---- what is asked of answering a line, without a parser

-- by the equipment, the settings and the record: what is answered to a line, and the record after it
abbrev pub Answering : Type 0
Answering = Equipment → Settings → Board → Line → Stepped

-- a sample written out, its line ended, is answered as the sample is; and a line is refused with 8, no step being taken, exactly when it is
-- no such line (spec 11.1)
pub record AnswersSamples (answer : Answering) : Type 0 where
  pub steps : (e : Equipment) (st : Settings) (b : Board) (x : Slice) → writable x ≡ true → answer e st b (ended (written_sample x)) ≡ step_of e b st x
  pub refuses : (e : Equipment) (st : Settings) (b : Board) (l : Line) → (answer e st b l ≡ turned_away b Sample) ↔ (¬ IsSampleLine l)

-- ---- sample lines of a text

-- the sample written out, with its line feed, is the first line of a text that goes on with `after`
abbrev pub ReadsBack : Slice → List ℕ → Type 0
ReadsBack x after = lines_in (written_sample x ++ (feed ∷ after)) ≡ ended (written_sample x) ∷ lines_in after

-- a text begins with the sample written out and its line feed; `lines` are the lines of what follows
pub record BeginsWithSample (s : List ℕ) (x : Slice) (lines : List Line) : Type 0 where
  pub after : List ℕ
  pub text : s ≡ written_sample x ++ (feed ∷ after)
  pub others : lines ≡ lines_in after
