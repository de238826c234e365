-- Spec 10.13: where a session stands after some calls of `respond`, and further calls from there.
-- Assumes nothing.
use Rattle.std.specs.Prelude.{◌≡◌, Bool, true, false, List, [], ◌++◌, ℕ, zero, suc, ◌+◌, length, drop}
use Rattle.rules.specs.Samples.{Equipment}
use Rattle.rules.specs.Transcripts.{transcript}
use Rattle.program.specs.States.{is_done}
use Rattle.program.specs.Sessions.{Session, Delivery, opened, delivered, during, ending, input_of}
use Rattle.program.specs.declared.State.{State}

-- calls from `opened` on lead to the session k: the bytes that came before them are `input`, and no call was told that the input has
-- ended unless `ended`
pub record Reached (e : Equipment) (input : List ℕ) (ended : Bool) (k : Session) : Type 0 where
  pub deliveries : List Delivery
  pub sizes : List ℕ
  pub came : input_of deliveries ≡ input
  pub coming : ended ≡ false → sizes ≡ []
  pub is : ending e (during e opened deliveries) sizes ≡ k

-- such a session has this state and these bytes left, and has said so many bytes
pub record Standing (e : Equipment) (ended : Bool) (q : State) (left : List ℕ) (said : ℕ) : Type 0 where
  pub input : List ℕ
  pub text : List ℕ
  pub reached : Reached e input ended (record { state = q; left = left; text = text })
  pub all : said ≡ length text

-- of every session that stands
pub record StandingLaw (e : Equipment) : Type 0 where
  -- as many bytes came to it as it has taken and are left, so it cannot be one that has started anew since
  pub counts : (ended : Bool) (q : State) (left : List ℕ) (said : ℕ) (k : Standing e ended q left said) → length k.input ≡ q.taken + length left
  -- where all is done, it has said the transcript of its input
  pub done : (ended : Bool) (q : State) (left : List ℕ) (said : ℕ) (k : Standing e ended q left said) → is_done q ≡ true → k.text ≡ transcript e k.input
  -- in any case a beginning of it, and of the transcript of whatever could come where the input has not ended
  pub begins : (ended : Bool) (q : State) (left : List ℕ) (said : ℕ) (k : Standing e ended q left said) (more : List ℕ) → (ended ≡ true → more ≡ [])
      → transcript e (k.input ++ more) ≡ k.text ++ drop (length k.text) (transcript e (k.input ++ more))

-- ---- further calls

-- a call before which no bytes come
abbrev pub again : ℕ → Delivery
again size = record { bytes = []; size = size }

-- n such calls, one after the other, each with a buffer of this size
unfoldable pub called_again : Equipment → Bool → ℕ → ℕ → Session → Session
called_again e last size zero k = k
called_again e last size (suc n) k = delivered e last (called_again e last size n k) (again size)
