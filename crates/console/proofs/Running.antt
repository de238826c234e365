-- The loop of `run`: reads, the answers to what they bring, and what is left at the front.
-- Assumes nothing.
use mathlib.Core.Path.{◌≡◌, refl, sym, ap, ◌∙◌, subst}
use mathlib.Core.Bool.{Bool, true, false, false≢true}
use mathlib.Core.List.{List, [], ◌++◌, append-nil}
use mathlib.Core.Logic.{◌⊎◌, inl, inr}
use Prim.Native.Nat.{ℕ, zero, suc, ◌+◌, ◌*◌, ◌-◌, ◌≤◌, ◌<◌, min}
use native.Mathlib.Omega.{arith}
use borrow.Author.Tests.{ltb-true}
use lib.ListN.{length, take, drop, length-append, length-drop}
use lib.Seq.{length-take-le, take-add}
use Rattle.std.specs.Prelude.{Option, Some, None, is_none}
use Rattle.std.specs.Io.KnownBytes.{Appends, Consumes, IsAtEnd}
use Rattle.std.proofs.KnownBytes.{Consumes-nil, Consumes-trans}
use Rattle.rules.specs.Samples.{Equipment}
use Rattle.rules.specs.Text.{has_feed}
use Rattle.rules.specs.Transcripts.{input_end}
use Rattle.program.specs.States.{start}
use Rattle.program.specs.Responses.{longest}
use Rattle.program.specs.Sessions.{Session}
use Rattle.program.specs.Standing.{Reached, Standing}
use Rattle.program.specs.declared.State.{State}
use Rattle.program.proofs.Cuts.{drop-take}
use Rattle.program.proofs.Standing.{reached-opened, reached-came, reached-called, reached-transcript}
use Rattle.blocks.specs.Blocks.{AnswersBlock}
use Rattle.blocks.specs.declared.Answered.{Answered}
use Rattle.console.specs.Loop.{Runs}
use Rattle.console.proofs.Whole.{from-source}
use Rattle.stdio.specs.Counts.{clamp_len, unread, read_after, read_failed, Talks, Waits, unsaid, out_room}
use Rattle.stdio.specs.Moves.{Came, Put}
use Rattle.stdio.proofs.Moving.{put-none, put-on}
use Rattle.stdio.specs.declared.Input.{Input}
use Rattle.stdio.specs.declared.Handed.{Handed}

-- where the loop stands: before a read, or at the end; `from` and `to` are what reader and writer stated at the beginning, `from'` and `to'`
-- what they state now
pub record Turning (e : Equipment) (from to : Option (List ℕ)) (buf : List ℕ) (state : State) (have : ℕ) (from' to' : Option (List ℕ)) (input : Input)
    (handed : Handed) (going : Bool) : Type 0 where
  pub waits : going ≡ true → Waits e state (take have buf) handed input
  pub short : going ≡ true → have ≤ longest
  pub few : going ≡ true → handed.bytes + out_room * have ≤ 2 * out_room * (input_end - input.budget)
  pub came : (on : going ≡ true) → Consumes from from' (waits on).talks.stands.input
  pub put : (on : going ≡ true) → Put handed.put to to' (waits on).talks.stands.text
  pub ran : going ≡ false → Runs e buf from from' to to' (record { state = state; have = have; input = input; handed = handed })

no-feed : has_feed [] ≡ false
unfolding has_feed
no-feed = refl

pub turning-first : (e : Equipment) (from to : Option (List ℕ)) (buf : List ℕ) (q : State) (i : Input) (h : Handed) → q ≡ start → i ≡ unread → h ≡ unsaid
    → Turning e from to buf q 0 from to i h true
turning-first e from to buf q i h s u v =
    rw (s, u, v) record {
      waits = λ p. record {
        talks = record { stands = record { input = []; text = []; reached = reached-opened e; all = refl }; well = refl };
        read = refl;
        unfed = no-feed;
        well = refl;
      };
      short = λ p. omega arith;
      few = λ p. omega arith;
      came = λ p. Consumes-nil from;
      put = λ p. put-none;
      ran = λ p. absurd (false≢true (sym p));
    }

-- ---- after a read

clamped-most : (a : Option ℕ) (n : ℕ) → clamp_len a n ≤ n
clamped-most (Some k) n = omega arith
clamped-most None n = omega arith

-- a negative answer brings nothing
clamped-failed : (a : Option ℕ) (n : ℕ) → is_none a ≡ true → clamp_len a n ≡ 0
clamped-failed (Some k) n p = absurd (false≢true p)
clamped-failed None n p = refl

-- what is known in a turn after its read, which left b in the buffer
pub record Brought (e : Equipment) (from to : Option (List ℕ)) (state : State) (have : ℕ) (i : Input) (handed : Handed) (b : List ℕ)
    (from' to' : Option (List ℕ)) (i' : Input) : Type 0 where
  pub waits : Waits e state (take have b) handed i
  pub few : handed.bytes + out_room * have ≤ 2 * out_room * length waits.talks.stands.input
  pub room : have < length b
  pub asked : i'.asked ≡ min i.budget (length b - have)
  pub bytes : i'.bytes ≡ clamp_len i'.answer i'.asked
  pub budget : i'.budget ≡ i.budget - i'.bytes
  pub came : Consumes from from' (waits.talks.stands.input ++ take i'.bytes (drop have b))
  pub left : read_failed i' ≡ false → i'.bytes ≡ 0 → 0 < i'.asked → IsAtEnd from'
  pub put : Put handed.put to to' waits.talks.stands.text

pub brought : {e : Equipment} {from to : Option (List ℕ)} {buf : List ℕ} {state : State} {have : ℕ} {here to' : Option (List ℕ)} {i : Input}
    {handed : Handed} {going : Bool}
    → Turning e from to buf state have here to' i handed going → going ≡ true → longest < length buf
    → (b : List ℕ) → length b ≡ length buf → take have b ≡ take have buf
    → (i' : Input) → i' ≡ read_after i (length buf - have) i'.answer
    → (from' : Option (List ℕ)) → Came i' here from' (take i'.bytes (drop have b)) → Brought e from to state have i handed b from' to' i'
brought {e} {from} {to} {buf} {state} {have} {here} {to'} {i} {handed} t on room b same keeps i' told from' moved =
    let w = t.waits on in
    let s = w.talks.stands in
    let asked : i'.asked ≡ min i.budget (length buf - have) = ap (λ (x : Input). x.asked) told in
    let bytes : i'.bytes ≡ clamp_len i'.answer (min i.budget (length buf - have)) = ap (λ (x : Input). x.bytes) told in
    record {
      waits = record {
        talks = record {
          stands = record { input = s.input; text = s.text; reached = rw keeps s.reached; all = s.all };
          well = w.talks.well;
        };
        read = w.read;
        unfed = rw keeps w.unfed;
        well = w.well;
      };
      few = omega (arith, t.few on, w.read);
      room = omega (arith, t.short on);
      asked = asked ∙ ap (λ (m : ℕ). min i.budget (m - have)) (sym same);
      bytes = bytes ∙ ap (clamp_len i'.answer) (sym asked);
      budget = ap (λ (x : Input). x.budget) told ∙ ap (λ (m : ℕ). i.budget - m) (sym bytes);
      came = Consumes-trans from here from' s.input (take i'.bytes (drop have b)) (t.came on) moved.taken;
      left = moved.end;
      put = t.put on;
    }

module _ {e : Equipment} {from to : Option (List ℕ)} {state : State} {have : ℕ} {i : Input} {handed : Handed} {b : List ℕ}
    {from' to' : Option (List ℕ)} {i' : Input} (t : Brought e from to state have i handed b from' to' i') where
  -- a read that failed ends the run
  pub ran-failed : read_failed i' ≡ true → Runs e b from from' to to' (record { state = state; have = have; input = i'; handed = handed })
  ran-failed p =
      let none = t.bytes ∙ clamped-failed i'.answer i'.asked p in
      let input = t.waits.talks.stands.input in
      let same = ap (λ (m : ℕ). input ++ take m (drop have b)) none ∙ append-nil input in
      record {
        ended = false;
        stands = t.waits.talks.stands;
        read = omega (arith, t.waits.read, t.budget, none);
        came = subst (Consumes from from') same t.came;
        put = t.put;
        bytes = t.bytes;
        end_read = λ q. absurd (false≢true q);
        end_none = λ q. absurd (false≢true q);
        end-asked = λ q. absurd (false≢true q);
        end_left = λ q. absurd (false≢true q);
        done = λ q. absurd (false≢true (sym q ∙ p));
        all = λ q. absurd (false≢true (sym q ∙ p));
        whole = λ q. absurd (false≢true (sym q ∙ p));
      }

-- ---- the block, with n bytes that came

module _ {e : Equipment} {from to : Option (List ℕ)} {state : State} {have : ℕ} {i : Input} {handed : Handed} {b : List ℕ}
    {from' to' : Option (List ℕ)} {i' : Input} (t : Brought e from to state have i handed b from' to' i') {n : ℕ} (is : n ≡ i'.bytes) where
  most : n ≤ i'.asked
  most = omega (arith, t.bytes, clamped-most i'.answer i'.asked)

  within : n ≤ i.budget
  within = omega (arith, most, t.asked)

  pub end-inside : have + n ≤ length b
  end-inside = omega (arith, most, t.asked, t.room)

  -- the bytes that came
  abbrev new : List ℕ
  new = take n (drop have b)

  new-length : length new ≡ n
  new-length = length-take-le n (drop have b) (omega (arith, length-drop have b, end-inside))

  -- as it is lent
  abbrev block : List ℕ
  block = take (have + n - 0) b

  block-is : block ≡ take (have + n) b
  block-is = let z : have + n - 0 ≡ have + n = omega arith in ap (λ (m : ℕ). take m b) z

  block-length : length block ≡ have + n
  block-length = ap length block-is ∙ length-take-le (have + n) b end-inside

  abbrev was : Standing e false state (take have b) handed.bytes
  was = t.waits.talks.stands

  abbrev came : List ℕ
  came = was.input ++ new

  came-length : length came ≡ length was.input + n
  came-length = length-append was.input new ∙ ap (λ (m : ℕ). length was.input + m) new-length

  came-from : Consumes from from' came
  came-from = subst (λ (m : ℕ). Consumes from from' (was.input ++ take m (drop have b))) (sym is) t.came

  counts : length came + i'.budget ≡ input_end
  counts = omega (arith, came-length, t.waits.read, within, t.budget)

  reached-block : (ended : Bool) → Reached e came ended (record { state = state; left = block; text = was.text })
  reached-block ended = rw (block-is, take-add have n b) (reached-came e was.reached new ended)

  pub talks-block : (ended : Bool) → Talks e ended state block handed
  talks-block ended =
      record { stands = record { input = came; text = was.text; reached = reached-block ended; all = was.all }; well = t.waits.talks.well }

  pub room-to-count : handed.bytes + out_room * (length block + 1) < 18446744073709551616
  room-to-count = omega (arith, t.few, t.waits.read, within, block-length)

  -- ---- its answers; the input has ended where none came

  module _ {last : Bool} {to'' : Option (List ℕ)} {r : Answered} (answers : AnswersBlock e state block last handed to' to'' r) where
    put-here : Put r.handed.put to to'' (was.text ++ answers.text)
    put-here = put-on t.put t.waits.talks.well answers.put

    pub at-inside : r.at ≤ have + n
    at-inside = omega (arith, answers.inside, block-length)

    pub budget-less : (last ≡ false → 1 ≤ n) → r.going ≡ true → i'.budget < i.budget
    budget-less comes p = omega (arith, comes (answers.coming p), within, t.budget)

    module _ (ends : last ≡ true → n ≡ 0) (comes : last ≡ false → 1 ≤ n) (well : read_failed i' ≡ false) (b' : List ℕ)
        (left : ℕ) (moved : left ≡ have + n - r.at) (front : take left b' ≡ take left (drop r.at b)) where
      left_is : drop r.at block ≡ take left b'
      left_is =
          ap (drop r.at) block-is
          ∙ drop-take r.at (have + n) b at-inside (omega (arith, at-inside, end-inside))
          ∙ ap (λ (m : ℕ). take m (drop r.at b)) (sym moved) ∙ sym front

      left-length : length (drop r.at block) ≡ left
      left-length = length-drop r.at block ∙ ap (λ (m : ℕ). m - r.at) block-length ∙ sym moved

      -- where the session stands now
      stands-left : (ended : Bool) → last ≡ ended → Standing e ended r.state (take left b') r.handed.bytes
      stands-left ended p =
          let here : Session = record { state = r.state; left = drop r.at block; text = answers.text } in
          let reached = reached-called e out_room answers.calls here (reached-block ended) (rw (← p) answers.is) in
          record {
            input = came;
            text = was.text ++ answers.text;
            reached = rw (← left_is) reached;
            all = omega (arith, answers.said, was.all, length-append was.text answers.text);
          }

      waiting : r.going ≡ true → Waits e r.state (take left b') r.handed i'
      unfolding stands-left
      waiting p =
          record {
            talks = record { stands = stands-left false (answers.coming p); well = answers.well p };
            read = counts;
            unfed = ap has_feed (sym left_is) ∙ answers.unfed p;
            well = well;
          }

      -- the input's end: all 10^12 bytes have come, or the reader has none left
      at-end : last ≡ true → IsAtEnd from' ⊎ (length came ≡ input_end)
      at-end q = by i'.asked refl
        where
          by : (k : ℕ) → i'.asked ≡ k → IsAtEnd from' ⊎ (length came ≡ input_end)
          by zero z = inr (omega (arith, came-length, t.waits.read, ends q, t.asked, t.room))
          by (suc k) z = inl (t.left well (sym is ∙ ends q) (omega arith))

      ending : r.going ≡ false → Runs e b' from from' to to'' (record { state = r.state; have = left; input = i'; handed = r.handed })
      unfolding stands-left
      ending p =
          let stands = stands-left last refl in
          record {
            ended = last;
            stands = stands;
            read = counts;
            came = came-from;
            put = put-here;
            bytes = t.bytes;
            end_read = λ q. well;
            end_none = λ q. sym is ∙ ends q;
            end-asked = λ q z. omega (arith, came-length, t.waits.read, ends q, t.asked, t.room);
            end_left = λ q z. t.left well (sym is ∙ ends q) z;
            done = λ q. answers.stops p;
            all = λ q w. reached-transcript e stands.reached (answers.stops p w);
            whole = λ q w. from-source e stands.reached (answers.stops p w) from from' to to'' came-from at-end (subst (Appends to to'') (put-here.whole w) put-here.written);
          }

      pub turning-next : Turning e from to b' r.state left from' to'' i' r.handed r.going
      unfolding waiting stands-left
      turning-next =
          record {
            waits = waiting;
            short = λ p. omega (arith, answers.short p, left-length);
            few = λ p. omega (arith, comes (answers.coming p), answers.few, t.few, counts, came-length, at-inside);
            came = λ p. came-from;
            put = λ p. put-here;
            ran = ending;
          }
