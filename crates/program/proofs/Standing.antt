-- Sessions that calls lead to: bytes that come, further calls, and what was said.
-- Assumes nothing.
use mathlib.Core.Path.{◌≡◌, refl, sym, ap, ◌∙◌, subst}
use mathlib.Core.Bool.{Bool, true, false, false≢true}
use mathlib.Core.List.{List, [], ◌∷◌, ◌++◌, append_assoc, append-nil}
use Prim.Native.Nat.{ℕ, zero, suc, ◌+◌, ◌-◌}
use native.Mathlib.Omega.{arith}
use lib.ListN.{length, drop, length-append}
use Rattle.rules.specs.Samples.{Equipment}
use Rattle.rules.specs.Transcripts.{transcript}
use Rattle.program.specs.States.{Fit, is_done, sensible}
use Rattle.program.specs.Saying.{Said}
use Rattle.program.specs.Responses.{respond_of}
use Rattle.program.specs.Sessions.{Session, Delivery, opened, delivered, during, ending, input_of}
use Rattle.program.specs.Standing.{Reached, Standing, StandingLaw, again, called_again}
use Rattle.program.specs.declared.State.{State}
use Rattle.program.proofs.Fitting.{sensible-fit}
use Rattle.program.proofs.Responding.{no_room}
use Rattle.program.proofs.Sessions.{taken-and-left, begins-ended, transcript-law}

input-append : (cs ds : List Delivery) → input_of (cs ++ ds) ≡ input_of cs ++ input_of ds
unfolding input_of
input-append [] ds = refl
input-append (c ∷ cs) ds =
    ap (λ (l : List ℕ). c.bytes ++ l) (input-append cs ds) ∙ sym (append_assoc c.bytes (input_of cs) (input_of ds))

input-one : (c : Delivery) → input_of (c ∷ []) ≡ c.bytes
unfolding input_of
input-one c = append-nil c.bytes

input-then : (cs : List Delivery) (c : Delivery) → input_of (cs ++ (c ∷ [])) ≡ input_of cs ++ c.bytes
input-then cs c = input-append cs (c ∷ []) ∙ ap (λ (l : List ℕ). input_of cs ++ l) (input-one c)

module _ (e : Equipment) where
  during-then : (k : Session) (cs : List Delivery) (c : Delivery) → during e k (cs ++ (c ∷ [])) ≡ delivered e false (during e k cs) c
  unfolding during
  during-then k [] c = refl
  during-then k (d ∷ cs) c = during-then (delivered e false k d) cs c

  ending-then : (k : Session) (sizes : List ℕ) (size : ℕ) → ending e k (sizes ++ (size ∷ [])) ≡ delivered e true (ending e k sizes) (again size)
  unfolding ending
  ending-then k [] size = refl
  ending-then k (s ∷ sizes) size = ending-then (delivered e true k (again s)) sizes size

  ending-none : (k : Session) → ending e k [] ≡ k
  unfolding ending
  ending-none k = refl

  pub reached-opened : Reached e [] false opened
  unfolding during ending input_of
  reached-opened = record { deliveries = []; sizes = []; came = refl; coming = λ p. refl; is = refl }

  module _ {input : List ℕ} {ended : Bool} {k : Session} (r : Reached e input ended k) where
    pub reached-sensible : sensible k.state ≡ true
    reached-sensible = subst (λ (k : Session). sensible k.state ≡ true) r.is ((transcript-law e).reached r.deliveries r.sizes)

    pub reached-fit : Fit k.state 0
    reached-fit = sensible-fit k.state reached-sensible

    reached-counts : length input ≡ k.state.taken + length k.left
    reached-counts =
        ap length (sym r.came) ∙ taken-and-left e r.deliveries r.sizes ∙ ap (λ (k : Session). k.state.taken + length k.left) r.is

    -- once all is done, what was said is the transcript of what came
    pub reached-transcript : is_done k.state ≡ true → k.text ≡ transcript e input
    reached-transcript p =
        let was = ap (λ (k : Session). is_done k.state) r.is ∙ p in
        sym (ap (λ (k : Session). k.text) r.is) ∙ (transcript-law e).done r.deliveries r.sizes was ∙ ap (transcript e) r.came

  -- while input comes
  reached-during : {input : List ℕ} {k : Session} (r : Reached e input false k) → during e opened r.deliveries ≡ k
  reached-during r =
      let d = during e opened r.deliveries in
      sym (ap (ending e d) (r.coming refl) ∙ ending-none d) ∙ r.is

  -- what was said begins the transcript, whatever comes after what came, where the input has not ended
  abbrev Begins : List ℕ → Session → Type 0
  Begins input k = transcript e input ≡ k.text ++ drop (length k.text) (transcript e input)

  pub reached-begins : {input : List ℕ} {ended : Bool} {k : Session} → Reached e input ended k → (more : List ℕ) → (ended ≡ true → more ≡ [])
      → transcript e (input ++ more) ≡ k.text ++ drop (length k.text) (transcript e (input ++ more))
  reached-begins {input} {ended} {k} r more none = by ended r none
    where
      by : (b : Bool) → Reached e input b k → (b ≡ true → more ≡ []) → Begins (input ++ more) k
      by false r none =
          subst (λ (l : List ℕ). Begins (l ++ more) k) r.came
          (subst (Begins (input_of r.deliveries ++ more)) (reached-during r) ((transcript-law e).begins r.deliveries more))
      by true r none =
          let same : input ≡ input ++ more = sym (ap (λ (l : List ℕ). input ++ l) (none refl) ∙ append-nil input) in
          subst (λ (l : List ℕ). Begins l k) (r.came ∙ same) (subst (Begins (input_of r.deliveries)) r.is (begins-ended e r.deliveries r.sizes))

  -- ---- bytes come: a call whose buffer has no room for a line

  idle-call : (k : Session) (bytes : List ℕ) → Fit k.state 0
      → delivered e false k (record { bytes = bytes; size = 0 }) ≡ record { state = k.state; left = k.left ++ bytes; text = k.text }
  idle-call k bytes fit =
      let l = k.left ++ bytes in
      let z : k.state.taken - k.state.taken ≡ 0 = omega arith in
      ap (λ (h : Said). record { state = h.state; left = drop (h.state.taken - k.state.taken) l; text = k.text ++ h.text })
      (no_room e k.state l false 0 fit (omega arith))
      ∙ rw (z, append-nil k.text)

  pub reached-came : {input : List ℕ} {k : Session} → Reached e input false k → (bytes : List ℕ) (ended : Bool)
      → Reached e (input ++ bytes) ended (record { state = k.state; left = k.left ++ bytes; text = k.text })
  reached-came {input} {k} r bytes ended =
      let c : Delivery = record { bytes = bytes; size = 0 } in
      let cs = r.deliveries ++ (c ∷ []) in
      record {
        deliveries = cs;
        sizes = [];
        came = input-then r.deliveries c ∙ ap (λ (l : List ℕ). l ++ bytes) r.came;
        coming = λ p. refl;
        is = ending-none (during e opened cs)
            ∙ during-then opened r.deliveries c
            ∙ ap (λ (k : Session). delivered e false k c) (reached-during r)
            ∙ idle-call k bytes (reached-fit r);
      }

  -- ---- further calls

  reached-again : {input : List ℕ} {k : Session} (size : ℕ) (ended : Bool) → Reached e input ended k → Reached e input ended (delivered e ended k (again size))
  reached-again {input} {k} size false r =
      let cs = r.deliveries ++ (again size ∷ []) in
      record {
        deliveries = cs;
        sizes = [];
        came = input-then r.deliveries (again size) ∙ append-nil (input_of r.deliveries) ∙ r.came;
        coming = λ p. refl;
        is = ending-none (during e opened cs)
            ∙ during-then opened r.deliveries (again size)
            ∙ ap (λ (k : Session). delivered e false k (again size)) (reached-during r);
      }
  reached-again {input} {k} size true r =
      record {
        deliveries = r.deliveries;
        sizes = r.sizes ++ (size ∷ []);
        came = r.came;
        coming = λ p. absurd (false≢true (sym p));
        is = ending-then (during e opened r.deliveries) r.sizes size ∙ ap (λ (k : Session). delivered e true k (again size)) r.is;
      }

  reached-calls : {input : List ℕ} {ended : Bool} {k : Session} (size n : ℕ) → Reached e input ended k → Reached e input ended (called_again e ended size n k)
  unfolding called_again
  reached-calls size zero r = r
  reached-calls {ended = ended} size (suc n) r = reached-again size ended (reached-calls size n r)

  -- what was said before stands in front of what further calls say
  called-after : (last : Bool) (size n : ℕ) (q : State) (left text : List ℕ)
      → called_again e last size n (record { state = q; left = left; text = text })
      ≡ record {
        state = (called_again e last size n (record { state = q; left = left; text = [] })).state;
        left = (called_again e last size n (record { state = q; left = left; text = [] })).left;
        text = text ++ (called_again e last size n (record { state = q; left = left; text = [] })).text;
      }
  unfolding called_again
  called-after last size zero q left text = rw (append-nil text)
  called-after last size (suc n) q left text =
      let c = called_again e last size n (record { state = q; left = left; text = [] }) in
      let d = delivered e last c (again size) in
      ap (λ (k : Session). delivered e last k (again size)) (called-after last size n q left text)
      ∙ ap (λ (t : List ℕ). record { state = d.state; left = d.left; text = t })
      (append_assoc text c.text (respond_of e c.state (c.left ++ []) last size).text)

  pub reached-called : {input : List ℕ} {last : Bool} {q : State} {left text : List ℕ} (size n : ℕ) (k : Session)
      → Reached e input last (record { state = q; left = left; text = text })
      → called_again e last size n (record { state = q; left = left; text = [] }) ≡ k
      → Reached e input last (record { state = k.state; left = k.left; text = text ++ k.text })
  reached-called {input} {last} {q} {left} {text} size n k r is =
      subst (Reached e input last)
      (called-after last size n q left text ∙ ap (λ (k : Session). record { state = k.state; left = k.left; text = text ++ k.text }) is)
      (reached-calls size n r)

  pub standing-called : {last : Bool} {q : State} {left : List ℕ} {said : ℕ} (size n : ℕ) (k : Session)
      → Standing e last q left said → called_again e last size n (record { state = q; left = left; text = [] }) ≡ k
      → Standing e last k.state k.left (said + length k.text)
  standing-called size n k s is =
      record {
        input = s.input;
        text = s.text ++ k.text;
        reached = reached-called size n k s.reached is;
        all = omega (arith, s.all, length-append s.text k.text);
      }

  -- ---- what sessions have said

  pub standing-law : StandingLaw e
  standing-law =
      record {
        counts = λ ended q left said k. reached-counts k.reached;
        done = λ ended q left said k p. reached-transcript k.reached p;
        begins = λ ended q left said k more none. reached-begins k.reached more none;
      }
