-- `pieces::words::put_word` meets its contract: each status has its word, and an unknown status has none.
-- Assumes nothing.
use mathlib.Core.Path.{◌≡◌, ap}
use mathlib.Core.List.{[]}
use Prim.Native.Nat.{ℕ, ◌<◌}
use native.Mathlib.Omega.{arith}
use lib.ListN.{get_or-eq_default}
use Rattle.rules.specs.Text.{bytes}
use Rattle.rules.specs.Statuses.{top_status}
use Rattle.rules.specs.Transcripts.{status_words}
use Rattle.buffers.proofs.Writing.{wrote_none}
use Rattle.pieces.specs.Pieces.{status_word}
use Rattle.pieces.proofs.words.put_word.Goals as goal

unknown : (s : ℕ) → top_status < s → status_word s ≡ []
unfolding status_word
unknown s h = ap bytes (get_or-eq_default status_words "" {n = s} (omega arith))

pub returns-in-0-clause-wrote : goal.returns-in-0-clause-wrote
unfolding status_word
returns-in-0-clause-wrote c = rw c.in-0.is c.put.ensures

pub returns-in-1-clause-wrote : goal.returns-in-1-clause-wrote
unfolding status_word
returns-in-1-clause-wrote c = rw c.in-1.is c.put-in-1.ensures

pub returns-in-2-clause-wrote : goal.returns-in-2-clause-wrote
unfolding status_word
returns-in-2-clause-wrote c = rw c.in-2.is c.put-in-2.ensures

pub returns-in-3-clause-wrote : goal.returns-in-3-clause-wrote
unfolding status_word
returns-in-3-clause-wrote c = rw c.in-3.is c.put-in-3.ensures

pub returns-in-4-clause-wrote : goal.returns-in-4-clause-wrote
unfolding status_word
returns-in-4-clause-wrote c = rw c.in-4.is c.put-in-4.ensures

pub returns-in-5-clause-wrote : goal.returns-in-5-clause-wrote
unfolding status_word
returns-in-5-clause-wrote c = rw c.in-5.is c.put-in-5.ensures

pub returns-in_default-clause-wrote : goal.returns-in_default-clause-wrote
returns-in_default-clause-wrote c = rw (unknown c.args.status (omega arith)) (wrote_none (omega arith))
