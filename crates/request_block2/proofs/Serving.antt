-- The laws of a request's Block2 value, a law for each branch, and that it keeps the limits. Assumes nothing.
use Rattle.std.specs.Prelude.{Option, Some, None, Result, Err, Ok}
use Prim.Native.Nat.{ℕ, ◌+◌}
use Rattle.refusal.specs.declared.Refusal.{Refusal}
use Rattle.block_state.proofs.Fits.{StateFits, kept-ok, Held, recording-ok}
use Rattle.block_state.proofs.StepKeeps.{Keeps, as_it_was}
use Rattle.block_state.specs.State.{kept_while, with_cached, with_recorded}
use Rattle.block_state.specs.Step.{Left, left, bytes_from}
use Rattle.block_state.specs.declared.Answer.TheVariants.{Refused, Served}
use Rattle.block_state.specs.declared.Answer.{Answer}
use Rattle.block_state.specs.declared.BlockState.{BlockState}
use Rattle.config.specs.declared.Config.{Config}
use Rattle.block_value.specs.declared.BlockValue.{BlockValue}
use Rattle.chunks.specs.Chunk.{chunk_of}
use Rattle.chunks.specs.declared.Chunk.{Chunk}
use Rattle.pieces.proofs.Tests.{on_test}
use Rattle.request_block2.specs.Block2.{served, onward}
use lib.ListN.{length}
use mathlib.Core.Bool.{true, false}
use mathlib.Core.List.{List}
use mathlib.Core.Path.{◌≡◌, refl}
use mathlib.Core.Logic.{◌⊎◌, inl, inr}
use native.Mathlib.Omega.{arith}

module _ (at : ℕ) (s : BlockState) (u : List ℕ) (block1 : Option BlockValue) (ch : Result Chunk Refusal) where
  pub served-refused : (n : Refusal) → ch ≡ Err n → served at s u block1 ch ≡ left s u (Refused n)
  unfolding served
  served-refused n e = rw e

  pub served-chunk : (k : Chunk) → ch ≡ Ok k
      → served at s u block1 ch ≡ left (with_cached s (kept_while k.block.more s.cached)) u
      (Served (record {
        block1 = block1;
        block2 = k.block;
        head = bytes_from at s.cached.head;
        chunk = record { from = at + s.cached.head + k.from; to = at + s.cached.head + k.to };
      }))
  unfolding served
  served-chunk k e = rw e

module _ (at : ℕ) (s : BlockState) (u : List ℕ) (block2 block1 : Option BlockValue) (otherwise : Answer) where
  pub onward-absent : block2 ≡ None → onward at s u block2 block1 otherwise ≡ left (with_recorded s block2) u otherwise
  unfolding onward
  onward-absent e = rw e

  module _ (b : BlockValue) (e : block2 ≡ Some b) where
    pub onward-held : s.cached.held ≡ true → (next : BlockState) → next ≡ with_recorded s block2
        → onward at s u block2 block1 otherwise ≡ served at next u block1 (chunk_of b next.cached.payload)
    unfolding onward
    onward-held h next its = rw (its, e, h)

    pub onward-none : s.cached.held ≡ false → onward at s u block2 block1 otherwise ≡ left (with_recorded s block2) u otherwise
    unfolding onward
    onward-none h = rw (e, h)

-- ---- whichever it is, what is assembled stays, and where nothing can be served the answer is the other one

served-assembled : (at : ℕ) (s : BlockState) (u : List ℕ) (block1 : Option BlockValue) (ch : Result Chunk Refusal) → (served at s u block1 ch).state.assembled ≡ s.assembled
unfolding served
served-assembled at s u block1 (Err n) = refl
served-assembled at s u block1 (Ok k) = refl

pub onward-assembled : (at : ℕ) (s : BlockState) (u : List ℕ) (block2 block1 : Option BlockValue) (otherwise : Answer)
    → (onward at s u block2 block1 otherwise).state.assembled ≡ s.assembled
unfolding onward
onward-assembled at s u None block1 otherwise = refl
onward-assembled at s u (Some b) block1 otherwise =
    on_test (λ (g : Left). g.state.assembled ≡ s.assembled) s.cached.held (λ _. served-assembled at (with_recorded s (Some b)) u block1 _) (λ _. refl)

pub onward-other : (at : ℕ) (s : BlockState) (u : List ℕ) (block2 block1 : Option BlockValue) (otherwise : Answer) → (block2 ≡ None) ⊎ (s.cached.held ≡ false)
    → (onward at s u block2 block1 otherwise).answer ≡ otherwise
unfolding onward
onward-other at s u block2 block1 otherwise (inl absent) = rw absent
onward-other at s u None block1 otherwise (inr none) = refl
onward-other at s u (Some b) block1 otherwise (inr none) = rw none

-- ---- what it leaves keeps the limits, and the piece stays as it was

module _ (c : Config) where
  recorded-fits : (s : BlockState) (b : Option BlockValue) → Held 1048575 b → StateFits c s → StateFits c (with_recorded s b)
  recorded-fits s b h f = record { assembled = f.assembled; cached = f.cached; recorded = recording-ok 1048575 b (omega arith) h }

  served-keeps : (n at : ℕ) (s : BlockState) (u : List ℕ) (block1 : Option BlockValue) (g : Result Chunk Refusal) → StateFits c s → length u ≡ n
      → Keeps c n (served at s u block1 g)
  unfolding served
  served-keeps n at s u block1 (Err k) f h = as_it_was c n s u (Refused k) f h
  served-keeps n at s u block1 (Ok k) f h =
      record { state = record { assembled = f.assembled; cached = kept-ok c k.block.more s.cached f.cached; recorded = f.recorded }; piece = h }

  pub onward-keeps : (n at : ℕ) (s : BlockState) (u : List ℕ) (b block1 : Option BlockValue) (a : Answer) → Held 1048575 b → StateFits c s → length u ≡ n
      → Keeps c n (onward at s u b block1 a)
  unfolding onward
  onward-keeps n at s u None block1 a held f h = as_it_was c n (with_recorded s None) u a (recorded-fits s None held f) h
  onward-keeps n at s u (Some b) block1 a held f h =
      let f' : StateFits c (with_recorded s (Some b)) = recorded-fits s (Some b) held f in
      on_test (Keeps c n) s.cached.held
      (λ _. served-keeps n at (with_recorded s (Some b)) u block1 (chunk_of b s.cached.payload) f' h)
      (λ _. as_it_was c n (with_recorded s (Some b)) u a f' h)
