-- Whatever a request says, its step keeps its state within the limits and its piece as long as it was. Assumes nothing.
use Rattle.std.specs.Prelude.{Option, Some, None, Result, Ok, Err}
use Prim.Native.Nat.{ℕ, ◌≤◌}
use mathlib.Core.Path.{◌≡◌, refl}
use mathlib.Core.List.{List}
use native.Mathlib.Omega.{arith}
use lib.ListN.{length}
use Rattle.refusal.specs.declared.Refusal.{Refusal}
use Rattle.block_value.specs.declared.BlockValue.{BlockValue}
use Rattle.config.proofs.Mode.{nums-most}
use Rattle.block_option.specs.Option.{read_of}
use Rattle.block_option.proofs.Laws.{read-num, read-exponent}
use Rattle.negotiation.specs.Negotiation.{request_block, negotiated}
use Rattle.config.specs.declared.Config.{Config}
use Rattle.block_state.specs.declared.BlockState.{BlockState}
use Rattle.block_state.specs.declared.Answer.TheVariants.{Continue, TooLarge, Handed, Pass, Refused}
use Rattle.block_state.specs.Message.{OptionBytes, Request}
use Rattle.block_state.specs.State.{assembly, with_assembled}
use Rattle.block_state.specs.Step.{bytes_from}
use Rattle.request_block1.specs.declared.Taken.{Taken}
use Rattle.request_block1.specs.declared.Taken.TheVariants as block
use Rattle.request_block1.specs.Block1.{taken, piece_taken}
use Rattle.request_step.specs.Step.{on_taken, block1_given, on_negotiated, step_request}
use Rattle.block_state.proofs.Fits.{StateFits, assembled-most, assembly-ok, Held}
use Rattle.block_state.proofs.StepKeeps.{Keeps, as_it_was}
use Rattle.request_block1.proofs.Taking.{Holds, taken-holds}
use Rattle.request_block2.proofs.Serving.{onward-keeps}

-- what an option can hold
pub read_held : (c : Config) (o : Option (List ℕ)) → OptionBytes o → Held 1048575 (request_block c o)
unfolding request_block
read_held c None h = tt
read_held c (Some bytes) h = of (read_of c.strict bytes) refl
  where
    of : (r : Option BlockValue) → read_of c.strict bytes ≡ r → Held 1048575 r
    of (Some b) e = (omega (arith, read-num c.strict bytes b h e, nums-most c.strict), read-exponent c.strict bytes b e)
    of None e = tt

module _ (c : Config) where
  taken-keeps : (home at : ℕ) (s : BlockState) (u : List ℕ) (block2 : Option BlockValue) (payload : List ℕ) (b reply : BlockValue) (t : Result Taken Refusal)
      → (fits : s.assembled.len ≤ c.upload) (size : length u ≡ c.upload) → Holds c s.assembled u b payload fits size t
      → b.size_exponent ≤ 7 → Held 1048575 block2 → StateFits c s
      → Keeps c c.upload (on_taken home at s (piece_taken c s.assembled u b payload t) block2 b.size_exponent reply t)
  taken-keeps home at s u block2 payload b reply (Err n) fits size k x o f = as_it_was c c.upload s u (Refused n) f size
  taken-keeps home at s u block2 payload b reply (Ok (block.More n)) fits size k x o f =
      as_it_was c c.upload (with_assembled s (assembly n b.size_exponent)) _ (Continue reply)
      (record { assembled = assembly-ok c n b.size_exponent k.0 x; cached = f.cached; recorded = f.recorded }) k.1
  taken-keeps home at s u block2 payload b reply (Ok (block.Body n)) fits size k x o f =
      onward-keeps c c.upload at (with_assembled s (assembly 0 0)) _ block2 (Some reply) (Handed reply (bytes_from home n)) o
      (record { assembled = assembly-ok c 0 0 (omega arith) (omega arith); cached = f.cached; recorded = f.recorded }) k.1

  block1-keeps : (home at : ℕ) (s : BlockState) (u : List ℕ) (block2 : Option BlockValue) (payload : List ℕ) (b reply : BlockValue)
      → b.size_exponent ≤ 7 → Held 1048575 block2 → StateFits c s → length u ≡ c.upload
      → Keeps c c.upload (block1_given c home at s u block2 payload b reply)
  unfolding block1_given
  block1-keeps home at s u block2 payload b reply x o f h =
      let fits = assembled-most c s.assembled f.assembled in
      taken-keeps home at s u block2 payload b reply (taken c s.assembled b (length payload)) fits h (taken-holds c s.assembled u b payload fits h) x o f

  negotiated-keeps : (home at : ℕ) (s : BlockState) (u : List ℕ) (block2 : Option BlockValue) (payload : List ℕ) (b : Option BlockValue) (g : Result (Option BlockValue) Refusal)
      → Held 1048575 b → Held 1048575 block2 → StateFits c s → length u ≡ c.upload
      → Keeps c c.upload (on_negotiated c home at s u block2 payload b g)
  unfolding on_negotiated
  negotiated-keeps home at s u block2 payload b (Err n) held o f h = as_it_was c c.upload s u (Refused n) f h
  negotiated-keeps home at s u block2 payload b (Ok None) held o f h = onward-keeps c c.upload at s u block2 None Pass o f h
  negotiated-keeps home at s u block2 payload None (Ok (Some reply)) held o f h = as_it_was c c.upload s u (TooLarge reply) f h
  negotiated-keeps home at s u block2 payload (Some b) (Ok (Some reply)) held o f h = block1-keeps home at s u block2 payload b reply held.1 o f h

  pub request-keeps : (home at : ℕ) (s : BlockState) (u : List ℕ) (r : Request)
      → OptionBytes r.block1 → OptionBytes r.block2 → StateFits c s → length u ≡ c.upload
      → Keeps c c.upload (step_request c home at s u r)
  unfolding step_request
  request-keeps home at s u r o₁ o₂ f h =
      negotiated-keeps home at s u (request_block c r.block2) r.payload (request_block c r.block1)
      (negotiated c (request_block c r.block1) r.bare (length r.payload)) (read_held c r.block1 o₁) (read_held c r.block2 o₂) f h
