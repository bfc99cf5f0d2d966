-- The client's next block at its entry: what one step leaves and answers, exactly, for every size and in either mode. It speaks of offsets: where the block starts,
-- and how much is assembled. Assumes nothing.
use Rattle.std.specs.Prelude.{Some, None, Ok}
use Prim.Native.Nat.{ℕ, ◌+◌, ◌/◌, ◌≤◌, ◌<◌}
use mathlib.Core.Bool.{Bool, true, false, ◌&&◌}
use mathlib.Core.Path.{◌≡◌, refl, sym, ◌∙◌, ap}
use mathlib.Core.Logic.{inl, inr}
use mathlib.Core.List.{List, [], ◌++◌}
use native.Mathlib.Nat.{zero-div}
use native.Mathlib.Omega.{arith}
use lib.ListN.{length, take, length-append}
use borrow.Author.Tests.{le-ltb, ne_eqb}
use Rattle.pieces.specs.Memory.{patch, part}
use Rattle.splicing.specs.Splice.{spliced_length, splice_of, piece_after}
use Rattle.pieces.proofs.Memory.{part-patch}
use Rattle.splicing.proofs.Splicing.{spliced-next}
use Rattle.splicing.proofs.Splicing as splicing
use Rattle.block_value.specs.Value.{block_size, block_start}
use Rattle.block_value.specs.declared.BlockValue.{BlockValue}
use Rattle.block_value.proofs.Laws.{size-least, size-most}
use Rattle.negotiation.specs.Negotiation.{request_block}
use Rattle.config.specs.declared.Config.{Config}
use Rattle.config.specs.Mode.{num_limit}
use Rattle.block_state.specs.declared.Assembled.{Assembled}
use Rattle.block_state.specs.declared.BlockState.{BlockState}
use Rattle.block_state.specs.declared.Answer.TheVariants.{Continue, Handed}
use Rattle.block_state.specs.Message.{Request}
use Rattle.block_state.specs.State.{assembly, with_assembled, with_recorded}
use Rattle.block_state.specs.Step.{left, bytes_from}
use Rattle.request_block1.specs.Block1.{bad_form, not_next, length_met}
use Rattle.request_step.specs.Step.{step_request}
use Rattle.pairing.specs.Pairing.{room_of, granted, Unmakeable}
use Rattle.pairing.proofs.Pairing.{pairing}
use Rattle.one_call.specs.Agreed.{request_agrees}
use Rattle.one_call.proofs.Checks.{and_none, well-formed, bad-not, NextAt, next-passes, first_passes, first-starts, meets-all, meets-afresh}
use Rattle.one_call.proofs.Step.{step-more, step-last}
use Rattle.demands.specs.Demand3.{block, Fills}

-- ---- a block as the client sends it

-- the same block with no more, as the reply has it
abbrev pub unmarked : BlockValue → BlockValue
unmarked b = block b.num false b.size_exponent

pub fills-most : (more : Bool) (p size : ℕ) → Fills more p size → p ≤ size
fills-most true p size e = omega arith
fills-most false p size h = h

-- it is well formed, and a reply was agreed on
pub record OneBlock (c : Config) (b : BlockValue) (r : Request) : Type 0 where
  pub size : b.size_exponent ≤ 6
  pub numbered : request_block c r.block1 ≡ Some b
  pub full : Fills b.more (length r.payload) (block_size b)
  pub alone : request_block c r.block2 ≡ None
  pub bare : r.bare ≤ c.limit
  pub reply : BlockValue
  pub agreed : request_agrees c r ≡ Ok (Some reply)

pub form-ok : (c : Config) (b : BlockValue) (r : Request) → OneBlock c b r → (c.strict && bad_form b (length r.payload)) ≡ false
form-ok c b r one =
    let p : ℕ = length r.payload in
    and_none c.strict _ (bad-not b p (well-formed b p one.size (fills-most b.more _ _ one.full) (λ more. rw more at one.full)))

module _ (c : Config) (b : BlockValue) (r : Request) (numbered : request_block c r.block1 ≡ Some b) (size : b.size_exponent ≤ 6) where
  -- a block that is left room comes out of the negotiation as it was asked, with no more, since its payload is no longer than its size
  pub agreed-asked : b.num ≤ num_limit c.strict → length r.payload ≤ block_size b → r.bare + 12 + block_size b ≤ c.limit → request_agrees c r ≡ Ok (Some (unmarked b))
  agreed-asked count most room =
      let p : ℕ = length r.payload in
      rw numbered (pairing.asked c b r.bare p room count (omega arith) ∙ rw (le-ltb (block_start b + block_size b) p (omega arith)))

  -- block 0 comes out of it, smaller or not, where there is room for a byte
  pub agreed-first : b.num ≡ 0 → r.bare + 12 < c.limit → (reply : BlockValue) × (request_agrees c r ≡ Ok (Some reply))
  agreed-first first room = rw numbered (pairing.made c (Some b) r.bare (length r.payload) (omega arith) tt makeable)
    where
      makeable : Unmakeable c (Some b) (room_of c r.bare) → ⊥
      makeable (inl none) = omega (arith, size-least b.size_exponent)
      makeable (inr (inl large)) = omega (arith, size-most b.size_exponent)
      makeable (inr (inr far)) =
          let start : block_start b ≡ 0 = first-starts b first in
          let zero : block_start b / granted (Some b) (room_of c r.bare) ≡ 0 = rw start (zero-div _) in
          omega arith

-- ---- an upload under way

-- The entry meets block b with these bytes assembled at the start of its piece u: the block starts where they end, and strict mode lets it pass.
pub record Meets (c : Config) (a : Assembled) (u : List ℕ) (bytes : List ℕ) (b : BlockValue) : Type 0 where
  pub starts : block_start b ≡ length bytes
  pub from : length_met c.strict a b ≡ length bytes
  pub passes : (c.strict && not_next a b) ≡ false
  pub held : take (length bytes) u ≡ bytes

-- Block 0 is met so where nothing is assembled; in strict mode whatever is assembled.
pub meets-first : (c : Config) (a : Assembled) (u : List ℕ) (b : BlockValue) → b.num ≡ 0 → (c.strict ≡ false → a.len ≡ 0) → Meets c a u [] b
meets-first c a u b first none =
    record {
      starts = first-starts b first;
      from = meets-afresh c.strict a b first none;
      passes = and_none c.strict _ (first_passes a b first);
      held = refl;
    }

-- The blocks so far sent these bytes: they are what is assembled, and block b is next, from where they end and no larger than the last one taken.
pub record UnderWay (a : Assembled) (u : List ℕ) (bytes : List ℕ) (b : BlockValue) : Type 0 where
  pub len : a.len ≡ length bytes
  pub held : take a.len u ≡ bytes
  pub next : NextAt a.len a.exponent b

pub meets-next : (c : Config) (a : Assembled) (u : List ℕ) (bytes : List ℕ) (b : BlockValue) → UnderWay a u bytes b → Meets c a u bytes b
meets-next c a u bytes b way =
    record {
      starts = way.next.0 ∙ way.len;
      from = meets-all c.strict a b (λ _ first. sym way.next.0 ∙ first-starts b first) ∙ way.len;
      passes = and_none c.strict _ (next-passes a b way.next);
      held = rw way.len at way.held;
    }

pub held_after : (u b : List ℕ) → take (length b) (patch u 0 b) ≡ b
unfolding part
held_after u b = part-patch u 0 b (omega arith)

-- a payload that starts where the assembled bytes end goes behind them
pub appended : (u bytes : List ℕ) (size : ℕ) (p : List ℕ) → take (length bytes) u ≡ bytes → piece_after u (length bytes) (length bytes) size p ≡ patch u 0 (bytes ++ p)
unfolding piece_after
appended u bytes size p held = rw (held, spliced-next bytes size p)

pub appended-length : (bytes : List ℕ) (size : ℕ) (p : List ℕ) → spliced_length (length bytes) (length bytes) size (length p) ≡ length (bytes ++ p)
appended-length bytes size p = rw (length-append bytes p) (omega arith)

-- ---- its next block

module _ (c : Config) (home away : ℕ) (s : BlockState) (u : List ℕ) (r : Request) (b : BlockValue) (one : OneBlock c b r) (bytes : List ℕ)
    (meets : Meets c s.assembled u bytes b) (fits : length (bytes ++ r.payload) ≤ c.upload) where
  abbrev joins : List ℕ
  joins = bytes ++ r.payload

  piece : piece_after u (length bytes) (block_start b) (block_size b) r.payload ≡ patch u 0 joins
  piece = rw meets.starts (appended u bytes (block_size b) r.payload meets.held)

  body : splice_of c.upload (length bytes) (block_start b) (block_size b) (length r.payload) ≡ Ok (length joins)
  body =
      let n = appended-length bytes (block_size b) r.payload in
      rw meets.starts
      (splicing.taken c.upload (length bytes) (length bytes) (block_size b) (length r.payload) (omega (arith, size-most b.size_exponent)) (omega arith)
      ∙ ap Ok n)

  pub own-more : b.more ≡ true
      → step_request c home away s u r ≡ left (with_assembled s (assembly (length joins) b.size_exponent)) (patch u 0 joins) (Continue one.reply)
  own-more =
      step-more c home away s u r b one.reply one.numbered one.agreed (form-ok c b r one) meets.passes (length bytes) meets.from
      (length joins) (patch u 0 joins) body piece

  pub own-last : b.more ≡ false
      → step_request c home away s u r
      ≡ left (with_recorded (with_assembled s (assembly 0 0)) None) (patch u 0 joins) (Handed one.reply (bytes_from home (length joins)))
  own-last last =
      step-last c home away s u r b one.reply one.numbered one.agreed (form-ok c b r one) meets.passes (length bytes) meets.from
      (length joins) (patch u 0 joins) body piece last one.alone

  -- after a marked block, the upload is under way to any block that starts where this one ends and is no larger
  pub under-way : b.more ≡ true → (n : BlockValue) → NextAt (block_start b + length r.payload) b.size_exponent n
      → UnderWay (assembly (length joins) b.size_exponent) (patch u 0 joins) joins n
  under-way more n next =
      let full : length r.payload ≡ block_size b = rw more at one.full in
      let nz = ne_eqb (length joins) 0 (λ e. omega (arith, size-least b.size_exponent, length-append bytes r.payload)) in
      let end : block_start b + length r.payload ≡ length joins = rw (meets.starts, length-append bytes r.payload) in
      record { len = refl; held = held_after u joins; next = rw nz (rw end at next) }
