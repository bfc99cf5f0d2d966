-- Plain mode keeps an old list's tail, and strict mode does not. Assumes nothing.
use Rattle.std.specs.Prelude.{None, Ok}
use Prim.Native.Nat.{ℕ, ◌+◌, ◌-◌, ◌*◌, ◌≤◌}
use mathlib.Core.Bool.{Bool, true, false}
use mathlib.Core.Path.{◌≡◌, refl, sym, ◌∙◌, ap}
use mathlib.Core.Logic.{inl}
use mathlib.Core.List.{List, ◌++◌, append-nil}
use native.Mathlib.Nat.{zero-add, zero-mul, one-mul}
use native.Mathlib.Omega.{arith}
use lib.ListN.{length, take, drop, replicate}
use lib.Seq.{drop-drop, take_at, drop_at, length-take-le}
use Rattle.pieces.specs.Memory.{patch, part}
use Rattle.splicing.specs.Splice.{spliced_length, splice_of, piece_after}
use Rattle.splicing.specs.Splice as pieces
use Rattle.pieces.proofs.Memory.{drop-part}
use Rattle.splicing.proofs.Splicing as splicing
use Rattle.block_value.specs.Value.{size_of, block_size, block_start}
use Rattle.block_value.specs.declared.BlockValue.{BlockValue}
use Rattle.config.specs.declared.Config.{Config}
use Rattle.config.specs.Mode.{num_limit}
use Rattle.config.proofs.Mode.{limit-least}
use Rattle.block_state.specs.declared.BlockState.{BlockState}
use Rattle.block_state.specs.declared.Answer.TheVariants.{Continue, Handed}
use Rattle.block_state.specs.Message.{Request}
use Rattle.block_state.specs.State.{assembly, with_assembled, with_recorded}
use Rattle.block_state.specs.Step.{Left, left, bytes_from}
use Rattle.request_block1.specs.Block1.{length_met}
use Rattle.request_step.specs.Step.{step_request}
use Rattle.pieces.proofs.Tests.{clash-of}
use Rattle.call.specs.Call.{call}
use Rattle.one_call.proofs.Checks.{meets-all}
use Rattle.one_call.proofs.Step.{step-more, step-last}
use Rattle.demands.specs.Demand3.{block, Fills}
use Rattle.demands.specs.Falling.{Demand3Falling}
use Rattle.demands.proofs.OwnStep.{unmarked, OneBlock, form-ok, agreed-asked, held_after}
use Rattle.demands.proofs.Falling.{one_size_lem}
use Rattle.demands.proofs.Demand3.{demand3-falling}
use Rattle.cases.specs.Incident.{Carries, once, twice, TailKept, shop, Story, StartsAfresh}
use Rattle.cases.proofs.Shams.{two_blocks}
use Rattle.cases.proofs.Computes.{calls}

-- ---- strict mode

pub starts-afresh : StartsAfresh call
unfolding StartsAfresh Demand3Falling
starts-afresh c w k x first rest later strict b o p own rise =
    demand3-falling c w k x first rest later b
    (record { entry = inl o; nothing = λ plain. absurd (clash-of c.strict strict plain); within = p; own = own; clock = rise })

-- ---- plain mode

-- a block that lies within what is assembled, and is as long as the range it replaces, leaves the length
module _ (c : Config) (home at : ℕ) (s : BlockState) (u : List ℕ) (x j a l : ℕ) (m : Bool) (r : Request) (plain : c.strict ≡ false) (hx : x ≤ 6)
    (hj : j ≤ 4095) (start : j * size_of x ≡ a) (hl : s.assembled.len ≡ l) (inside : a + size_of x ≤ l) (fits : l ≤ c.upload) (h : Carries c x j m r) where
  abbrev b : BlockValue
  b = block j m x

  abbrev replaced : List ℕ
  replaced = patch u 0 (pieces.spliced (take l u) a (size_of x) r.payload)

  carried : OneBlock c b r
  carried =
      let count : j ≤ num_limit c.strict = omega (arith, limit-least c.strict) in
      let agreed = agreed-asked c b r h.numbered hx count (omega (arith, h.full)) h.room in
      record { size = hx; numbered = h.numbered; full = fills m; alone = h.alone; bare = omega (arith, h.room); reply = unmarked b; agreed = agreed }
    where
      fills : (m : Bool) → Fills m (length r.payload) (size_of x)
      fills true = h.full
      fills false = omega (arith, h.full)

  met : length_met c.strict s.assembled b ≡ l
  met = meets-all c.strict s.assembled b (λ strict. absurd (clash-of c.strict strict plain)) ∙ hl

  body : splice_of c.upload l (block_start b) (block_size b) (length r.payload) ≡ Ok l
  body =
      let p : ℕ = length r.payload in
      let n : spliced_length l a (size_of x) p ≡ l = omega (arith, h.full) in
      rw start (splicing.taken c.upload l a (size_of x) p (omega arith) (omega arith) ∙ ap Ok n)

  piece : piece_after u l (block_start b) (block_size b) r.payload ≡ replaced
  unfolding piece_after
  piece = rw start

  within_more : m ≡ true → step_request c home at s u r ≡ left (with_assembled s (assembly l x)) replaced (Continue (unmarked b))
  unfolding carried
  within_more =
      step-more c home at s u r b (unmarked b) h.numbered carried.agreed (form-ok c b r carried) (rw plain) l met l replaced body piece

  within-last : m ≡ false
      → step_request c home at s u r ≡ left (with_recorded (with_assembled s (assembly 0 0)) None) replaced (Handed (unmarked b) (bytes_from home l))
  unfolding carried
  within-last last =
      step-last c home at s u r b (unmarked b) h.numbered carried.agreed (form-ok c b r carried) (rw plain) l met l replaced body piece last h.alone

-- the two splices: the new payloads, and behind them what stood there
module _ (u : List ℕ) (l size : ℕ) (p q : List ℕ) (hp : length p ≡ size) (hq : length q ≡ size) (h : size + size ≤ l) (hu : l ≤ length u) where
  long : length (take l u) ≡ l
  long = length-take-le l u hu

  one : pieces.spliced (take l u) 0 size p ≡ p ++ drop size (take l u)
  unfolding pieces.spliced
  one =
      let z : 0 - length (take l u) ≡ 0 = omega arith in
      rw (z, zero-add)

  one-length : length (pieces.spliced (take l u) 0 size p) ≡ l
  one-length = splicing.length-spliced (take l u) 0 size p ∙ rw (long, hp) (omega arith)

  two : pieces.spliced (pieces.spliced (take l u) 0 size p) size size q ≡ p ++ q ++ part u (size + size) (l - (size + size))
  unfolding pieces.spliced part
  two =
      let d : List ℕ = drop size (take l u) in
      let n : length (p ++ d) ≡ l = sym (ap length one) ∙ one-length in
      let z : size - length (p ++ d) ≡ 0 = omega arith in
      let tail : drop (size + size) (p ++ d) ≡ part u (size + size) (l - (size + size)) =
      sym (drop-drop size size (p ++ d)) ∙ ap (drop size) (drop_at p d size hp) ∙ drop-drop size size (take l u) ∙ drop-part u 0 l (size + size) h (omega arith) ∙ rw zero-add in
      ap (λ (b : List ℕ). pieces.spliced b size size q) one
      ∙ rw (z, take_at p d size hp, append-nil p, tail)

  two-length : length (pieces.spliced (pieces.spliced (take l u) 0 size p) size size q) ≡ l
  two-length = splicing.length-spliced (pieces.spliced (take l u) 0 size p) size size q ∙ rw (one-length, hq) (omega arith)

pub tail-kept : TailKept
unfolding TailKept
tail-kept c home at s u x l first last plain hx hl h fits hu f g =
    let size : ℕ = size_of x in
    let p : List ℕ = first.payload in
    let q : List ℕ = last.payload in
    let hu' : l ≤ length u = omega arith in
    let b₁ : List ℕ = pieces.spliced (take l u) 0 size p in
    let b₂ : List ℕ = pieces.spliced b₁ size size q in
    let n₁ : length b₁ ≡ l = one-length u l size p q f.full g.full h hu' in
    let n₂ : length b₂ ≡ l = two-length u l size p q f.full g.full h hu' in
    let s₁ : BlockState = with_assembled s (assembly l x) in
    let u₁ : List ℕ = patch u 0 b₁ in
    let held : take l u₁ ≡ b₁ = rw n₁ at (held_after u b₁) in
    let e₁ : once c home at s u first ≡ left s₁ u₁ (Continue (block 0 false x)) =
    within_more c home at s u x 0 0 l true first plain hx (omega arith) (zero-mul size) hl (omega arith) fits f refl in
    let last_one = within-last c home at s₁ u₁ x 1 size l false last plain hx (omega arith) (one-mul size) refl (omega arith) fits g refl in
    let e : twice c home at s u first last ≡ left (with_recorded (with_assembled s₁ (assembly 0 0)) None) (patch u₁ 0 b₂) (Handed (block 1 false x) (bytes_from home l)) =
    ap (λ (v : Left). step_request c home at v.state v.piece last) e₁ ∙ (rw held at last_one) in (
      ap (λ (v : Left). v.answer) e₁,
      ap (λ (v : Left). v.answer) e,
      ap (λ (v : Left). take l v.piece) e ∙ (rw n₂ at (held_after u₁ b₂)) ∙ two u l size p q f.full g.full h hu',
    )

-- the same by whole calls, by computation
pub story : Story
unfolding calls
story =
    record {
      plain = (refl, (refl, refl));
      strict = (refl, (refl, refl));
      live = (0, omega arith, refl, refl);
      blocks = one_size_lem (shop true) 0 _ _ (two_blocks (shop true) (omega arith) 6 7 (replicate 16 2) (replicate 16 3) refl (omega arith) (omega arith) (omega arith));
      within = record { limits = refl; sixteen = refl; bytes = (((omega arith, tt), tt), (((omega arith, tt), tt), tt)) };
      own = refl;
      clock = (omega arith, (omega arith, tt));
    }
