-- What a line leaves of the lent memories, and which line it is. Assumes nothing.
use mathlib.Core.Path.{◌≡◌, refl, ap, ◌∙◌}
use mathlib.Core.Bool.{Bool, true, false}
use mathlib.Core.List.{List}
use Prim.Native.Nat.{ℕ, ◌+◌, ◌-◌, ◌≤◌, ◌<◌}
use native.Mathlib.Omega.{arith}
use lib.ListN.{length, take}
use lib.Seq.{length-take-le}
use borrow.Author.Tests.{lt-ltb, le-ltb}
use Rattle.config.specs.declared.Config.{Config}
use Rattle.block_table.specs.declared.Table.{Table}
use Rattle.call.specs.Call.{World}
use Rattle.call.specs.Contract.{world}
use Rattle.answer_text.specs.Answer.{unreadable_text}
use Rattle.replay_control.specs.Control.{control_of}
use Rattle.script_state.specs.declared.State.{State}
use Rattle.pieces.specs.Memory.{Put}
use Rattle.pieces.proofs.Puts.{put_as}
use Rattle.line_input.specs.Sizes.{longest}
use Rattle.script.specs.Line.{line_of, unreadable}
use Rattle.script_print.specs.Run.{world_after, text_after, state_after, Runs}
use Rattle.buffers.specs.Sizes.{memory_of, memory_size, line_room}
use Rattle.script_state.specs.declared.Step.{Step}
use Rattle.script_state.specs.Start.{unreadable_after}
use Rattle.state_text.specs.State.{state_text}
use Rattle.fresh_start.specs.Leaves.{After, world_in, Leaves}
use Rattle.fresh_start.proofs.Fronts.{left, fronted, leaves-fronts}
use Rattle.line_runner.specs.Line.{called, controlled, line_run, called_in, shown_in, unread_in, unread, Lent}

-- ---- what a line leaves

-- A part that is lent from the start on has the length that it is lent at.
pub from_start : (u : ℕ) {m : ℕ} → u ≡ m → u - 0 ≡ m
from_start u e = omega (arith, e)

-- As much of each memory as the configuration has, by its length.
pub world-by : (c : Config) (t : Table) (up away : List ℕ) {u v : ℕ} → u ≡ memory_of c.upload → v ≡ memory_of c.response
    → world t (take u up) (take v away) ≡ world_in c t up away
world-by c t up away eu ev = λ i. world t (take (eu i) up) (take (ev i) away)

module _ (s : Step) (up away m : List ℕ) {m' : List ℕ} where
  leaves-same : (a : After) {at : ℕ} → s.state.config ≡ a.config → world_in s.state.config s.state.table up away ≡ a.world
      → Put m s.at a.text m' at → at ≤ s.at + line_room
      → Leaves a s up away m (left s.state.config s.state.table (unreadable_after a.unread s.state.unreadable) s at) up away m'
  leaves-same a ec ew text room =
      record { config = ec; world = ew; number = refl; unreadable = refl; upload = refl; response = refl; text = text; room = room; written = refl }

  by_state : {a : After} {x y : State} {at : ℕ} {b : Bool} {up' away' : List ℕ} → x ≡ y → b ≡ s.written
      → Leaves a s up away m (record { state = y; at = at; written = s.written }) up' away' m' → Leaves a s up away m (record { state = x; at = at; written = b }) up' away' m'
  by_state e w h = rw (e, w) h

  -- A line that is too long is counted, and changes nothing else.
  pub leaves-unread : {z : Step} → z.state ≡ state_after s.state unreadable s.state.table → Put m s.at (unreadable_text s.state.number) m' z.at
      → z.at ≤ s.at + line_room → z.written ≡ s.written → Leaves (unread_in s up away) s up away m z up away m'
  leaves-unread e text room written = by_state e written (leaves-same (unread_in s up away) refl refl text room)

  module _ {u v : ℕ} (eu : u ≡ memory_of s.state.config.upload) (ev : v ≡ memory_of s.state.config.response) where
    -- The state is shown of the parts.
    pub leaves-shown : {at : ℕ} → Put m s.at (state_text s.state.number s.state.table (take u up) (take v away)) m' at → at ≤ s.at + line_room
        → Leaves (shown_in s up away) s up away m (record { state = s.state; at = at; written = s.written }) up away m'
    leaves-shown text room =
        let w = world-by s.state.config s.state.table up away eu ev in
        leaves-same (shown_in s up away) refl refl (put_as text (ap (λ (x : World). state_text s.state.number x.table x.upload x.response) w)) room

    -- A call is made on the parts.
    pub leaves-called : (l : List ℕ) (z : Step) (p q : List ℕ) → memory_size ≤ length up → memory_size ≤ length away → length p ≡ length (take u up)
        → length q ≡ length (take v away) → Runs s (world s.state.table (take u up) (take v away)) (line_of l) m z (world z.state.table p q) m'
        → Leaves (called_in l s up away) s up away m z (fronted p up u) (fronted q away v) m'
    leaves-called l z p q hu hv lp lq r =
        let w = world-by s.state.config s.state.table up away eu ev in
        by_state r.state r.written
        (leaves-fronts s.state.config z.state.table s up away m eu ev (called_in l s up away) p q (lp ∙ length-take-le u up (omega (arith, eu)))
        (lq ∙ length-take-le v away (omega (arith, ev))) refl (r.world ∙ ap (λ (x : World). world_after s.state.config x (line_of l)) w)
        (put_as r.text (ap (λ (x : World). text_after s.state.config x s.state.number (line_of l)) w)) r.room)

pub leaves-as : {a a' : After} {s : Step} {up away m : List ℕ} {z : Step} {up' away' m' : List ℕ} → a ≡ a' → Leaves a' s up away m z up' away' m'
    → Leaves a s up away m z up' away' m'
leaves-as e h = rw e h

-- What is lent keeps its sizes.
pub lent-kept : {up away scratch out up' away' scratch' out' : List ℕ} → Lent up away scratch out
    → (length up' ≡ length up) × (length away' ≡ length away) × (length scratch' ≡ length scratch) × (length out' ≡ length out) → Lent up' away' scratch' out'
lent-kept w e =
    record {
      upload = omega (arith, e, w.upload);
      response = omega (arith, e, w.response);
      fields = omega (arith, e, w.fields);
      output = omega (arith, e, w.output);
    }

-- ---- which line it is

module _ (replay : Bool) (c : Config) (w : World) (n : ℕ) (l : List ℕ) where
  pub long-line : longest < length l → line_run replay c w n l ≡ unread c w n
  unfolding line_run
  long-line h = rw (lt-ltb longest (length l) h)

  pub script-line : length l ≤ longest → replay ≡ false → line_run replay c w n l ≡ called c w n l
  unfolding line_run
  script-line h e = rw (le-ltb longest (length l) h, e)

  pub replay-line : length l ≤ longest → replay ≡ true → line_run replay c w n l ≡ controlled (control_of l) c w n l
  unfolding line_run
  replay-line h e = rw (le-ltb longest (length l) h, e)
