-- What a line leaves where it wrote over the fronts of the lent memories. Assumes nothing.
use mathlib.Core.Path.{◌≡◌, refl, sym, ap, ◌∙◌}
use mathlib.Core.List.{List, ◌++◌}
use Prim.Native.Nat.{ℕ, ◌+◌, ◌≤◌}
use lib.ListN.{length, take, drop, replicate, length-replicate}
use lib.Seq.{take_at, drop_at}
use Rattle.pieces.specs.Memory.{patch, Put}
use Rattle.pieces.proofs.Memory.{patch-lent}
use Rattle.config.specs.declared.Config.{Config}
use Rattle.block_table.specs.declared.Table.{Table}
use Rattle.block_table.specs.Table.{fresh_table}
use Rattle.call.specs.Contract.{world}
use Rattle.replay_control.specs.Control.{config_text}
use Rattle.buffers.specs.Sizes.{memory_of, line_room}
use Rattle.script_state.specs.declared.Step.{Step}
use Rattle.script_state.specs.Start.{unreadable_after}
use Rattle.fresh_start.specs.Leaves.{fresh_world, After, fresh, Leaves}

-- a memory of which the front was written
abbrev pub fronted : List ℕ → List ℕ → ℕ → List ℕ
fronted p m n = p ++ drop n m

pub filled : (m : List ℕ) (n : ℕ) → patch m 0 (replicate n 0) ≡ fronted (replicate n 0) m n
filled m n = sym (patch-lent m 0 n (replicate n 0) (length-replicate n 0))

-- a step with another configuration, table and count, and output that goes on elsewhere
abbrev pub left : Config → Table → ℕ → Step → ℕ → Step
left c t n s at = record { state = record { config = c; table = t; number = s.state.number; unreadable = n }; at = at; written = s.written }

-- What a line leaves where it wrote p and q over the fronts of the memories, each as long as the configuration says.
module _ (c : Config) (t : Table) (s : Step) (up away m : List ℕ) {at u v : ℕ} {m' : List ℕ} (eu : u ≡ memory_of c.upload) (ev : v ≡ memory_of c.response) where
  pub leaves-fronts : (a : After) (p q : List ℕ) → length p ≡ u → length q ≡ v → c ≡ a.config → world t p q ≡ a.world
      → Put m s.at a.text m' at → at ≤ s.at + line_room
      → Leaves a s up away m (left c t (unreadable_after a.unread s.state.unreadable) s at) (fronted p up u) (fronted q away v) m'
  leaves-fronts a p q lp lq ec ew text room =
      let first = ap (λ (k : ℕ). take k (fronted p up u)) (sym eu) ∙ take_at p (drop u up) u lp in
      let second = ap (λ (k : ℕ). take k (fronted q away v)) (sym ev) ∙ take_at q (drop v away) v lq in
      record {
        config = ec;
        world = (λ i. world t (first i) (second i)) ∙ ew;
        number = refl;
        unreadable = refl;
        upload = ap (λ (k : ℕ). drop k (fronted p up u)) (sym eu) ∙ drop_at p (drop u up) u lp ∙ ap (λ (k : ℕ). drop k up) eu;
        response = ap (λ (k : ℕ). drop k (fronted q away v)) (sym ev) ∙ drop_at q (drop v away) v lq ∙ ap (λ (k : ℕ). drop k away) ev;
        text = text;
        room = room;
        written = refl;
      }

  -- A fresh start leaves zeros.
  pub leaves-zeros : {up' away' : List ℕ} → up' ≡ patch up 0 (replicate u 0) → away' ≡ patch away 0 (replicate v 0) → t ≡ fresh_table
      → Put m s.at (config_text s.state.number) m' at → at ≤ s.at + line_room
      → Leaves (fresh c s.state.number) s up away m (left c t s.state.unreadable s at) up' away' m'
  unfolding fresh_world
  leaves-zeros eup eaway et text room =
      rw (eup ∙ filled up u, eaway ∙ filled away v)
      (leaves-fronts (fresh c s.state.number) (replicate u 0) (replicate v 0) (length-replicate u 0) (length-replicate v 0) refl
      (λ i. world (et i) (replicate (eu i) 0) (replicate (ev i) 0)) text room)
