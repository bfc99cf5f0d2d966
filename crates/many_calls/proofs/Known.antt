-- What is known of a key's entry, taken over a call: of the entry that the call opens, and of those that it leaves. Assumes nothing.
use Prim.Native.Nat.{ℕ, ◌<◌}
use mathlib.Core.Bool.{true, false}
use mathlib.Core.Path.{◌≡◌, refl, sym, ◌∙◌}
use mathlib.Core.Logic.{◌≢◌}
use mathlib.Core.List.{List}
use native.Mathlib.Omega.{arith}
use lib.ListN.{length, set}
use Rattle.pieces.proofs.Tests.{by_cases, on_test, clash-of}
use Rattle.config.specs.declared.Config.{Config}
use Rattle.block_state.specs.declared.BlockState.{BlockState}
use Rattle.block_state.specs.State.{nothing}
use Rattle.keys.specs.Keys.{Name, same}
use Rattle.keys.proofs.Keys.{same-eq}
use Rattle.entries.specs.declared.Entry.{Entry}
use Rattle.entries.specs.Entries.{free, in_use, holds, live, swept}
use Rattle.entries.proofs.Entries.{holds-used, holds-new}
use Rattle.block_table.specs.Table.{at}
use Rattle.block_table.proofs.Row.{at-sweep, at_set}
use Rattle.block_table.proofs.TableFits.{row-length, row-unique}
use Rattle.places.proofs.Places.{opened-own, opened-new, opened-key, place-holds, others}
use Rattle.call.specs.Call.{World, Call, row_of}
use Rattle.call.proofs.Frame.{WorldFits}
use Rattle.one_call.specs.Handler.{entry_at}
use Rattle.one_call.proofs.Outcomes.{place_of, opened_of}

-- In this row, P holds of the number and the state of every entry that is the key's.
abbrev pub KnownIn : List Entry → Name → (ℕ → BlockState → Type 0) → Type 0
KnownIn l k P = (i : ℕ) → i < 16 → holds k (at l i) ≡ true → P i (at l i).state

abbrev pub Known : World → Name → (ℕ → BlockState → Type 0) → Type 0
Known w k P = KnownIn w.table.entries k P

module _ (c : Config) (w : World) (q : Call) (k : Name) (f : WorldFits c w) (P : ℕ → BlockState → Type 0) (known : Known w k P) where
  abbrev found : List Entry
  found = row_of c w q

  abbrev here : ℕ
  here = place_of c w q

  abbrev e : Entry
  e = opened_of c w q

  long : length found ≡ 16
  long = row-length c w.table q.time f.table f.sixteen

  -- of the entries that the call finds: each is as it was, or was freed
  found-known : KnownIn found k P
  unfolding swept
  found-known j b =
      rw (at-sweep c.lifetime q.time w.table.entries j)
      (on_test (λ (x : Entry). holds k x ≡ true → P j x.state) (live c.lifetime q.time (entry_at w j)) (λ _. known j b)
      (λ _ h. absurd (clash-of false (holds-used k free h) refl)))

  -- of the one that it starts from, if P holds of a new one
  pub opened-known : here < 16 → same k q.key ≡ true → P here nothing → P here e.state
  opened-known b y new =
      by_cases (at found here).used
      (λ u.
      let z : k ≡ q.key = same-eq k q.key y in
      let h : holds k (at found here) ≡ true = rw z (place-holds q.key found long u) in
      rw (opened-own q.key found u) (found-known here b h))
      (λ n. rw (opened-new q.key found n) new)

  -- and of those that it leaves: the key's is the one that was put back, or the call was for another key and left it
  pub put-known : (Q : ℕ → BlockState → Type 0) (s : BlockState) → here < 16 → (same k q.key ≡ true → Q here s)
      → (same k q.key ≡ false → (j : ℕ) (t : BlockState) → j ≢ here → P j t → Q j t)
      → KnownIn (set found here (in_use e.key q.time s)) k Q
  put-known Q s b own other i i16 =
      at_set found here (in_use e.key q.time s) (omega (arith, long)) (λ j x. holds k x ≡ true → Q j x.state)
      (λ h. own (sym (holds-new k q.key e.key q.time s (opened-key q.key found long)) ∙ h))
      (λ j h ne held.
      by_cases (same k q.key)
      (λ y.
      let z : k ≡ q.key = same-eq k q.key y in
      absurd (clash-of (holds k (at found j)) held
      (rw z (others q.key found long (row-unique c w.table q.time f.table f.sixteen) b j (omega (arith, long)) ne))))
      (λ n. other n j (at found j).state ne (found-known j (omega (arith, long)) held)))
      i (omega (arith, long))
