-- A key's entry between its requests: other keys' calls leave it, its own responses leave what is assembled, and its next request finds it. Assumes nothing.
use Prim.Native.Nat.{ℕ, ◌+◌, ◌≤◌, ◌<◌}
use mathlib.Core.Bool.{true, false, false≢true}
use mathlib.Core.Path.{◌≡◌, refl, sym, ◌∙◌, ap}
use mathlib.Core.List.{List, [], ◌∷◌, cons≢nil}
use native.Mathlib.Omega.{arith}
use borrow.Author.Tests.{leb-true}
use Rattle.pieces.specs.Memory.{piece_of}
use Rattle.pieces.proofs.Tests.{ands, by_cases}
use Rattle.config.specs.declared.Config.{Config}
use Rattle.block_state.specs.Message.{Response, What, request, response, WhatBytes}
use Rattle.keys.specs.Keys.{Name, same, key_of}
use Rattle.keys.proofs.Keys.{same_refl, same-eq}
use Rattle.entries.specs.declared.Entry.{Entry}
use Rattle.entries.specs.Entries.{holds, live}
use Rattle.entries.proofs.Entries.{holds-used, holds-new, used-live, entry-fits}
use Rattle.block_table.specs.Table.{at}
use Rattle.block_table.proofs.Row.{at_set_same}
use Rattle.block_table.proofs.TableFits.{row, row-length, row-unique, row-live}
use Rattle.key_place.specs.Place.{place}
use Rattle.places.specs.Places.{opened}
use Rattle.places.proofs.Places.{opened-own, opened-key, place-of}
use Rattle.judge.specs.Limits.{config_ok}
use Rattle.call.specs.Call.{World, Call, Done, call_at, row_of, call}
use Rattle.call.proofs.Frame.{WorldFits, call_fits, other-keeps}
use Rattle.one_call.specs.Handler.{entry_at}
use Rattle.one_call.proofs.Outcomes.{place_of, opened_of, storing-assembled, early-or-placed}
use Rattle.demands.specs.Demand3.{after, All, AllBytes}
use Rattle.demands.specs.Clocks.{asks, requests_on}

lifetime-least : (c : Config) → config_ok c ≡ true → 0 < c.lifetime
unfolding config_ok
lifetime-least c h = leb-true 1 c.lifetime (search ands)

-- entry i is in use for the key, and was touched at `last` or later
pub record Held (c : Config) (w : World) (k : Name) (i last : ℕ) : Type 0 where
  pub fits : WorldFits c w
  pub slot : i < 16
  pub held : holds k (entry_at w i) ≡ true
  pub touched : last ≤ (entry_at w i).touched

-- what is assembled in entry i is as it was
pub record Kept (c : Config) (w v : World) (i : ℕ) : Type 0 where
  pub assembled : (entry_at v i).state.assembled ≡ (entry_at w i).state.assembled
  pub upload : piece_of c.upload i v.upload ≡ piece_of c.upload i w.upload

module _ (c : Config) (w : World) (k : Name) (i last : ℕ) (g : Held c w k i last) where
  lives : (time : ℕ) → time < last + c.lifetime → live c.lifetime time (entry_at w i) ≡ true
  lives time soon =
      used-live c.lifetime time (entry_at w i) (holds-used k (entry_at w i) g.held) (omega (arith, g.touched, lifetime-least c g.fits.config))

  -- the key's next call finds its entry
  module _ (time : ℕ) (soon : time < last + c.lifetime) where
    abbrev found : List Entry
    found = row c w.table time

    in_row : at found i ≡ entry_at w i
    in_row = row-live c w.table time g.fits.table g.fits.sixteen i (lives time soon)

    pub held_place : place k found ≡ i
    held_place =
        let f = g.fits in
        place-of k found (row-length c w.table time f.table f.sixteen) (row-unique c w.table time f.table f.sixteen) i g.slot (rw in_row g.held)

    pub held-opened : opened k found ≡ entry_at w i
    held-opened =
        let h : holds k (at found i) ≡ true = rw in_row g.held in
        opened-own k found (rw held_place (holds-used k (at found i) h)) ∙ ap (at found) held_place ∙ in_row

  -- a call for another key leaves the entry
  held-other : (q : Call) → WhatBytes q.what → same k q.key ≡ false → q.time < last + c.lifetime
      → Kept c w (call c w q).world i × Held c (call c w q).world k i last
  held-other q b ne soon =
      let u = other-keeps c w q k i b g.fits ne g.held (lives q.time soon) in (
        record { assembled = ap (λ (e : Entry). e.state.assembled) u.entry; upload = u.upload },
        record { fits = call_fits c w q b g.fits; slot = g.slot; held = rw u.entry g.held; touched = rw u.entry g.touched },
      )

  -- a response on the key leaves what is assembled
  module _ (q : Call) (mine : k ≡ q.key) (r : Response) (is : q.what ≡ response r) (soon : q.time < last + c.lifetime) where
    abbrev Leaves : World → Type 0
    Leaves v =
        ((entry_at v i).state.assembled ≡ (entry_at w i).state.assembled) × (v.upload ≡ w.upload) × (holds k (entry_at v i) ≡ true) × (last ≤ (entry_at v i).touched)

    touched-before : w.table.clock ≤ q.time → last ≤ q.time
    touched-before later =
        let f = g.fits in
        let e = entry-fits c w.table.clock (entry_at w i) (holds-used k (entry_at w i) g.held) (f.table.each i (omega (arith, f.sixteen, g.slot))) in
        omega (arith, e.touched, g.touched)

    response-leaves : Leaves (call c w q).world
    unfolding call_at
    response-leaves =
        early-or-placed (λ (d : Done). Leaves d.world) c w q (λ n h. (refl, refl, g.held, g.touched))
        (λ ok later i16.
        let here : place_of c w q ≡ i = rw mine at (held_place q.time soon) in
        let from : opened_of c w q ≡ entry_at w i = rw mine at (held-opened q.time soon) in
        let long = row-length c w.table q.time g.fits.table g.fits.sixteen in
        let key : key_of (entry_at w i).key ≡ q.key = rw from at (opened-key q.key (row_of c w q) long) in
        let own : same k q.key ≡ true = rw (← mine) (same_refl k) in
        let step = storing-assembled c (entry_at w i).state (piece_of c.response i w.response) r in
        rw (is, here, at_set_same (row_of c w q) i _ (omega (arith, long, g.slot)), from) (step, refl, holds-new k q.key (entry_at w i).key q.time _ key ∙ own, touched-before later))

  -- so does any call that is no request on the key
  held_any : (q : Call) → WhatBytes q.what → asks k q ≡ false → q.time < last + c.lifetime → Kept c w (call c w q).world i × Held c (call c w q).world k i last
  held_any q b other soon =
      by_cases (same k q.key) (λ y. own q.what refl y) (λ n. held-other q b n soon)
    where
      own : (x : What) → q.what ≡ x → same k q.key ≡ true → Kept c w (call c w q).world i × Held c (call c w q).world k i last
      own (request r) is y = absurd (false≢true (sym (rw (y, is) at other)))
      own (response r) is y =
          let l = response-leaves q (same-eq k q.key y) r is soon in (
            record { assembled = l.0; upload = ap (piece_of c.upload i) l.1 },
            record { fits = call_fits c w q b g.fits; slot = g.slot; held = l.2; touched = l.3 },
          )

-- any number of calls that are no requests on the key, none later than `end`, leave what is assembled
pub held-others : (c : Config) (k : Name) (i last end : ℕ) → end < last + c.lifetime → (calls : List Call) (w : World) → Held c w k i last → AllBytes calls
    → All (λ q. q.time ≤ end) calls → requests_on k calls ≡ [] → Kept c w (after call c w calls) i × Held c (after call c w calls) k i last
held-others c k i last end soon [] w g ab nl own = (record { assembled = refl; upload = refl }, g)
held-others c k i last end soon (q ∷ calls) w g ab nl own =
    by_cases (asks k q)
    (λ y. absurd (cons≢nil (rw y at own)))
    (λ n.
    let a = held_any c w k i last g q ab.0 n (omega (arith, nl.0)) in
    let b = held-others c k i last end soon calls (call c w q).world a.1 ab.1 nl.1 (rw n at own) in
    (record { assembled = b.0.assembled ∙ a.0.assembled; upload = b.0.upload ∙ a.0.upload }, b.1))
