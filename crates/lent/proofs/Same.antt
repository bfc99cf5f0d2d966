-- A call on a lent entry is block_handler's call at its place: the same step, put back by the caller; and where the checks before it pass, it is the whole
-- call. Assumes nothing.
use Prim.Native.Nat.{ℕ, ◌+◌, ◌-◌, ◌*◌, ◌≤◌, ◌<◌}
use mathlib.Core.Bool.{Bool, true, false}
use mathlib.Core.Path.{◌≡◌, refl, ◌∙◌}
use mathlib.Core.List.{List}
use lib.ListN.{length}
use native.Mathlib.Omega.{arith}
use borrow.Author.Tests.{eqb-true, eq-eqb, lt-ltb, le-ltb, le-leb, lt-leb}
use Rattle.pieces.specs.Memory.{piece_of, put_piece}
use Rattle.pieces.proofs.Memory.{piece-order, length-piece}
use Rattle.pieces.proofs.Tests.{ands}
use Rattle.block_state.proofs.Fits.{fits-state}
use Rattle.config.specs.declared.Config.{Config}
use Rattle.block_state.specs.Message.{What, request, response}
use Rattle.entries.specs.declared.Entry.{Entry}
use Rattle.entries.specs.Held.{held_by, held}
use Rattle.entries.proofs.Held.{held-set}
use Rattle.block_table.specs.Table.{at, table_with}
use Rattle.block_table.proofs.TableFits.{table_fits}
use Rattle.key_place.specs.Place.{place}
use Rattle.places.specs.Places.{opened}
use Rattle.places.proofs.Places.{opened-own, opened-new}
use Rattle.places.proofs.Put.{opened-fits}
use Rattle.judge.specs.Limits.{memories_ok}
use Rattle.call.specs.Call.{World, Call, done, what_ok, within_limits, row_of, call_at, call}
use Rattle.judge.proofs.Judged.{ConfigFits, config-fits}
use Rattle.lent_steps.specs.Lent.{Lent, usable, request_room, response_room, request_lent, response_lent}
use Rattle.lent_steps.proofs.Forms.{with-room}

-- The pieces of the key at place i.
module _ (c : Config) (w : World) (i : ℕ) where
  abbrev up : List ℕ
  up = piece_of c.upload i w.upload

  abbrev down : List ℕ
  down = piece_of c.response i w.response

-- What a caller does with entry e of a row, for place i: it lends the entry and its piece to the call, and puts both back, with the clock and the figure.
module _ (c : Config) (w : World) (time i : ℕ) where
  abbrev room_at : Entry → What → Bool
  room_at e (request r) = request_room c (i * c.upload) (i * c.response) time e (length (up c w i))
  room_at e (response r) = response_room c time e (length (down c w i)) (length r.head)

  abbrev lent_at : Entry → What → Lent
  lent_at e (request r) = request_lent c (i * c.upload) (i * c.response) time e (up c w i) r
  lent_at e (response r) = response_lent c time e (down c w i) r

  abbrev put_back : List Entry → What → Lent → World
  put_back row (request r) g = record { table = table_with time row i g.entry; upload = put_piece c.upload i g.piece w.upload; response = w.response }
  put_back row (response r) g = record { table = table_with time row i g.entry; upload = w.upload; response = put_piece c.response i g.piece w.response }

  pub same-call : (row : List Entry) (e : Entry) (x : What) → room_at e x ≡ true → call_at c w time row i e x ≡ done (put_back row x (lent_at e x)) (lent_at e x).answer
  unfolding call_at
  same-call row e (request r) h = rw (with-room _ time e (up c w i) _ h)
  same-call row e (response r) h = rw (with-room _ time e (down c w i) _ h)

  -- The row has no figure of its own. A caller that keeps a table puts this one beside it: what the row holds that the walk left, less what stood at the place, plus what the entry
  -- that comes back holds.
  pub put-figure : (row : List Entry) (x : What) (g : Lent) → i < length row → (put_back row x g).table.held ≡ (held row - held_by (at row i)) + held_by g.entry
  put-figure row (request r) g below = held-set row i g.entry below
  put-figure row (response r) g below = held-set row i g.entry below

module _ (c : Config) (w : World) (q : Call) where
  abbrev row : List Entry
  row = row_of c w q

  abbrev there : ℕ
  there = place q.key row

  -- The entry that is lent: the one in use for the key, or a new one.
  abbrev own : Entry
  own = opened q.key row

  own-used : (z : Bool) → (at row there).used ≡ z → own.used ≡ true
  own-used true h = rw (opened-own q.key row h) h
  own-used false h = rw (opened-new q.key row h) refl

  module _ (sixteen : length w.table.entries ≡ 16) (limits : within_limits c w q ≡ true) (clock : w.table.clock ≤ q.time) (found : there < 16) where
    -- The entry and its piece of a memory m, which has sixteen pieces of this size.
    module _ (size : ℕ) (m : List ℕ) (small : size ≤ 16777216) (whole : length m ≡ 16 * size) where
      placed : there * size < 4294967296
      placed = omega (arith, piece-order there 16 size found)

      lendable : usable c size q.time own (length (piece_of size there m)) ≡ true
      unfolding usable within_limits
      lendable =
          let same : length (piece_of size there m) ≡ size = length-piece size m there (rw whole (piece-order there 16 size found)) in
          let fits = opened-fits c w.table q.time (table_fits c w.table (search ands)) sixteen clock q.key (search ands) found in
          rw (
            eq-eqb (length (piece_of size there m)) size same,
            lt-ltb (length (piece_of size there m)) 4294967296 (omega arith),
            own-used (at row there).used refl,
            le-leb own.touched q.time fits.touched,
            fits-state c own.state fits.state,
          )

    room_by : ConfigFits c → length w.upload ≡ 16 * c.upload → length w.response ≡ 16 * c.response
        → (x : What) → what_ok x ≡ true → room_at c w q.time there own x ≡ true
    unfolding what_ok
    room_by config u v (request r) said =
        rw (
          lendable c.upload w.upload config.upload u,
          lt-ltb (there * c.upload) 4294967296 (placed c.upload w.upload config.upload u),
          lt-ltb (there * c.response) 4294967296 (placed c.response w.response (omega (arith, config.response)) v),
        )
    room_by config u v (response r) said = rw (lendable c.response w.response (omega (arith, config.response)) v) (search ands)

    -- The checks before a call give all that a lent entry needs.
    has_room : room_at c w q.time there own q.what ≡ true
    unfolding within_limits memories_ok
    has_room =
        room_by (config-fits c (search ands))
        (eqb-true (length w.upload) (16 * c.upload) (search ands)) (eqb-true (length w.response) (16 * c.response) (search ands))
        q.what (search ands)

    -- The walk gives the place and leaves the row; the entry there, or a new one for the key, is lent; what is left is put back, and the clock is set.
    pub whole-call : call c w q ≡ done (put_back c w q.time there row q.what (lent_at c w q.time there own q.what)) (lent_at c w q.time there own q.what).answer
    unfolding call
    whole-call =
        let checked : call c w q ≡ call_at c w q.time row there own q.what = rw (limits, le-ltb q.time w.table.clock clock, lt-leb 16 there found) in
        checked ∙ same-call c w q.time there row own q.what has_room
