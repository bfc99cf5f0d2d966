-- PENDING TRANSFERS ACROSS AN UPDATE (document 02): a world's live entries are saved as an image, and the image is loaded into a fresh table. A world is a table and its two
-- memories. What is promised: the same live entries, the same answers, and demand 3 across any number of updates; which images are loaded, and what they leave; and that an image
-- loaded is saved as the same bytes. (How a promise is read is said in crates/demands/specs/Demand3.antt.)
use Rattle.std.specs.Prelude.{ℕ, ◌+◌, ◌*◌, ◌^◌, ◌≤◌, ◌<◌, true, ◌≡◌, List, [], ◌∷◌, map, length, take, drop}
use Rattle.pieces.specs.Memory.{piece_of}
use Rattle.config.specs.declared.Config.{Config}
use Rattle.block_option.specs.Uint.{Bytes}
use Rattle.keys.specs.Keys.{Name}
use Rattle.block_table.specs.Table.{at, table_of}
use Rattle.call.specs.Call.{World, Call, Done, call}
use Rattle.call.specs.Contract.{Meant}
use Rattle.one_call.specs.Handler.{Handler, entry_at}
use Rattle.demands.specs.Demand3.{seen_on, Sent, call_on, joined, All, AllBytes, Blocks, Granted, HandsOn}
use Rattle.demands.specs.Falling.{FallingBlocks}
use Rattle.demands.specs.Clocks.{GrantedOwn}
use Rattle.demands.specs.Compiled.{seen_of}
use Rattle.alike.specs.Alike.{InLimits, live_at, Alike, tells, told_of, seen_asking}
use Rattle.image_format.specs.Image.{Image, image_bytes}
use Rattle.image_format.specs.Promises.{Laid, plain, plainly, ImageOf}
use Rattle.image_writer.specs.Save.{live_entries, image_of, saving, saved, output_after}
use Rattle.image_reader.specs.Load.{fresh_ok, world_of, loading, loaded}

-- What the types give of a world beside sixteen entries: its clock has 64 bits, and a key is stored in 64 bytes.
pub record Typed (w : World) : Type 0 where
  pub clock : w.table.clock < 2 ^ 64
  pub keys : (i : ℕ) → i < 16 → length (entry_at w i).key.bytes ≡ 64

-- The bytes of a world's image; and the world that is there when those are loaded into x.
abbrev pub image : Config → World → List ℕ
image c w = image_bytes (image_of c w)

abbrev pub moved : Config → World → World → World
moved c w x = (loaded c x (image c w)).world

-- ---- Saving

-- An image has at most 32 + 16 * 96 + 16U + 16V bytes: in so much room saving is never refused with 22.
unfoldable pub ImageFits : Type 0
ImageFits = (c : Config) (w : World) → InLimits c w → Typed w → length (image c w) ≤ 1568 + 16 * c.upload + 16 * c.response

-- The header says where the parts stand.
unfoldable pub SavedStands : Type 0
SavedStands = (c : Config) (w : World) → InLimits c w → Typed w → Laid (image_of c w) (image c w)

-- In an output that has room, the image stands at the start and the rest is as it was. The answer is its length.
unfoldable pub SavedWhole : Type 0
SavedWhole =
    (c : Config) (w : World) (out : List ℕ) → InLimits c w → Typed w → length (image c w) ≤ length out
    → let n = length (image c w) in
    let s = saved c w (length out) in
    (s ≡ saving 0 n) × (take n (output_after c w out s) ≡ image c w) × (drop n (output_after c w out s) ≡ drop n out)

-- ---- Loading what was saved

-- World v is w's live entries in x's memories.
pub record Carried (c : Config) (w x v : World) : Type 0 where
  -- The table has w's clock and its live entries, each in its place, with zeros behind their keys; the other entries are free.
  pub table : v.table ≡ table_of w.table.clock (map plain (live_entries c w.table))
  -- No call tells v from w: "the same live entries and the same answers".
  pub alike : Alike c w v
  -- In each piece of both memories all but the entry's own bytes is as it was in x.
  pub upload : (i : ℕ)
      → let n = (at (live_entries c w.table) i).state.assembled.len in drop n (piece_of c.upload i v.upload) ≡ drop n (piece_of c.upload i x.upload)
  pub response : (i : ℕ)
      → let h = (at (live_entries c w.table) i).state.cached in
      drop (h.head + h.payload) (piece_of c.response i v.response) ≡ drop (h.head + h.payload) (piece_of c.response i x.response)

-- "LOADING WHAT WAS SAVED gives the same live entries and the same answers under the same configuration", into any fresh table and any memories.
unfoldable pub SavedLoads : Type 0
SavedLoads =
    (c : Config) (w x : World) → InLimits c w → Typed w → fresh_ok c x ≡ true → ((loaded c x (image c w)).refusal ≡ 0) × Carried c w x (moved c w x)

-- "The same answers", in full: all that any calls tell afterwards is what they would have told.
unfoldable pub SameAfterLoad : Handler → Type 0
SameAfterLoad h =
    (c : Config) (w x : World) (calls : List Call) → InLimits c w → Typed w → fresh_ok c x ≡ true → AllBytes calls → tells h c (moved c w x) calls ≡ tells h c w calls

-- What the types give stays so: after any call whose time has 64 bits, and after loading what was saved.
pub record TypedKept : Type 0 where
  pub called : (c : Config) (w : World) (q : Call) → InLimits c w → Typed w → q.time < 2 ^ 64 → Typed (call c w q).world
  pub moved : (c : Config) (w x : World) → InLimits c w → Typed w → fresh_ok c x ≡ true → Typed (moved c w x)

-- ---- A run with updates

-- A run from w on with updates, as many as one likes, before, between and after the calls: the live entries are saved, and loaded into a fresh table and any memories. `results` is
-- what each call left and answered, as its contract says.
pub data Updated (c : Config) : World → List Call → List Done → Type 0 where
  ends : {w : World} → Updated c w [] []
  called : {w : World} {q : Call} {d : Done} {rest : List Call} {results : List Done} → Meant c w q d.world d.answer → Updated c d.world rest results
      → Updated c w (q ∷ rest) (d ∷ results)
  updated : {w : World} (x : World) {rest : List Call} {results : List Done} → fresh_ok c x ≡ true → Updated c (moved c w x) rest results → Updated c w rest results

-- A call's time has 64 bits, as the types give it.
abbrev pub AllTimes : List Call → Type 0
AllTimes = All (λ q. q.time < 2 ^ 64)

-- THE UPDATES ARE NOT SEEN: such a run tells exactly what the definition's run tells that has none.
unfoldable pub UpdatesNotSeen : Type 0
UpdatesNotSeen =
    (c : Config) (w : World) (calls : List Call) (results : List Done) → InLimits c w → Typed w → AllBytes calls → AllTimes calls → Updated c w calls results
    → told_of calls results ≡ tells call c w calls

-- "DEMAND 3 HOLDS ACROSS SUCH A SAVE AND LOAD", in its strongest form: sizes may fall, other keys' clocks may go back, and the key's own responses may stand anywhere.
unfoldable pub Demand3Updated : Type 0
Demand3Updated =
    (c : Config) (w : World) (k : Name) (x : ℕ → ℕ) (first : Sent) (rest : List Sent) (later : List Call) (results : List Done)
    → FallingBlocks c x first rest → GrantedOwn c w k first rest later → Typed w → AllTimes (call_on k first ∷ later) → Updated c w (call_on k first ∷ later) results
    → HandsOn (joined first rest) (seen_asking k (call_on k first ∷ later) (seen_of (call_on k first ∷ later) results))

-- And as the mission has it.
unfoldable pub MissionUpdated : Type 0
MissionUpdated =
    (c : Config) (w : World) (k : Name) (x : ℕ) (first : Sent) (rest : List Sent) (later : List Call) (results : List Done)
    → Blocks c x first rest → Granted c w k first rest later → Typed w → AllTimes (call_on k first ∷ later) → Updated c w (call_on k first ∷ later) results
    → HandsOn (joined first rest) (seen_on k (seen_of (call_on k first ∷ later) results))

-- ---- Loading any image, saved by us or not

-- EXACTLY: with a fresh table, an image is loaded if its bytes are those of an image whose table is within the limits, and only then. What is then there is what it holds. In any
-- other case there is a refusal, and all is as it was.
pub record LoadsExactly : Type 0 where
  pub loads : (c : Config) (x : World) (l : List ℕ) (k : Image) → fresh_ok c x ≡ true → ImageOf c l k → loaded c x l ≡ loading 0 (world_of c x (plainly k))
  pub only : (c : Config) (x : World) (l : List ℕ) → Bytes l → (loaded c x l).refusal ≡ 0 → (fresh_ok c x ≡ true) × ((k : Image) × ImageOf c l k)
  pub leaves : (c : Config) (x : World) (l : List ℕ) → ((loaded c x l).refusal ≡ 0 → ⊥) → (loaded c x l).world ≡ x

-- Whatever is loaded is within the limits: no call gets refusal 1 on its account.
unfoldable pub LoadsWithin : Type 0
LoadsWithin = (c : Config) (x : World) (l : List ℕ) → (loaded c x l).refusal ≡ 0 → InLimits c (loaded c x l).world

-- What was loaded, if every entry in use is live at the image's clock, is saved again as the very same bytes.
unfoldable pub SavesBack : Type 0
SavesBack =
    (c : Config) (x : World) (l : List ℕ) → (loaded c x l).refusal ≡ 0
    → let v = (loaded c x l).world in
    ((i : ℕ) → i < 16 → (entry_at v i).used ≡ true → live_at c v i ≡ true) → image c v ≡ l
