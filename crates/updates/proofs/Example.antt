-- The example, computed. Assumes nothing.
use mathlib.Core.Bool.{true}
use mathlib.Core.Path.{◌≡◌, refl}
use native.Mathlib.Omega.{arith}
use lib.Dec.{eqb}
use lib.ListN.{length}
use borrow.Author.Tests.{eqb-true}
use Rattle.pieces.specs.Memory.{part, patch, piece_of}
use Rattle.block_option.specs.Uint.{uint}
use Rattle.block_state.specs.State.{assembled_ok, cached_ok, recorded_ok, state_ok, is_nothing}
use Rattle.big_endian.specs.Numbers.{in_bytes, number_at}
use Rattle.keys.specs.Keys.{same, key_of, stored, stored_ok, is_no_key}
use Rattle.keys.proofs.Lists.{all-at}
use Rattle.entries.specs.Entries.{free, holds, entry_ok, clash, live, swept, sweep}
use Rattle.entries.specs.Held.{held_by, held}
use Rattle.block_table.specs.Table.{distinct, figure_ok, table_ok}
use Rattle.judge.specs.Limits.{config_ok, memories_ok}
use Rattle.one_call.specs.Handler.{entry_at}
use Rattle.alike.specs.Alike.{InLimits, Alike}
use Rattle.image_format.specs.Rows.{row_bytes, read_entry}
use Rattle.image_format.specs.Image.{header, image_bytes, read_entries, read_image, image_ok}
use Rattle.image_writer.specs.Save.{saved}
use Rattle.image_reader.specs.Load.{is_fresh, fresh_ok, loaded}
use Rattle.updates.specs.Updates.{Typed, moved, SavedLoads}
use Rattle.updates.specs.Example.{config, before, after, Story, Apart}
use Rattle.updates.proofs.Carried.{saved-loads}

-- what the limits and the figure are made of
unfoldable limits : Unit {0}
unfolding assembled_ok cached_ok recorded_ok state_ok is_nothing same key_of stored stored_ok is_no_key holds entry_ok clash held_by held distinct figure_ok table_ok config_ok memories_ok
limits = tt

-- and writing and reading
unfoldable images : Unit {0}
unfolding part patch piece_of uint in_bytes number_at live swept sweep row_bytes read_entry header image_bytes read_entries read_image image_ok is_fresh fresh_ok loaded
images = tt

pub story : Story
unfolding limits images saved
story =
    record {
      saves = refl;
      room = refl;
      small = refl;
      loads = refl;
      live = refl;
      gone = refl;
      held = refl;
      counted = refl;
      upload = refl;
      response = refl;
      cut = refl;
      longer = refl;
      offset = refl;
      nowhere = refl;
      flag = refl;
      zero = refl;
      behind = refl;
      touch = refl;
      used = refl;
    }

within : InLimits config before
unfolding limits
within = record { config = refl; memories = refl; sixteen = refl; table = refl }

typed : Typed before
unfolding stored
typed =
    record {
      clock = omega arith;
      keys = λ i h.
          eqb-true (length (entry_at before i).key.bytes) 64 (all-at (λ e. eqb (length e.key.bytes) 64) free before.table.entries refl i (omega arith));
    }

is-fresh : fresh_ok config after ≡ true
unfolding limits is_fresh fresh_ok
is-fresh = refl

no_difference : Alike config before (moved config before after)
unfolding SavedLoads
no_difference = (saved-loads config before after within typed is-fresh).1.alike

pub apart : Apart
unfolding limits images
apart = record { entry = refl; free = refl; alike = no_difference }
