-- Names for what is computed with: a proof by computation that says `unfolding calls` opens all definitions of a call, and so for the parts.
use Rattle.pieces.specs.Memory as memory
use Rattle.splicing.specs.Splice as splice
use Rattle.config.specs.Mode as mode
use Rattle.block_value.specs.Value as value
use Rattle.block_option.specs.Uint as uint
use Rattle.block_option.specs.Option as option
use Rattle.negotiation.specs.Negotiation as negotiation
use Rattle.chunks.specs.Chunk as chunk
use Rattle.block_state.specs.State as state
use Rattle.request_block2.specs.Block2 as block2
use Rattle.request_block1.specs.Block1 as block1
use Rattle.request_step.specs.Step as step
use Rattle.response_step.specs.Step as reply
use Rattle.keys.specs.Keys as keys
use Rattle.entries.specs.Entries as entries
use Rattle.entries.specs.Held as held
use Rattle.block_table.specs.Table as table
use Rattle.key_place.specs.Place as place
use Rattle.places.specs.Places as places
use Rattle.judge.specs.Limits as judge
use Rattle.call.specs.Call as h

unfoldable options : Unit {0}
unfolding mode.byte_limit mode.nums uint.uint uint.shortest option.read_of negotiation.request_block
options = tt

unfoldable pub values : Unit {0}
unfolding options mode.num_limit value.largest_power value.made value.size_of negotiation.negotiated negotiation.within negotiation.reply_at chunk.chunk_of
values = tt

unfoldable pub memories : Unit {0}
unfolding memory.patch memory.part memory.within memory.piece_of memory.put_piece splice.splice_of splice.spliced splice.piece_after
memories = tt

unfoldable taking : Unit {0}
unfolding values memories block1.bad_form block1.not_next block1.length_met block1.taken block2.served block2.onward
taking = tt

-- the steps of both calls
unfoldable pub steps : Unit {0}
unfolding taking step.block1_given step.on_negotiated step.step_request reply.chunked reply.on_reply reply.step_response
steps = tt

unfoldable pub entry : Unit {0}
unfolding state.assembled_ok state.cached_ok state.recorded_ok state.state_ok state.is_nothing keys.key_of keys.stored_ok keys.stored keys.is_no_key entries.entry_ok
entry = tt

-- the limits of a configuration, a table and a call
unfoldable pub limits : Unit {0}
unfolding entry keys.same keys.key_ok entries.holds entries.clash held.held_by held.held table.distinct table.figure_ok table.table_ok judge.config_ok judge.memories_ok h.what_ok h.within_limits
limits = tt

unfoldable pub calls : Unit {0}
unfolding steps limits entries.live entries.swept entries.sweep place.place places.opened h.call_at h.call
calls = tt
