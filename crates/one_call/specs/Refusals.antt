-- THE REFUSALS LEAVE WHAT DOCUMENT 01 SAYS ("The ten refusals", column "Leaves"; of 8 in a request only that the cache is kept), whatever the
-- configuration, the table, the memories and the call.
use Rattle.refusal.specs.Numbers.{refusal_number}
use Rattle.std.specs.Prelude.{ℕ, ◌≤◌, ◌≡◌, length}
use Rattle.refusal.specs.declared.Refusal.{Refusal}
use Rattle.refusal.specs.declared.Refusal.TheVariants.{PastTheEnd}
use Rattle.config.specs.declared.Config.{Config}
use Rattle.block_state.specs.declared.Answer.TheVariants.{Refused}
use Rattle.block_state.specs.Message.{Request, Response, request, response}
use Rattle.key_place.specs.Place.{place}
use Rattle.places.specs.Places.{opened}
use Rattle.call.specs.Call.{World, Call, row_of}
use Rattle.one_call.specs.Handler.{Handler, entry_at}
use Rattle.one_call.specs.Touch.{touched}

pub record RefusalsLeave (h : Handler) : Type 0 where
  -- There are ten, as the type says: each has one of their numbers.
  pub ten : (c : Config) (w : World) (q : Call) (n : Refusal) → (h c w q).answer ≡ Refused n → (1 ≤ refusal_number n) × (refusal_number n ≤ 10)
  -- 1, 2 and 3 leave everything.
  pub everything : (c : Config) (w : World) (q : Call) (n : Refusal) → (h c w q).answer ≡ Refused n → refusal_number n ≤ 3 → (h c w q).world ≡ w
  -- 4, 5, 6, 7, 9 and 10 leave all but the touch .. (That a table has sixteen entries is given by its type.)
  pub touch : (c : Config) (w : World) (q : Call) (n : Refusal) → length w.table.entries ≡ 16 → (h c w q).answer ≡ Refused n → 4 ≤ refusal_number n → (refusal_number n ≡ 8 → ⊥)
      → (h c w q).world ≡ touched c w q
  -- .. and so does 8, of a response.
  pub eight : (c : Config) (w : World) (q : Call) (r : Response) → length w.table.entries ≡ 16 → q.what ≡ response r → (h c w q).answer ≡ Refused PastTheEnd
      → (h c w q).world ≡ touched c w q
  -- Of a request, 8 keeps the cache.
  pub cache : (c : Config) (w : World) (q : Call) (r : Request) → length w.table.entries ≡ 16 → q.what ≡ request r → (h c w q).answer ≡ Refused PastTheEnd
      → (entry_at (h c w q).world (place q.key (row_of c w q))).state.cached ≡ (opened q.key (row_of c w q)).state.cached
