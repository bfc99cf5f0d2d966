-- The laws that the covered functions use, by their branches. Assumes nothing.
use Prim.Native.Nat.{ℕ, ◌^◌, ◌≤◌, ◌<◌}
use mathlib.Core.Bool.{Bool, true, false}
use mathlib.Core.Path.{◌≡◌, refl, ap, ◌∙◌}
use mathlib.Core.List.{List}
use native.Mathlib.Omega.{arith}
use borrow.Author.Tests.{eqb-true, ltb-true, leb-true}
use Rattle.refusal.specs.declared.Refusal.TheVariants.{OffLimits}
use Rattle.config.specs.declared.Config.{Config}
use Rattle.block_state.specs.declared.BlockState.{BlockState}
use Rattle.block_state.specs.declared.Answer.{Answer}
use Rattle.block_state.specs.declared.Answer.TheVariants.{Refused}
use Rattle.block_state.specs.Step.{Left, left}
use Rattle.block_state.specs.Contract.{Room}
use Rattle.pieces.proofs.Tests.{ands}
use Rattle.block_state.proofs.Fits.{StateFits, state-fits, assembled-most}
use Rattle.entries.specs.declared.Entry.{Entry}
use Rattle.entries.specs.Entries.{in_use}
use Rattle.replies.specs.declared.Reply.{Reply}
use Rattle.replies.specs.Reply.{reply_of}
use Rattle.lent_steps.specs.Lent.{lent, usable, request_room, response_room, if_room, Leaves}

module _ (c : Config) (home away time : ℕ) (e : Entry) (n : ℕ) where
  pub room_of_lem : request_room c home away time e n ≡ true → Room c home away e.state n
  unfolding usable
  room_of_lem h =
      let size : n ≡ c.upload = eqb-true n c.upload (search ands) in
      let fits : StateFits c e.state = state-fits c e.state (search ands) in
      record {
        size = size;
        small = ltb-true n 4294967296 (search ands);
        holds = omega (arith, size, assembled-most c e.state.assembled fits.assembled);
        home = ltb-true home 4294967296 (search ands);
        away = ltb-true away 4294967296 (search ands);
      }

module _ (c : Config) (time : ℕ) (e : Entry) (n h : ℕ) where
  pub reply-room : response_room c time e n h ≡ true → (n ≡ c.response) × (n < 2 ^ 32) × (h ≤ 128)
  unfolding usable
  reply-room room = (eqb-true n c.response (search ands), ltb-true n 4294967296 (search ands), leb-true h 128 (search ands))

-- What a call leaves, with room and without.
module _ (room : Bool) (time : ℕ) (e : Entry) (u : List ℕ) (g : Left) where
  pub with-room : room ≡ true → if_room room time e u g ≡ lent (in_use e.key time g.state) g.piece g.answer
  unfolding if_room
  with-room h = rw h

  module _ (e' : Entry) (r : Reply) where
    pub leaves_all : room ≡ false → (e' ≡ e) × (r ≡ reply_of (Refused OffLimits)) → Leaves (if_room room time e u g) e' u r
    unfolding if_room
    leaves_all h is = rw h (is.0, refl, is.1)

    pub leaves-step : (s : BlockState) (d : List ℕ) (a : Answer) → room ≡ true → left s d a ≡ g → (e' ≡ in_use e.key time s) × (r ≡ reply_of a)
        → Leaves (if_room room time e u g) e' d r
    leaves-step s d a h k is =
        rw (with-room h)
        (is.0 ∙ ap (λ (x : Left). in_use e.key time x.state) k, ap (λ (x : Left). x.piece) k, is.1 ∙ ap (λ (x : Left). reply_of x.answer) k)
