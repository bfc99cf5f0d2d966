-- Laws of what a call sees of the table. Assumes nothing.
use Prim.Native.Nat.{ℕ}
use mathlib.Core.Path.{◌≡◌, ◌∙◌}
use Rattle.config.specs.declared.Config.{Config}
use Rattle.keys.specs.Keys.{Name}
use Rattle.block_table.specs.declared.Table.{Table}
use Rattle.block_table.specs.Quick.{figured}
use Rattle.block_table.proofs.Changed.{with-own}
use Rattle.places.specs.declared.Sight.{Sight}
use Rattle.places.specs.Sight.{place_in, index_of, sight_at, Sees}

module _ (c : Config) (time : ℕ) (key : Name) (t : Table) (s : Sight) (sees : Sees c time key t s) where
  -- an entry that is put where it was seen, with the figure that was seen
  pub seen_back : figured s.clock s.held t.entries s.at s.entry ≡ t
  unfolding sight_at
  seen_back =
      (λ k. figured (sees.0 k).clock (sees.0 k).held t.entries (sees.0 k).at (sees.0 k).entry)
      ∙ with-own t (index_of (place_in c time key t))
